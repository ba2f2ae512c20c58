use Rattle.std.proofs.lemmas.Str.{is_utf8-from_IsUtf8}
use Rattle.dir_records.proofs.ranges.RealmInRange.keeps_range.Goals as goal

pub returns : goal.returns
returns c = rw (← c.as_str-name.ensures) (is_utf8-from_IsUtf8 c.as_str-name.result.now c.as_str-name.utf8)
