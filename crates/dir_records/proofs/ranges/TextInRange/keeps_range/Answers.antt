use Rattle.std.proofs.lemmas.Str.{is_utf8-from_IsUtf8}
use Rattle.dir_records.proofs.ranges.TextInRange.keeps_range.Goals as goal

pub returns : goal.returns
returns c = rw (← c.as_str-text.ensures) (is_utf8-from_IsUtf8 c.as_str-text.result.now c.as_str-text.utf8)
