use Rattle.std.proofs.Common.{◌≡◌, ◌++◌, drop, length}
use Rattle.std.specs.Prelude.{flat_map}
use Rattle.std.specs.Str.{chars}
use Rattle.krb_names.proofs.Units.{char_octets}
use Rattle.krb_names.proofs.utf16.to_utf16le.Given as goal

abbrev pub invariant-loop-c : goal.invariant-loop-c
invariant-loop-c l = l.octets ++ flat_map char_octets (drop (length l.yielded) (chars l.text)) ≡ flat_map char_octets (chars l.text)
