use Rattle.std.proofs.Common.{◌≡◌, length}
use Rattle.kdc_prelude.specs.Steps.{with_front}
use Rattle.krb_names.specs.Utf16.{units_of_octets}
use Rattle.krb_names.proofs.utf16.read_units.Given as goal

abbrev pub invariant-loop-left : goal.invariant-loop-left
invariant-loop-left l = with_front l.units.items (units_of_octets l.left) ≡ units_of_octets l.octets

abbrev pub decreases-loop-left : goal.decreases-loop-left
decreases-loop-left l = length l.left
