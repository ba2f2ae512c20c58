use Rattle.std.proofs.Common.{◌≡◌, ◌++◌, drop}
use Rattle.std.specs.Prelude.{flat_map}
use Rattle.krb_names.specs.Utf16.{unit_octets}
use Rattle.krb_names.proofs.utf16.push_units.Given as goal

abbrev pub invariant-loop-unit : goal.invariant-loop-unit
invariant-loop-unit l = l.octets ++ flat_map unit_octets (drop l.unit-index l.units) ≡ l.initial.octets ++ flat_map unit_octets l.units
