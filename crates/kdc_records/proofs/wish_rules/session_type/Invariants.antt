use Rattle.std.proofs.Common.{◌≡◌, drop}
use Rattle.kdc_records.specs.Wishes.{session_type}
use Rattle.kdc_records.proofs.wish_rules.session_type.Given as goal

abbrev pub invariant-loop-number : goal.invariant-loop-number
invariant-loop-number l = session_type (drop l.number-index l.etypes) ≡ session_type l.etypes
