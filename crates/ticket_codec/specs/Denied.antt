-- What a call answers of a ticket that shows nothing.
use Rattle.std.specs.Prelude.{Result, Ok, Err}
use Rattle.kdc_records.specs.declared.rule.Rule.{Rule}
use Rattle.ticket_codec.specs.declared.fault.OpenFault.{OpenFault}
use Rattle.ticket_codec.specs.declared.fault.OpenFault.TheVariants as open_faults
use Rattle.ticket_codec.specs.declared.fault.ShowFault.{ShowFault}
use Rattle.ticket_codec.specs.declared.fault.ShowFault.TheVariants.{Deny}
use Rattle.ticket_codec.specs.declared.fault.Unopened.{Unopened}

-- the rule that fails
abbrev pub denied : {X : Type 0} → Result X Rule → Result X ShowFault
denied (Ok x) = Ok x
denied (Err rule) = Err (Deny rule)

-- what failed
abbrev pub unless_unopened : {X : Type 0} → Result X Unopened → Result X OpenFault
unless_unopened (Ok x) = Ok x
unless_unopened (Err unopened) = Err (open_faults.Unopened unopened)
