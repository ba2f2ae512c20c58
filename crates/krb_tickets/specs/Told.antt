-- What a call that reads a message tells of its reading: of a fault the place alone.
use Rattle.std.specs.Prelude.{Result, Ok, Err}
use Rattle.der_core.specs.declared.refusal.DerRefusal.{DerRefusal}
use Rattle.krb_tickets.specs.declared.fault.TicketFault.{TicketFault}
use Rattle.krb_tickets.specs.declared.fault.TicketFault.TheVariants as faults

abbrev pub told : {X : Type 0} → Result X DerRefusal → Result X TicketFault
told (Ok x) = Ok x
told (Err refusal) = Err (faults.Malformed (record { place = refusal.place }))
