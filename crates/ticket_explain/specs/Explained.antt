-- What is printed of a ticket, or the rule that refuses it (own choice).
use Rattle.std.specs.Prelude.{ℕ, List, ◌++◌, Result, Ok, Err}
use Rattle.hex.specs.Hex.{decode_of}
use Rattle.hex.specs.declared.error.FromHexError.{FromHexError}
use Rattle.kdc_prelude.specs.Answers.{or_fault}
use Rattle.kdc_prelude.specs.Lines.{without_last_newline}
use Rattle.kdc_prelude.specs.Results.{◌>>=◌}
use Rattle.der_core.specs.Codec.{whole}
use Rattle.der_core.specs.declared.refusal.DerRefusal.{DerRefusal}
use Rattle.kdc_records.specs.declared.rule.Rule.{Rule}
use Rattle.kdc_records.specs.declared.rule.Rule.TheVariants.{P2, P3, P4, P5, U3}
use Rattle.dir_records.specs.DirectoryValue.{DirectoryValue}
use Rattle.krb_tickets.specs.declared.ticket.Ticket.{Ticket}
use Rattle.krb_tickets.specs.Ticket.{ticket}
use Rattle.kdc_records.specs.declared.ticket_rec.TicketRec.{TicketRec}
use Rattle.ticket_codec.specs.declared.opening.Opened.{Opened}
use Rattle.ticket_codec.specs.declared.fault.Unopened.{Unopened}
use Rattle.ticket_codec.specs.declared.fault.Unopened.TheVariants.{WrongKey, Unreadable}
use Rattle.ticket_codec.specs.Opening.{opened_by}
use Rattle.ticket_codec.specs.Presented.{certified}
use Rattle.ticket_explain.specs.declared.fault.ExplainFault.{ExplainFault}
use Rattle.ticket_explain.specs.declared.fault.ExplainFault.TheVariants.{Deny}
use Rattle.ticket_explain.specs.declared.holders.Held.{Held}
use Rattle.ticket_explain.specs.Holders.{held}
use Rattle.ticket_explain.specs.Lines.{holder_line, record_lines, ticket_line}

-- the rule that refuses, as a fault
abbrev pub denied : {X : Type 0} → Result X Rule → Result X ExplainFault
denied (Ok x) = Ok x
denied (Err rule) = Err (Deny rule)

-- all that is told of a ticket with this holder and this record
unfoldable pub lines : Ticket → List ℕ → TicketRec → List ℕ
lines t holder rec = ticket_line t ++ holder_line holder ++ record_lines rec

-- what is told of a ticket that was opened; P5 where its PAC does not read or a signature is wrong
unfoldable pub told_opened : DirectoryValue → ℕ → Ticket → List ℕ → Opened → Result (List ℕ) Rule
told_opened dir at t holder opened = or_fault P5 (certified dir at opened) >>= λ shown. Ok (lines t holder shown.rec)

-- the rule that refuses a ticket that does not open: P3 where the key's version or type is not the ticket's, P4 where the ticket
-- does not open or what was sealed does not read
abbrev pub opening_rule : Unopened → Rule
opening_rule WrongKey = P3
opening_rule Unreadable = P4

abbrev pub ruled : {X : Type 0} → Result X Unopened → Result X Rule
ruled (Ok x) = Ok x
ruled (Err unopened) = Err (opening_rule unopened)

-- what is told of a ticket whose holder is known
unfoldable pub told_of : DirectoryValue → Ticket → Held → Result (List ℕ) Rule
told_of dir t h = ruled (opened_by t h.holding) >>= told_opened dir h.realm t h.text

-- what is told of a ticket; P2 where its realm and name give no holder of a key
abbrev pub explained_ticket : DirectoryValue → Ticket → Result (List ℕ) Rule
explained_ticket dir t = or_fault P2 (held dir t) >>= told_of dir t

-- no ticket is refused by U3
abbrev pub explained_reading : DirectoryValue → Result Ticket DerRefusal → Result (List ℕ) Rule
explained_reading dir (Ok t) = explained_ticket dir t
explained_reading dir (Err refusal) = Err U3

-- no hex too
abbrev pub explained_bytes : DirectoryValue → Result (List ℕ) FromHexError → Result (List ℕ) Rule
explained_bytes dir (Ok bytes) = explained_reading dir (whole ticket bytes)
explained_bytes dir (Err fault) = Err U3

-- of one line of hex
abbrev pub explained : DirectoryValue → List ℕ → Result (List ℕ) Rule
explained dir input = explained_bytes dir (decode_of (without_last_newline input))
