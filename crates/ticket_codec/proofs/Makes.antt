-- The ticket of a record can be written.
use Rattle.std.proofs.Common.{ℕ, ◌+◌, ◌<◌, ◌^◌, List, length, pos, arith}
use Rattle.std.specs.Prelude.{FitsSigned}
use Rattle.std.specs.Int.{w32}
use Rattle.der_core.specs.Laws.{IsBytes}
use Rattle.krb_names.specs.declared.etype.Etype.{Etype}
use Rattle.krb_names.specs.declared.etype.Etype.TheVariants.{Aes128, Aes256}
use Rattle.krb_names.specs.declared.key.Key.{Key}
use Rattle.krb_names.specs.declared.principal.Principal.{Principal}
use Rattle.krb_names.specs.Etypes.{etype_number}
use Rattle.krb_tickets.specs.Ticket.{ticket}
use Rattle.ticket_laws.specs.Writable.{IsWritableTicket}
use Rattle.ticket_laws.proofs.Tickets.{ticket_fits, ticket_is_short}
use Rattle.kdc_records.specs.declared.holder.Holder.{Holder}
use Rattle.kdc_records.specs.Parties.{version_of}
use Rattle.ticket_codec.specs.Made.{IsTicketName, ticket_with}

etype_fits : (e : Etype) → FitsSigned w32 (pos (etype_number e))
etype_fits Aes128 = record { sfits = omega arith }
etype_fits Aes256 = record { sfits = omega arith }

with_writable : (held_by : Holder) (sname : Principal) (issuer : List ℕ) (key : Key) (cipher : List ℕ) → IsTicketName issuer sname → version_of held_by < 2 ^ 32 → IsBytes cipher
    → IsWritableTicket (ticket_with held_by sname issuer key cipher)
with_writable held_by sname issuer key cipher name few bytes = record {
  realm = name.realm;
  sname_realm = name.same;
  sname_kind = name.kind;
  sname_parts = name.parts;
  etype = etype_fits key.etype;
  kvno = few;
  cipher = bytes;
}

pub with_fits : (held_by : Holder) (sname : Principal) (issuer : List ℕ) (key : Key) (cipher : List ℕ) → IsTicketName issuer sname → version_of held_by < 2 ^ 32 → IsBytes cipher
    → ticket.Fits (ticket_with held_by sname issuer key cipher)
with_fits held_by sname issuer key cipher name few bytes = ticket_fits (ticket_with held_by sname issuer key cipher) (with_writable held_by sname issuer key cipher name few bytes)

pub with_short : (held_by : Holder) (sname : Principal) (issuer : List ℕ) (key : Key) (cipher : List ℕ) → IsTicketName issuer sname → version_of held_by < 2 ^ 32 → IsBytes cipher → length cipher < 2 ^ 24 + 28
    → length (ticket.spelling (ticket_with held_by sname issuer key cipher)) < 2 ^ 25
with_short held_by sname issuer key cipher name few bytes short =
    let all = ticket_is_short (ticket_with held_by sname issuer key cipher) (with_writable held_by sname issuer key cipher name few bytes) in
    omega (arith, all, short)
