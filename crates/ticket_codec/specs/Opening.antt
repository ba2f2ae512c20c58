-- Opening a ticket that is shown (RFC 4120, section 3.2.3).
use Rattle.std.specs.Prelude.{ℕ, ◌==◌, ◌&&◌, Bool, true, List, Option, None, Some, option_map, Result, Ok, Err, if◌then◌else◌}
use Rattle.kdc_prelude.specs.Answers.{or_fault}
use Rattle.kdc_prelude.specs.Results.{◌>>=◌}
use Rattle.krb_names.specs.declared.key.Key.{Key}
use Rattle.krb_names.specs.Etypes.{etype_number}
use Rattle.krb_crypto.specs.Encryption.{opened}
use Rattle.der_core.specs.declared.refusal.DerRefusal.{DerRefusal}
use Rattle.der_core.specs.Codec.{whole}
use Rattle.krb_tickets.specs.declared.enc_ticket_part.EncTicketPart.{EncTicketPart}
use Rattle.krb_tickets.specs.declared.encrypted_data.EncryptedData.{EncryptedData}
use Rattle.krb_tickets.specs.declared.ticket.Ticket.{Ticket}
use Rattle.krb_tickets.specs.EncTicketPart.{enc_ticket_part}
use Rattle.krb_tickets.specs.Pac.{is_number}
use Rattle.kdc_records.specs.declared.rule.Rule.{Rule}
use Rattle.dir_records.specs.declared.records.KeyRec.{KeyRec}
use Rattle.dir_records.specs.DirectoryValue.{DirectoryValue}
use Rattle.ticket_codec.specs.declared.fault.Unopened.{Unopened}
use Rattle.ticket_codec.specs.declared.fault.Unopened.TheVariants.{WrongKey, Unreadable}
use Rattle.ticket_codec.specs.declared.holding.Holding.{Holding}
use Rattle.ticket_codec.specs.declared.opening.Opened.{Opened}
use Rattle.ticket_codec.specs.declared.role.Role.{Role}
use Rattle.ticket_codec.specs.Roles.{holding, key_rule, name_rule, opening_rule}

-- the version is absent, or this one
abbrev pub is_version : ℕ → Option ℕ → Bool
is_version version None = true
is_version version (Some kvno) = kvno == version

-- sealed with a key of this version and type
abbrev pub is_for_key : KeyRec → EncryptedData → Bool
is_for_key key sealed = is_version key.version sealed.kvno && is_number (etype_number key.key.etype) sealed.etype

abbrev pub part_read : Result EncTicketPart DerRefusal → Option EncTicketPart
part_read (Ok part) = Some part
part_read (Err refusal) = None

-- the part of a text, if there is one and it reads
abbrev pub part_of_text : Option (List ℕ) → Option EncTicketPart
part_of_text None = None
part_of_text (Some text) = part_read (whole enc_ticket_part text)

-- the part that a key opens, with the usage of tickets (RFC 4120, section 7.5.1)
abbrev pub part_in : Key → List ℕ → Option EncTicketPart
part_in key cipher = part_of_text (opened key 2 cipher)

abbrev pub opened_of : Holding → EncTicketPart → Opened
opened_of held part = record { part = part; holder = held.holder; key = held.key.key }

-- what the key of a ticket's holder opens, whatever its version
abbrev pub opened_with : Ticket → Holding → Option Opened
opened_with ticket held = option_map (opened_of held) (part_in held.key.key ticket.sealed.cipher)

-- a ticket, opened with the key of the one for whom it is sealed; or why it does not open
abbrev pub opened_by : Ticket → Holding → Result Opened Unopened
opened_by ticket held = if is_for_key held.key ticket.sealed then or_fault Unreadable (opened_with ticket held) else Err WrongKey

-- the rule that fails, by what failed
abbrev pub unopened_rule : Role → Unopened → Rule
unopened_rule role WrongKey = key_rule role
unopened_rule role Unreadable = opening_rule role

abbrev pub ruled : {X : Type 0} → Role → Result X Unopened → Result X Rule
ruled role (Ok x) = Ok x
ruled role (Err unopened) = Err (unopened_rule role unopened)

-- the part of a ticket that is shown at the realm at an index, with the key that opened it, or the first rule that fails
unfoldable pub unsealed : DirectoryValue → ℕ → Role → Ticket → Result Opened Rule
unsealed dir at role ticket = or_fault (name_rule role) (holding dir at role ticket) >>= λ held. ruled role (opened_by ticket held)
