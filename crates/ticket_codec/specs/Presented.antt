-- The record of a ticket that was opened (MS-PAC, section 2.8; MS-SFU, section 3.2.5.2.2).
use Rattle.std.specs.Prelude.{ℕ, Bool, List, Option, None, Some, option_map, Result, Ok, is_ok, slice_get, if◌then◌else◌}
use Rattle.kdc_prelude.specs.Answers.{or_fault}
use Rattle.kdc_prelude.specs.Options.{holds_of}
use Rattle.kdc_prelude.specs.Results.{◌>>=◌}
use Rattle.krb_names.specs.declared.key.Key.{Key}
use Rattle.krb_tickets.specs.declared.enc_ticket_part.EncTicketPart.{EncTicketPart}
use Rattle.krb_tickets.specs.declared.ticket.Ticket.{Ticket}
use Rattle.krb_tickets.specs.EncTicketPart.{enc_ticket_part}
use Rattle.krb_tickets.specs.Pac.{pac_of, without_pac}
use Rattle.pac_sign.specs.Verified.{verified}
use Rattle.kdc_records.specs.declared.holder.Holder.{Holder}
use Rattle.kdc_records.specs.declared.holder.Holder.TheVariants.{Krbtgt, Trust, Account}
use Rattle.kdc_records.specs.declared.rule.Rule.{Rule}
use Rattle.kdc_records.specs.declared.ticket_rec.TicketRec.{TicketRec}
use Rattle.dir_records.specs.declared.records.RealmRec.{RealmRec}
use Rattle.dir_records.specs.DirectoryValue.{DirectoryValue}
use Rattle.ticket_parts.specs.declared.reading.ReadRecord.{ReadRecord}
use Rattle.ticket_parts.specs.Parts.{is_service}
use Rattle.ticket_parts.specs.Records.{record_of}
use Rattle.ticket_codec.specs.declared.opening.Opened.{Opened}
use Rattle.ticket_codec.specs.declared.presenting.Certified.{Certified}
use Rattle.ticket_codec.specs.declared.role.Role.{Role}
use Rattle.ticket_codec.specs.Opening.{unsealed}
use Rattle.ticket_codec.specs.Roles.{pac_rule}

-- the key that the KDC signature is compared under: that of the realm's ticket-granting service; none for a cross-realm
-- ticket, which another realm issued
abbrev pub realm_key : RealmRec → Holder → Option Key
realm_key realm (Krbtgt name version) = Some realm.krbtgt.key
realm_key realm (Trust name partner version) = None
realm_key realm (Account name number version) = Some realm.krbtgt.key

-- what the ticket signature of a service ticket is compared over
abbrev pub signed_text : Opened → Option (List ℕ)
signed_text opened = if is_service opened.holder then Some (enc_ticket_part.spelling (without_pac opened.part)) else None

-- the signatures of this PAC are right: the server signature under the key that opened the ticket, the KDC signature unless the
-- ticket is cross-realm, and of a service ticket the ticket signature
abbrev pub are_right : RealmRec → Opened → List ℕ → Bool
are_right realm opened pac = is_ok (verified opened.key (realm_key realm opened.holder) (signed_text opened) pac)

-- the ticket has a PAC, and its signatures are right at the realm at an index
unfoldable pub are_signatures_right : DirectoryValue → ℕ → Opened → Bool
are_signatures_right dir at opened = holds_of (λ realm. holds_of (are_right realm opened) (pac_of opened.part)) (slice_get dir.realms at)

abbrev pub certified_of : ReadRecord → Certified
certified_of read = record { rec = read.rec; agrees = read.agrees }

-- the record of a part that was opened, and whether its client information agrees; none where the PAC does not read or a
-- signature is wrong
unfoldable pub certified : DirectoryValue → ℕ → Opened → Option Certified
certified dir at opened = if are_signatures_right dir at opened then option_map certified_of (record_of opened.holder opened.part) else None

-- the same, or the rule of the role that fails
unfoldable pub presented : DirectoryValue → ℕ → Role → Opened → Result Certified Rule
presented dir at role opened = or_fault (pac_rule role) (certified dir at opened)

-- what a ticket shows: for whom it is sealed, what was sealed, the record that it tells, and whether its client information agrees
pub record Shown : Type 0 where
  pub holder : Holder
  pub part : EncTicketPart
  pub rec : TicketRec
  pub agrees : Bool

abbrev pub shown_of : Opened → Certified → Shown
shown_of opened certified = record { holder = opened.holder; part = opened.part; rec = certified.rec; agrees = certified.agrees }

-- what a ticket shows at the realm at an index in a role, or the first rule that fails
unfoldable pub shown : DirectoryValue → ℕ → Role → Ticket → Result Shown Rule
shown dir at role ticket = unsealed dir at role ticket >>= λ opened. presented dir at role opened >>= λ certified. Ok (shown_of opened certified)
