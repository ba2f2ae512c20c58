-- Tickets that meet the plain conditions.
use Rattle.std.proofs.Common.{◌≡◌, ℕ, ◌+◌, ◌<◌, ◌≤◌, ◌^◌, List, length, pos, Option, Some, None, refl, sym, ap, subst, arith}
use Rattle.std.specs.Prelude.{IfSome}
use Rattle.der_core.specs.CodecLaws.{alone_lawful, IsBytes-content}
use Rattle.der_core.specs.Elements.{element}
use Rattle.der_core.specs.Laws.{IsBytes}
use Rattle.der_core.specs.Forms.{number_is, int32, uint32, octets}
use Rattle.der_forms.specs.Names.{realm}
use Rattle.krb_tickets.specs.declared.ticket.Ticket.{Ticket}
use Rattle.krb_tickets.specs.EncryptedData.{encrypted_data}
use Rattle.krb_tickets.specs.EncryptedData as sealed_form
use Rattle.krb_tickets.specs.Laws.{ticket_lawful}
use Rattle.krb_tickets.specs.PrincipalName.{name_of, in_realm, principal_name}
use Rattle.krb_tickets.specs.Ticket.{ticket}
use Rattle.krb_tickets.specs.Ticket as ticket_form
use Rattle.ticket_laws.specs.Laws.{TicketFits, TicketIsWritable, TicketIsShort, ReadTicketIsWritable}
use Rattle.ticket_laws.specs.Writable.{IsWritableTicket}
use Rattle.ticket_laws.proofs.Bytes.{Keeps, end_keeps, field_keeps, field_passed, sealed_keeps}
use Rattle.ticket_laws.proofs.Fields.{Within, optional_within, field_within, end_within}
use Rattle.ticket_laws.proofs.Sizes.{element_within}
use Rattle.ticket_laws.proofs.Texts.{parts_only, realm_fits, realm_only, realm_short}
use Rattle.ticket_laws.proofs.Values.{int32_only, uint32_only, int32_fits, int32_within, name_fits, name_within, number_fits, number_within, uint32_fits, uint32_within}

-- ---- Fits

kvno_fits : (kvno : Option ℕ) → IfSome kvno (λ n. n < 2 ^ 32) → IfSome kvno uint32.Fits
kvno_fits None h = tt
kvno_fits (Some n) h = uint32_fits n h

-- the service's realm is the ticket's
same_ticket : (t : Ticket) → t.sname.realm ≡ t.realm → ticket_form.make (ticket_form.parts_of t) ≡ t
same_ticket t same =
    ap (λ (realm : List ℕ). let made : Ticket = record { realm = t.realm; sname = in_realm (name_of t.sname) realm; sealed = t.sealed } in made) (sym same)

pub ticket_fits : TicketFits
ticket_fits t w = (
  same_ticket t w.sname_realm,
  (
    number_fits 5 (omega arith),
    (
      realm_fits t.realm w.realm,
      (
        name_fits (name_of t.sname) w.sname_kind w.sname_parts,
        (
          (refl, (int32_fits t.sealed.etype w.etype, (kvno_fits t.sealed.kvno w.kvno, (tt, tt)))),
          tt,
        ),
      ),
    ),
  ),
)

-- ---- what can be written meets the conditions

kvno_only : (kvno : Option ℕ) → IfSome kvno uint32.Fits → IfSome kvno (λ n. n < 2 ^ 32)
kvno_only None fits = tt
kvno_only (Some n) fits = uint32_only n fits

pub ticket_is_writable : TicketIsWritable
ticket_is_writable t fits cipher =
    let b = fits.1.1 in
    let name = b.1.0.1 in
    let sealed = b.1.1.0.1 in
    record {
      realm = realm_only t.realm b.0;
      sname_realm = sym (ap (λ (made : Ticket). made.sname.realm) fits.0);
      sname_kind = int32_only t.sname.kind name.0;
      sname_parts = parts_only t.sname.kind t.sname.parts name.1.0;
      etype = int32_only t.sealed.etype sealed.0;
      kvno = kvno_only t.sealed.kvno sealed.1.0;
      cipher = cipher;
    }

-- ---- what was read

bytes_kept : Keeps ticket_form.parts (λ x. IsBytes x.1.1.1.0.cipher × Unit {0})
bytes_kept =
    field_passed 0 (number_is (pos 5)) _ _ (
    field_passed 1 realm _ _ (
    field_passed 2 principal_name _ _ (
    field_keeps 3 encrypted_data _ _ _ sealed_keeps
    end_keeps)))

pub read_ticket_is_writable : ReadTicketIsWritable
read_ticket_is_writable bytes t are_bytes read =
    let d = (alone_lawful ticket ticket_lawful).found (record { place = 0; bytes = bytes }) t are_bytes read in
    let sequence = IsBytes-content 97 bytes d.content are_bytes d.outside in
    let fields = IsBytes-content 48 d.content d.inside.content sequence d.inside.outside in
    let made = d.inside.inside in
    let own = bytes_kept.keeps d.inside.content made.parts fields made.spelt in
    let kept = subst (λ (t : Ticket). IsBytes t.sealed.cipher) made.made own.0 in
    ticket_is_writable t (ticket_lawful.fits bytes t are_bytes d) kept

-- ---- lengths

kvno_within : (kvno : Option ℕ) → IfSome kvno (λ n. n < 2 ^ 32) → IfSome kvno (λ n. length (uint32.spelling n) ≤ 14)
kvno_within None h = tt
kvno_within (Some n) h = uint32_within n h

sealed_within : (t : Ticket) → IsWritableTicket t → length (encrypted_data.spelling t.sealed) ≤ 70 + length t.sealed.cipher
sealed_within t w =
    let inside : Within sealed_form.parts (sealed_form.parts_of t.sealed) (6 + 14 + (6 + 14 + (6 + (6 + length t.sealed.cipher) + 0))) =
    field_within 0 int32 _ _ _ _ _ (int32_within t.sealed.etype w.etype) (
    optional_within 1 uint32 _ _ _ _ _ (kvno_within t.sealed.kvno w.kvno) (
    field_within 2 octets _ _ _ _ _ (element_within 4 (length t.sealed.cipher) t.sealed.cipher (omega arith))
    end_within)) in
    let n = 6 + 14 + (6 + 14 + (6 + (6 + length t.sealed.cipher) + 0)) in
    omega (arith, element_within 48 n (sealed_form.parts.content.spelling (sealed_form.parts_of t.sealed)) inside.le)

pub ticket_is_short : TicketIsShort
ticket_is_short t w =
    let n = 6 + 14 + (6 + 261 + (6 + 2126 + (6 + (70 + length t.sealed.cipher) + 0))) in
    let fields : Within ticket_form.parts (ticket_form.parts_of t) n =
    field_within 0 (number_is (pos 5)) _ _ _ _ _ (number_within 5 (omega arith)) (
    field_within 1 realm _ _ _ _ _ (element_within 27 255 t.realm (realm_short t.realm w.realm)) (
    field_within 2 principal_name _ _ _ _ _ (name_within (name_of t.sname) w.sname_kind w.sname_parts) (
    field_within 3 encrypted_data _ _ _ _ _ (sealed_within t w)
    end_within))) in
    let spelling : List ℕ = ticket_form.parts.content.spelling (ticket_form.parts_of t) in
    omega (arith, element_within 97 (6 + n) (element 48 spelling) (element_within 48 n spelling fields.le))
