-- Parts that meet the plain conditions.
use Rattle.std.proofs.Common.{ℕ, ◌+◌, ◌≤◌, List, [], ◌∷◌, length, Option, Some, None, refl, subst, length-append, arith}
use Rattle.std.specs.Prelude.{IfSome}
use Rattle.std.specs.List.{flat_map, AllByRecursion}
use Rattle.der_core.specs.CodecLaws.{alone_lawful, IsBytes-content}
use Rattle.der_core.specs.Elements.{element}
use Rattle.der_core.specs.Laws.{IsBytes}
use Rattle.der_core.specs.BitStrings.{bit_string}
use Rattle.der_forms.specs.Lists.{sequence_of}
use Rattle.der_forms.specs.Keys.{encryption_key}
use Rattle.der_forms.specs.Names.{realm}
use Rattle.der_forms.specs.Times.{kerberos_time}
use Rattle.der_forms.specs.Values.{flags as ticket_flags}
use Rattle.krb_names.specs.Times.{ktime_text}
use Rattle.krb_tickets.specs.declared.auth_item.AuthItem.{AuthItem}
use Rattle.krb_tickets.specs.declared.enc_ticket_part.EncTicketPart.{EncTicketPart}
use Rattle.krb_tickets.specs.AuthItem.{auth_item}
use Rattle.krb_tickets.specs.EncTicketPart.{enc_ticket_part}
use Rattle.krb_tickets.specs.EncTicketPart as part_form
use Rattle.krb_tickets.specs.Laws.{enc_ticket_part_lawful}
use Rattle.krb_tickets.specs.HostAddress.{host_address}
use Rattle.krb_tickets.specs.PrincipalName.{name_of, principal_name}
use Rattle.krb_tickets.specs.Transited.{transited}
use Rattle.krb_names.proofs.TimeLaw.{written_again}
use Rattle.ticket_laws.specs.Laws.{PartFits, PartIsWritable, PartIsShort, ReadPartIsWritable}
use Rattle.ticket_laws.specs.Writable.{IsWritableItem, IsWritablePart}
use Rattle.ticket_laws.proofs.Bytes.{AreOfBytes, Keeps, field_keeps, field_passed, optional_passed, dropped_passed, key_keeps, last, last_keeps}
use Rattle.ticket_laws.proofs.Fields.{Within, optional_within, field_within, dropped_within}
use Rattle.ticket_laws.proofs.Sizes.{element_within}
use Rattle.ticket_laws.proofs.Texts.{parts_only, realm_fits, realm_only, realm_short}
use Rattle.ticket_laws.proofs.Times.{time_early}
use Rattle.ticket_laws.proofs.Values.{int32_only, key_only, item_fits, key_fits, key_within, name_fits, name_within, transited_fits, transited_within, time_within}

-- ---- Fits

items_fit : (items : List AuthItem) → AllByRecursion IsWritableItem items → AllByRecursion auth_item.Fits items
items_fit [] h = tt
items_fit (x ∷ xs) h = (item_fits x h.0.kind, items_fit xs h.1)

list_fits : (items : List AuthItem) → AllByRecursion IsWritableItem items → last.content.Fits (items, tt)
list_fits [] h = (refl, (tt, tt))
list_fits (x ∷ xs) h = (refl, (items_fit (x ∷ xs) h, tt))

start_fits : (start : Option ℕ) → IfSome start (λ seconds. seconds ≤ 253402300799) → IfSome start kerberos_time.Fits
start_fits None h = tt
start_fits (Some seconds) h = written_again seconds h

pub part_fits : PartFits
part_fits p w = (
  refl,
  (
    (refl, w.flags),
    (
      key_fits p.key w.key_length w.key_padding,
      (
        realm_fits p.client.realm w.crealm,
        (
          name_fits (name_of p.client) w.cname_kind w.cname_parts,
          (
            transited_fits p.transited w.transited,
            (
              written_again p.auth w.auth,
              (
                start_fits p.start w.start,
                (
                  written_again p.end w.end,
                  (
                    refl,
                    (
                      tt,
                      (
                        refl,
                        (
                          tt,
                          list_fits p.items w.items,
                        ),
                      ),
                    ),
                  ),
                ),
              ),
            ),
          ),
        ),
      ),
    ),
  ),
)

-- ---- what can be written meets the conditions

items_only : (items : List AuthItem) → AllByRecursion auth_item.Fits items → AreOfBytes items → AllByRecursion IsWritableItem items
items_only [] fits bytes = tt
items_only (x ∷ xs) fits bytes = (record { kind = int32_only x.kind fits.0.1.0; content = bytes.0 }, items_only xs fits.1 bytes.1)

list_only : (items : List AuthItem) → last.content.Fits (items, tt) → AreOfBytes items → AllByRecursion IsWritableItem items
list_only [] fits bytes = tt
list_only (x ∷ xs) fits bytes = items_only (x ∷ xs) fits.1.0 bytes

start_only : (start : Option ℕ) → IfSome start kerberos_time.Fits → IfSome start (λ seconds. seconds ≤ 253402300799)
start_only None fits = tt
start_only (Some seconds) fits = time_early (ktime_text seconds) seconds fits

pub part_is_writable : PartIsWritable
part_is_writable p fits key items =
    let b = fits.1.1 in
    let c = b.1 in
    let d = c.1 in
    let e = d.1 in
    let f = e.1 in
    let g = f.1 in
    let h = g.1 in
    let padded = key_only p.key b.0 in
    record {
      flags = fits.1.0.1;
      key_length = padded.0;
      key_octets = key;
      key_padding = padded.1;
      crealm = realm_only p.client.realm c.0;
      cname_kind = int32_only p.client.kind d.0.1.0;
      cname_parts = parts_only p.client.kind p.client.parts d.0.1.1.0;
      transited = e.0.1.1.0;
      auth = time_early (ktime_text p.auth) p.auth f.0;
      start = start_only p.start g.0;
      end = time_early (ktime_text p.end) p.end h.0;
      items = list_only p.items h.1.1.1.1.1 items;
    }

-- ---- what was read

bytes_kept : Keeps part_form.parts (λ x. IsBytes x.1.0.raw × AreOfBytes x.1.1.1.1.1.1.1.1.0)
bytes_kept =
    field_passed 0 ticket_flags _ _ (
    field_keeps 1 encryption_key _ _ _ key_keeps (
    field_passed 2 realm _ _ (
    field_passed 3 principal_name _ _ (
    field_passed 4 transited _ _ (
    field_passed 5 kerberos_time _ _ (
    optional_passed 6 kerberos_time _ _ (
    field_passed 7 kerberos_time _ _ (
    dropped_passed 8 kerberos_time _ _ (
    dropped_passed 9 (sequence_of host_address) _ _
    last_keeps)))))))))

pub read_part_is_writable : ReadPartIsWritable
read_part_is_writable bytes p are_bytes read =
    let d = (alone_lawful enc_ticket_part enc_ticket_part_lawful).found (record { place = 0; bytes = bytes }) p are_bytes read in
    let sequence = IsBytes-content 99 bytes d.content are_bytes d.outside in
    let fields = IsBytes-content 48 d.content d.inside.content sequence d.inside.outside in
    let made = d.inside.inside in
    let own = bytes_kept.keeps d.inside.content made.parts fields made.spelt in
    let kept = subst (λ (p : EncTicketPart). IsBytes p.key.raw × AreOfBytes p.items) made.made own in
    part_is_writable p (enc_ticket_part_lawful.fits bytes p are_bytes d) kept.0 kept.1

-- ---- lengths

list_within : (items : List AuthItem) → Within last (items, tt) (12 + length (flat_map auth_item.spelling items))
list_within [] = record { le = omega arith }
list_within (x ∷ xs) =
    let all : List ℕ = flat_map auth_item.spelling (x ∷ xs) in
    let inside = element_within 48 (length all) all (omega arith) in
    record { le = omega (arith, element_within 170 (6 + length all) (element 48 all) inside, length-append (element 170 (element 48 all)) []) }

flags_within : (flags : ℕ) → length (element 3 (bit_string flags)) ≤ 11
unfolding bit_string
flags_within flags = element_within 3 5 (bit_string flags) (omega arith)

start_within : (start : Option ℕ) → IfSome start (λ seconds. length (kerberos_time.spelling seconds) ≤ 21)
start_within None = tt
start_within (Some seconds) = time_within seconds

fields_within : (p : EncTicketPart) → IsWritablePart p
    → Within part_form.parts (part_form.parts_of p) (6 + 11 + (6 + 70 + (6 + 261 + (6 + 2126 + (6 + 8230 + (6 + 21 + (6 + 21 + (6 + 21 + (12 + length (flat_map auth_item.spelling p.items))))))))))
fields_within p w =
    field_within 0 ticket_flags _ _ _ _ _ (flags_within p.flags) (
    field_within 1 encryption_key _ _ _ _ _ (key_within p.key w.key_length) (
    field_within 2 realm _ _ _ _ _ (element_within 27 255 p.client.realm (realm_short p.client.realm w.crealm)) (
    field_within 3 principal_name _ _ _ _ _ (name_within (name_of p.client) w.cname_kind w.cname_parts) (
    field_within 4 transited _ _ _ _ _ (transited_within p.transited w.transited) (
    field_within 5 kerberos_time _ _ _ _ _ (time_within p.auth) (
    optional_within 6 kerberos_time _ _ _ _ _ (start_within p.start) (
    field_within 7 kerberos_time _ _ _ _ _ (time_within p.end) (
    dropped_within 8 kerberos_time _ _ _ (
    dropped_within 9 (sequence_of host_address) _ _ _ (
    list_within p.items))))))))))

pub part_is_short : PartIsShort
part_is_short p w =
    let fields : List ℕ = part_form.parts.content.spelling (part_form.parts_of p) in
    let inside = element_within 48 (10821 + length (flat_map auth_item.spelling p.items)) fields (let le = (fields_within p w).le in omega (arith, le)) in
    omega (arith, element_within 99 (6 + (10821 + length (flat_map auth_item.spelling p.items))) (element 48 fields) inside)
