-- Spellings in which ad-data are changed: how long they are, and that they can be written.
use Rattle.std.proofs.Common.{◌≡◌, ℕ, zero, suc, ◌+◌, ◌*◌, ◌<◌, ◌≤◌, Bool, true, false, cond, List, [], ◌∷◌, ◌++◌, length, map, filter, get_or, take, refl, ap, ◌∙◌, Option, append-nil, length-append, arith, inl, inr}
use Rattle.std.specs.Prelude.{Result, Ok, Err, IfOk}
use Rattle.std.specs.List.{flat_map, list_any, AllByRecursion}
use Rattle.std.proofs.lemmas.Bool.{cases_lt}
use Rattle.std.proofs.lemmas.List.{map-append, take_more}
use Rattle.std.proofs.lemmas.List.Concat.{flat_map-append, flat_map-cons}
use Rattle.der_core.specs.Elements.{element}
use Rattle.der_core.specs.Integers.{integer}
use Rattle.der_core.specs.Sizes.{size}
use Rattle.der_core.specs.SizeLaws.{size_short, size_long, size_le, size_near}
use Rattle.der_core.specs.Codec.{Codec}
use Rattle.der_forms.specs.Fields.{Fields, tag_of, end, field, optional, dropped, listed, optional_spelling}
use Rattle.der_forms.specs.Keys.{encryption_key}
use Rattle.der_forms.specs.Names.{realm}
use Rattle.der_forms.specs.Times.{kerberos_time}
use Rattle.der_forms.specs.Values.{flags as ticket_flags}
use Rattle.der_forms.specs.Lists.{sequence_of}
use Rattle.krb_tickets.specs.declared.auth_item.AuthItem.{AuthItem}
use Rattle.krb_tickets.specs.declared.enc_ticket_part.EncTicketPart.{EncTicketPart}
use Rattle.krb_tickets.specs.AuthItem.{auth_item}
use Rattle.krb_tickets.specs.EncTicketPart.{enc_ticket_part}
use Rattle.krb_tickets.specs.EncTicketPart as part_form
use Rattle.krb_tickets.specs.HostAddress.{host_address}
use Rattle.krb_tickets.specs.PrincipalName.{principal_name}
use Rattle.krb_tickets.specs.Transited.{transited}
use Rattle.krb_tickets.proofs.Pacs.{pacs_more}
use Rattle.krb_tickets.specs.Pac.{is_pac, pacs, pacs_in, zeroed, item_without_pac, elements_of}

-- ---- elements

element_within : (tag : ℕ) (content : List ℕ) → length content + 2 ≤ length (element tag content)
element_within tag content = omega (arith, length-append (size (length content)) content, size_some (length content))
  where
    size_some : (n : ℕ) → 1 ≤ length (size n)
    size_some n = elim (cases_lt n 128) [ inl a ↦ omega (arith, ap length (size_short n a)) | inr a ↦ omega (arith, ap length (size_long n a)) ]

element_same : (tag : ℕ) (old new : List ℕ) → length new ≤ length old → length (element tag new) ≤ length (element tag old)
element_same tag old new le =
    let header = size_le (length old) (length new) le in
    omega (arith, le, header, length-append (size (length old)) old, length-append (size (length new)) new)

-- a content that grows by a few bytes, and its header by one at most
element_more : (k tag : ℕ) (old new : List ℕ) → k ≤ 100 → length new ≤ length old + k → length (element tag new) ≤ length (element tag old) + suc k
element_more k tag old new few le =
    let header = size_near (length old) (length new) (omega (arith, few, le)) in
    omega (arith, le, header, length-append (size (length old)) old, length-append (size (length new)) new)

-- n headers around one more byte, or none
element_by : (k n tag : ℕ) (old new : List ℕ) → k ≤ 50 → n ≤ 1 → length new ≤ length old + k * n → length (element tag new) ≤ length (element tag old) + suc k * n
element_by k zero tag old new few le grows =
    let same = element_same tag old new (omega (arith, grows)) in
    omega (arith, same)
element_by k (suc zero) tag old new few le grows =
    let more = element_more k tag old new (omega (arith, few)) (omega (arith, grows)) in
    omega (arith, more)
element_by k (suc (suc n)) tag old new few le grows = absurd (omega (arith, le))

-- ---- items

-- the ad-data are within the item
pub content_shorter : (x : AuthItem) → length x.content ≤ length (auth_item.spelling x)
content_shorter x =
    let inner : List ℕ = element 4 x.content in
    let kind : List ℕ = element 160 (element 2 (integer x.kind)) in
    let a = element_within 48 (kind ++ (element 161 inner ++ [])) in
    let b = element_within 161 inner in
    let c = element_within 4 x.content in
    omega (arith, a, b, c, length-append kind (element 161 inner ++ []), length-append (element 161 inner) [])

-- ad-data that grow by k for each of n PACs
pub content_by : (k n : ℕ) (x : AuthItem) (content : List ℕ) → k ≤ 40 → n ≤ 1 → length content ≤ length x.content + k * n
    → length (auth_item.spelling (record x { content = content })) ≤ length (auth_item.spelling x) + suc (suc (suc k)) * n
content_by k n x content few le grows =
    let kind : List ℕ = element 160 (element 2 (integer x.kind)) in
    let old : List ℕ = element 161 (element 4 x.content) in
    let new : List ℕ = element 161 (element 4 content) in
    let a = element_by k n 4 x.content content (omega (arith, few)) le grows in
    let b : length new ≤ length old + suc (suc k) * n = element_by (suc k) n 161 (element 4 x.content) (element 4 content) (omega (arith, few)) le a in
    let inside : length (kind ++ (new ++ [])) ≤ length (kind ++ (old ++ [])) + suc (suc k) * n = omega (arith, b, length-append kind (new ++ []), length-append kind (old ++ []), length-append new [], length-append old []) in
    element_by (suc (suc k)) n 48 (kind ++ (old ++ [])) (kind ++ (new ++ [])) (omega (arith, few)) le inside

-- at most four bytes more for each PAC: the zero byte and three headers
zeroed_longer : (xs : List AuthItem) → length (flat_map auth_item.spelling (map zeroed xs)) ≤ length (flat_map auth_item.spelling xs) + 4 * length (pacs_in xs)
zeroed_longer [] = omega arith
zeroed_longer (x ∷ xs) = by_test (is_pac x) (zeroed_longer xs)
  where
    by_test : (b : Bool) → length (flat_map auth_item.spelling (map zeroed xs)) ≤ length (flat_map auth_item.spelling xs) + 4 * length (pacs_in xs)
        → length (flat_map auth_item.spelling (cond b (record x { content = 0 ∷ [] }) x ∷ map zeroed xs)) ≤ length (flat_map auth_item.spelling (x ∷ xs)) + 4 * length (map (λ (y : AuthItem). y.content) (cond b (x ∷ filter is_pac xs) (filter is_pac xs)))
    by_test true more =
        let one = content_by 1 1 x (0 ∷ []) (omega arith) (omega arith) (omega arith) in
        omega (
          arith,
          one,
          more,
          ap length (flat_map-cons auth_item.spelling x xs),
          ap length (flat_map-cons auth_item.spelling (record x { content = 0 ∷ [] }) (map zeroed xs)),
          length-append (auth_item.spelling x) (flat_map auth_item.spelling xs),
          length-append (auth_item.spelling (record x { content = 0 ∷ [] })) (flat_map auth_item.spelling (map zeroed xs)),
        )
    by_test false more =
        omega (
          arith,
          more,
          ap length (flat_map-cons auth_item.spelling x xs),
          ap length (flat_map-cons auth_item.spelling x (map zeroed xs)),
          length-append (auth_item.spelling x) (flat_map auth_item.spelling xs),
          length-append (auth_item.spelling x) (flat_map auth_item.spelling (map zeroed xs)),
        )

-- the elements of these ad-data, with zero bytes
pub zeroed_within : (xs : List AuthItem) (n : ℕ) → length (pacs_in xs) ≤ 1 → length ((sequence_of auth_item).spelling xs) ≤ n
    → length ((sequence_of auth_item).spelling (map zeroed xs)) ≤ n + 5 * length (pacs_in xs)
zeroed_within xs n one le =
    let all = zeroed_longer xs in
    let list = element_by 4 (length (pacs_in xs)) 48 (flat_map auth_item.spelling xs) (flat_map auth_item.spelling (map zeroed xs)) (omega arith) one all in
    omega (arith, list, le)

-- an item that is spelt anew
pub item_longer : (x : AuthItem) → length (pacs_in (elements_of x)) ≤ 1 → (list_any is_pac (elements_of x) ≡ true → length ((sequence_of auth_item).spelling (elements_of x)) ≤ length x.content)
    → length (auth_item.spelling (item_without_pac x)) ≤ length (auth_item.spelling x) + 8 * length (pacs_in (elements_of x))
item_longer x one same = by_test (list_any is_pac (elements_of x)) refl
  where
    by_test : (b : Bool) → list_any is_pac (elements_of x) ≡ b
        → length (auth_item.spelling (cond b (record x { content = (sequence_of auth_item).spelling (map zeroed (elements_of x)) }) x)) ≤ length (auth_item.spelling x) + 8 * length (pacs_in (elements_of x))
    by_test true e = content_by 5 (length (pacs_in (elements_of x))) x ((sequence_of auth_item).spelling (map zeroed (elements_of x))) (omega arith) one (zeroed_within (elements_of x) (length x.content) one (same e))
    by_test false e = omega arith

-- one more item
pub more_within : (items : List AuthItem) (i : ℕ) (d : AuthItem) → i < length items
    → length (flat_map auth_item.spelling (map item_without_pac (take i items))) ≤ length (flat_map auth_item.spelling (take i items)) + 8 * length (pacs (take i items))
    → length (auth_item.spelling (item_without_pac (get_or items i d))) ≤ length (auth_item.spelling (get_or items i d)) + 8 * length (pacs_in (elements_of (get_or items i d)))
    → length (flat_map auth_item.spelling (map item_without_pac (take (i + 1) items))) ≤ length (flat_map auth_item.spelling (take (i + 1) items)) + 8 * length (pacs (take (i + 1) items))
more_within items i d lt so_far one =
    let x : AuthItem = get_or items i d in
    let seen : List AuthItem = take i items in
    let taken : take (i + 1) items ≡ seen ++ x ∷ [] = take_more items i d lt in
    let found = ap length (pacs_more items i d lt) ∙ length-append (pacs seen) (pacs_in (elements_of x)) in
    let old = ap (λ (xs : List AuthItem). length (flat_map auth_item.spelling xs)) taken ∙ ap length (flat_map-append auth_item.spelling seen (x ∷ [])) ∙ length-append (flat_map auth_item.spelling seen) (auth_item.spelling x ++ []) in
    let made : map item_without_pac (take (i + 1) items) ≡ map item_without_pac seen ++ item_without_pac x ∷ [] = ap (map item_without_pac) taken ∙ map-append item_without_pac seen (x ∷ []) in
    let new =
    ap (λ (xs : List AuthItem). length (flat_map auth_item.spelling xs)) made ∙ ap length (flat_map-append auth_item.spelling (map item_without_pac seen) (item_without_pac x ∷ [])) ∙ length-append (flat_map auth_item.spelling (map item_without_pac seen)) (auth_item.spelling (item_without_pac x) ++ []) in
    omega (arith, so_far, one, found, old, new, ap length (append-nil (auth_item.spelling x)), ap length (append-nil (auth_item.spelling (item_without_pac x))))

-- ---- parts

-- n bytes are within the old fields, and the new ones are at most k bytes more
record Grows {X : Type 0} (fields : Fields X) (old new : X) (n k : ℕ) : Type 0 where
  within : n ≤ length (fields.content.spelling old)
  longer : length (fields.content.spelling new) ≤ length (fields.content.spelling old) + k

behind_grows : {X : Type 0} (front : List ℕ) (more : Fields X) (old new : X) (n k : ℕ) → Grows more old new n k
    → (n ≤ length (front ++ more.content.spelling old)) × (length (front ++ more.content.spelling new) ≤ length (front ++ more.content.spelling old) + k)
behind_grows front more old new n k g =
    let a = length-append front (more.content.spelling old) in
    let b = length-append front (more.content.spelling new) in
    let c = g.within in
    let d = g.longer in
    (omega (arith, a, c), omega (arith, a, b, d))

field_grows : {X Y : Type 0} (i : ℕ) (c : Codec X) (more : Fields Y) (x : X) (old new : Y) (n k : ℕ) → Grows more old new n k → Grows (field i c more) (x, old) (x, new) n k
field_grows i c more x old new n k g =
    let h = behind_grows (element (tag_of i) (c.spelling x)) more old new n k g in
    record { within = h.0; longer = h.1 }

optional_grows : {X Y : Type 0} (i : ℕ) (c : Codec X) (more : Fields Y) (x : Option X) (old new : Y) (n k : ℕ) → Grows more old new n k → Grows (optional i c more) (x, old) (x, new) n k
optional_grows i c more x old new n k g =
    let h = behind_grows (optional_spelling i c x) more old new n k g in
    record { within = h.0; longer = h.1 }

dropped_grows : {X Y : Type 0} (i : ℕ) (c : Codec X) (more : Fields Y) (old new : Y) (n k : ℕ) → Grows more old new n k → Grows (dropped i c more) old new n k
dropped_grows i c more old new n k g = record { within = g.within; longer = g.longer }

-- the last field, authorization-data
abbrev last : Fields (List AuthItem × Unit {0})
last = listed 10 (sequence_of auth_item) end

last_grows : (items : List AuthItem) → length (flat_map auth_item.spelling (map item_without_pac items)) ≤ length (flat_map auth_item.spelling items) + 8
    → Grows last (items, tt) (map item_without_pac items, tt) (length (flat_map auth_item.spelling items)) 10
last_grows [] le = record { within = omega arith; longer = omega arith }
last_grows (x ∷ xs) le =
    let old : List ℕ = element 48 (flat_map auth_item.spelling (x ∷ xs)) in
    let new : List ℕ = element 48 (flat_map auth_item.spelling (map item_without_pac (x ∷ xs))) in
    let a = element_within 48 (flat_map auth_item.spelling (x ∷ xs)) in
    let b = element_within 170 old in
    let c = element_more 8 48 (flat_map auth_item.spelling (x ∷ xs)) (flat_map auth_item.spelling (map item_without_pac (x ∷ xs))) (omega arith) le in
    let d = element_more 9 170 old new (omega arith) c in
    record { within = omega (arith, a, b, length-append (element 170 old) []); longer = omega (arith, d, length-append (element 170 old) [], length-append (element 170 new) []) }

fields_grow : (p : EncTicketPart) (items : List AuthItem) (n k : ℕ) → Grows last (p.items, tt) (items, tt) n k
    → Grows part_form.parts (part_form.parts_of p) (part_form.parts_of (record p { items = items })) n k
fields_grow p items n k g =
    field_grows 0 ticket_flags _ _ _ _ _ _ (
    field_grows 1 encryption_key _ _ _ _ _ _ (
    field_grows 2 realm _ _ _ _ _ _ (
    field_grows 3 principal_name _ _ _ _ _ _ (
    field_grows 4 transited _ _ _ _ _ _ (
    field_grows 5 kerberos_time _ _ _ _ _ _ (
    optional_grows 6 kerberos_time _ _ _ _ _ _ (
    field_grows 7 kerberos_time _ _ _ _ _ _ (
    dropped_grows 8 kerberos_time _ _ _ _ _ (
    dropped_grows 9 (sequence_of host_address) _ _ _ _ _ g)))))))))

-- a list is within its field
last_within : (items : List AuthItem) → Grows last (items, tt) (items, tt) (length (flat_map auth_item.spelling items)) 0
last_within [] = record { within = omega arith; longer = omega arith }
last_within (x ∷ xs) =
    let old : List ℕ = element 48 (flat_map auth_item.spelling (x ∷ xs)) in
    let a = element_within 48 (flat_map auth_item.spelling (x ∷ xs)) in
    let b = element_within 170 old in
    record { within = omega (arith, a, b, length-append (element 170 old) []); longer = omega arith }

-- a part's items are within it
pub items_shorter : (p : EncTicketPart) → length (flat_map auth_item.spelling p.items) ≤ length (enc_ticket_part.spelling p)
items_shorter p =
    let g = (fields_grow p p.items _ _ (last_within p.items)).within in
    let inside : List ℕ = part_form.parts.content.spelling (part_form.parts_of p) in
    let a = element_within 48 inside in
    let b = element_within 99 (element 48 inside) in
    omega (arith, a, b, g)

-- a part with one zero byte for its PAC
pub part_longer : (p : EncTicketPart) → length (pacs p.items) ≡ 1
    → length (flat_map auth_item.spelling (map item_without_pac p.items)) ≤ length (flat_map auth_item.spelling p.items) + 8 * length (pacs p.items)
    → length (enc_ticket_part.spelling (record p { items = map item_without_pac p.items })) ≤ length (enc_ticket_part.spelling p) + 12
part_longer p one le =
    let old : List ℕ = part_form.parts.content.spelling (part_form.parts_of p) in
    let new : List ℕ = part_form.parts.content.spelling (part_form.parts_of (record p { items = map item_without_pac p.items })) in
    let fields = (fields_grow p (map item_without_pac p.items) _ _ (last_grows p.items (omega (arith, one, le)))).longer in
    element_more 11 99 (element 48 old) (element 48 new) (omega arith) (element_more 10 48 old new (omega arith) fields)

-- bytes that were written
pub written_within : {E : Type 0} (r : Result (List ℕ) E) (spelling : List ℕ) (n : ℕ) → length spelling ≤ n → IfOk r (λ bytes. bytes ≡ spelling) → IfOk r (λ bytes. length bytes ≤ n)
written_within (Ok bytes) spelling n le e = omega (arith, le, ap length e)
written_within (Err fault) spelling n le e = tt

-- ---- what can be written

fits_chosen : (b : Bool) (x : AuthItem) (content : List ℕ) → auth_item.Fits x → auth_item.Fits (cond b (record x { content = content }) x)
fits_chosen true x content fits = (refl, fits.1)
fits_chosen false x content fits = fits

pub zeroed_fit : (xs : List AuthItem) → AllByRecursion auth_item.Fits xs → AllByRecursion auth_item.Fits (map zeroed xs)
zeroed_fit [] fits = tt
zeroed_fit (x ∷ xs) fits = (fits_chosen (is_pac x) x (0 ∷ []) fits.0, zeroed_fit xs fits.1)

without_pac_fit : (xs : List AuthItem) → AllByRecursion auth_item.Fits xs → AllByRecursion auth_item.Fits (map item_without_pac xs)
without_pac_fit [] fits = tt
without_pac_fit (x ∷ xs) fits =
    (fits_chosen (list_any is_pac (elements_of x)) x ((sequence_of auth_item).spelling (map zeroed (elements_of x))) fits.0, without_pac_fit xs fits.1)

last_fits : (items : List AuthItem) → last.content.Fits (items, tt) → last.content.Fits (map item_without_pac items, tt)
last_fits [] fits = fits
last_fits (x ∷ xs) fits = (refl, (without_pac_fit (x ∷ xs) fits.1.0, tt))

pub part_fits : (p : EncTicketPart) → enc_ticket_part.Fits p → enc_ticket_part.Fits (record p { items = map item_without_pac p.items })
part_fits p fits =
    let a = fits.1 in
    let b = a.1 in
    let c = b.1 in
    let d = c.1 in
    let e = d.1 in
    let f = e.1 in
    let g = f.1 in
    let h = g.1 in
    let i = h.1.1 in
    let j = i.1.1 in
    (refl, (a.0, (b.0, (c.0, (d.0, (e.0, (f.0, (g.0, (h.0, (refl, (tt, (refl, (tt, last_fits p.items j.1)))))))))))))
