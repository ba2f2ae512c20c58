-- A PAC that stands alone in authorization data.
use Rattle.std.proofs.Common.{◌≡◌, ℕ, ◌+◌, ◌<◌, ◌≤◌, ◌^◌, cond, List, [], ◌∷◌, ◌++◌, length, map, pos, Ok, Option, refl, sym, ap, subst, ◌∙◌, append-nil, length-append, arith, is_some}
use Rattle.std.specs.List.{flat_map, list_any}
use Rattle.std.proofs.lemmas.Bool.{lt-ltb}
use Rattle.std.proofs.lemmas.List.Concat.{flat_map-cons}
use Rattle.der_core.specs.Codec.{whole}
use Rattle.der_core.specs.CodecLaws.{alone_lawful}
use Rattle.der_core.specs.Elements.{element}
use Rattle.der_core.specs.Integers.{integer}
use Rattle.der_core.specs.Laws.{IsBytes}
use Rattle.der_core.specs.Steps.{IsBytes-append}
use Rattle.der_core.specs.Sizes.{size}
use Rattle.der_forms.specs.Lists.{sequence_of}
use Rattle.der_forms.specs.ListLaws.{sequence_of_lawful}
use Rattle.krb_tickets.specs.declared.auth_item.AuthItem.{AuthItem}
use Rattle.krb_tickets.specs.declared.enc_ticket_part.EncTicketPart.{EncTicketPart}
use Rattle.krb_tickets.specs.AuthItem.{auth_item}
use Rattle.krb_tickets.specs.Laws.{auth_item_lawful}
use Rattle.krb_tickets.specs.Pac.{is_pac, the_one, pacs, pacs_in, elements_in, elements_of, or_none, zeroed, item_without_pac}
use Rattle.ticket_laws.specs.OnlyPac.{pac_element, pac_item, only_pac}
use Rattle.ticket_laws.specs.Laws.{PacIsFound, PacIsZeroed, PacIsShort, PacIsWritable}
use Rattle.ticket_laws.proofs.Bytes.{IsBytes-cons, element_bytes}
use Rattle.ticket_laws.proofs.Sizes.{element_within, append_within}
use Rattle.ticket_laws.proofs.Values.{item_fits}

one_short : integer (pos 1) ≡ 1 ∷ []
unfolding integer
one_short = refl

two_short : integer (pos 128) ≡ 0 ∷ 128 ∷ []
unfolding integer
two_short = refl

-- ---- sizes

kind_one : length (element 160 (element 2 (integer (pos 1)))) ≡ 5
unfolding integer size
kind_one = refl

kind_pac : length (element 160 (element 2 (integer (pos 128)))) ≡ 6
unfolding integer size
kind_pac = refl

-- an item whose field ad-type has at most m bytes
item_within : (x : AuthItem) (m n : ℕ) → length (element 160 (element 2 (integer x.kind))) ≤ m → length x.content ≤ n → length (auth_item.spelling x) ≤ 18 + m + n
item_within x m n few le =
    let content = element_within 161 (6 + n) (element 4 x.content) (element_within 4 n x.content le) in
    let behind = append_within (12 + n) 0 (element 161 (element 4 x.content)) [] (omega (arith, content)) (omega arith) in
    let inside = append_within m (12 + n + 0) (element 160 (element 2 (integer x.kind))) (element 161 (element 4 x.content) ++ []) few behind in
    let all = element_within 48 (m + (12 + n + 0)) (element 160 (element 2 (integer x.kind)) ++ (element 161 (element 4 x.content) ++ [])) inside in
    omega (arith, all)

one_spelling : (x : AuthItem) → length (flat_map auth_item.spelling (x ∷ [])) ≡ length (auth_item.spelling x)
one_spelling x = omega (arith, ap length (flat_map-cons auth_item.spelling x []), length-append (auth_item.spelling x) [])

-- the content of the item round a PAC
content_within : (pac : List ℕ) → length (pac_item pac).content ≤ 30 + length pac
content_within pac =
    let inner = item_within (pac_element pac) 6 (length pac) (omega (arith, kind_pac)) (omega arith) in
    let all = element_within 48 (24 + length pac) (flat_map auth_item.spelling (pac_element pac ∷ [])) (omega (arith, inner, one_spelling (pac_element pac))) in
    omega (arith, all)

pub pac_is_short : PacIsShort
pac_is_short pac =
    let all = item_within (pac_item pac) 5 (30 + length pac) (omega (arith, kind_one)) (content_within pac) in
    omega (arith, all, one_spelling (pac_item pac))

-- ---- bytes

one_bytes : IsBytes (integer (pos 1))
one_bytes = subst IsBytes (sym one_short) (IsBytes-cons 1 [] (omega arith) (λ i. omega arith))

two_bytes : IsBytes (integer (pos 128))
two_bytes = subst IsBytes (sym two_short) (IsBytes-cons 0 (128 ∷ []) (omega arith) (IsBytes-cons 128 [] (omega arith) (λ i. omega arith)))

item_bytes : (x : AuthItem) → IsBytes (integer x.kind) → IsBytes x.content → IsBytes (auth_item.spelling x)
item_bytes x kind content =
    let number : List ℕ = element 160 (element 2 (integer x.kind)) in
    let octets : List ℕ = element 161 (element 4 x.content) in
    let first = element_bytes 160 (element 2 (integer x.kind)) (omega arith) (element_bytes 2 (integer x.kind) (omega arith) kind) in
    let second = element_bytes 161 (element 4 x.content) (omega arith) (element_bytes 4 x.content (omega arith) content) in
    element_bytes 48 (number ++ (octets ++ [])) (omega arith) (IsBytes-append number (octets ++ []) first (IsBytes-append octets [] second (λ i. omega arith)))

pub pac_is_writable : PacIsWritable
pac_is_writable pac are_bytes =
    let element = item_bytes (pac_element pac) two_bytes are_bytes in
    let whole : flat_map auth_item.spelling (pac_element pac ∷ []) ≡ auth_item.spelling (pac_element pac) = flat_map-cons auth_item.spelling (pac_element pac) [] ∙ append-nil (auth_item.spelling (pac_element pac)) in
    let content = element_bytes 48 (flat_map auth_item.spelling (pac_element pac ∷ [])) (omega arith) (subst IsBytes (sym whole) element) in
    (record { kind = record { sfits = omega arith }; content = content }, tt)

-- ---- the PAC

-- the element is read again
pac_read : (pac : List ℕ) → length pac < 2 ^ 31 → whole (sequence_of auth_item) (pac_item pac).content ≡ Ok (pac_element pac ∷ [])
pac_read pac few =
    let lawful = alone_lawful (sequence_of auth_item) (sequence_of_lawful auth_item auth_item_lawful) in
    let elements : List AuthItem = pac_element pac ∷ [] in
    let fits = item_fits (pac_element pac) (record { sfits = omega arith }) in
    lawful.only (record { place = 0; bytes = (pac_item pac).content }) elements (lawful.spelt elements (fits, tt) (omega (arith, content_within pac, few)))

read_in : (content : List ℕ) (elements : List AuthItem) → length content < 2 ^ 32 → whole (sequence_of auth_item) content ≡ Ok elements → elements_in content ≡ elements
unfolding elements_in
read_in content elements short read =
    ap (λ t. cond t (or_none (whole (sequence_of auth_item) content)) []) (lt-ltb (length content) (2 ^ 32) short) ∙ ap or_none read

pac_elements : (pac : List ℕ) → length pac < 2 ^ 31 → elements_of (pac_item pac) ≡ pac_element pac ∷ []
pac_elements pac few = read_in (pac_item pac).content (pac_element pac ∷ []) (omega (arith, content_within pac, few)) (pac_read pac few)

pub pac_is_found : PacIsFound
pac_is_found p pac few =
    let within : AuthItem → List (List ℕ) = λ item. pacs_in (elements_of item) in
    let one : pacs (only_pac pac) ≡ pacs_in (elements_of (pac_item pac)) = flat_map-cons within (pac_item pac) [] ∙ append-nil (within (pac_item pac)) in
    ap the_one (one ∙ ap pacs_in (pac_elements pac few))

-- the item with one zero byte in place of its PAC
item_zeroed : (pac : List ℕ) → length pac < 2 ^ 31 → item_without_pac (pac_item pac) ≡ pac_item (0 ∷ [])
item_zeroed pac few =
    ap (λ (elements : List AuthItem). cond (list_any is_pac elements) (record (pac_item pac) { content = (sequence_of auth_item).spelling (map zeroed elements) }) (pac_item pac)) (pac_elements pac few)

pub pac_is_zeroed : PacIsZeroed
pac_is_zeroed p pac few =
    let q : EncTicketPart = record p { items = only_pac pac } in
    ap (λ (found : Option (List ℕ)). cond (is_some found) (record q { items = map item_without_pac q.items }) q) (pac_is_found p pac few)
    ∙ ap (λ (item : AuthItem). let made : EncTicketPart = record p { items = item ∷ [] } in made) (item_zeroed pac few)
