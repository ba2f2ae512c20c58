-- PACs that are looked for in one list after the other.
use Rattle.std.proofs.Common.{◌≡◌, ℕ, ◌+◌, ◌<◌, List, [], ◌∷◌, ◌++◌, length, map, get_or, take, filter, cond, is_some, Option, Some, None, refl, sym, ap, ◌∙◌, append-nil}
use Rattle.std.specs.List.{flat_map}
use Rattle.std.proofs.lemmas.List.{map-append, take_more}
use Rattle.std.proofs.lemmas.List.Concat.{flat_map-append}
use Rattle.std.proofs.lemmas.List.Elements.{filter-append}
use Rattle.krb_tickets.specs.declared.auth_item.AuthItem.{AuthItem}
use Rattle.krb_tickets.specs.declared.enc_ticket_part.EncTicketPart.{EncTicketPart}
use Rattle.krb_tickets.specs.Pac.{is_pac, pacs_in, pacs, elements_of, the_one, pac_of, without_pac, item_without_pac}

pub pacs_in_more : (seen : List AuthItem) (x : AuthItem) → pacs_in (seen ++ x ∷ []) ≡ pacs_in seen ++ pacs_in (x ∷ [])
pacs_in_more seen x =
    ap (map (λ (element : AuthItem). element.content)) (filter-append is_pac seen (x ∷ []))
    ∙ map-append (λ (element : AuthItem). element.content) (filter is_pac seen) (filter is_pac (x ∷ []))

pub pacs_more : (items : List AuthItem) (i : ℕ) (d : AuthItem) → i < length items → pacs (take (i + 1) items) ≡ pacs (take i items) ++ pacs_in (elements_of (get_or items i d))
pacs_more items i d lt =
    let within = λ (item : AuthItem). pacs_in (elements_of item) in
    ap (flat_map within) (take_more items i d lt)
    ∙ flat_map-append within (take i items) (get_or items i d ∷ [])
    ∙ ap (λ (v : List (List ℕ)). flat_map within (take i items) ++ v) (append-nil (within (get_or items i d)))

pub without_none : (p : EncTicketPart) → None ≡ pac_of p → without_pac p ≡ p
without_none p e = ap (λ (pac : Option (List ℕ)). cond (is_some pac) (record p { items = map item_without_pac p.items }) p) (sym e)

pub without_one : (p : EncTicketPart) (pac : List ℕ) → Some pac ≡ pac_of p → without_pac p ≡ record p { items = map item_without_pac p.items }
without_one p pac e = ap (λ (pac : Option (List ℕ)). cond (is_some pac) (record p { items = map item_without_pac p.items }) p) (sym e)

one_of : (found : List (List ℕ)) (pac : List ℕ) → Some pac ≡ the_one found → length found ≡ 1
one_of [] pac e = absurd cc
one_of (x ∷ []) pac e = refl
one_of (x ∷ (y ∷ found)) pac e = absurd cc

-- a part's PAC is the one among its items
pub one_pac : (p : EncTicketPart) (pac : List ℕ) → Some pac ≡ pac_of p → length (pacs p.items) ≡ 1
one_pac p pac e = one_of (pacs p.items) pac e

-- a part that is copied with other items
pub copied_is : (p copied : EncTicketPart) (old new : List AuthItem) → old ≡ p.items → new ≡ map item_without_pac old → copied ≡ record p { items = new }
    → copied ≡ record p { items = map item_without_pac p.items }
copied_is p copied old new same made is =
    is ∙ ap (λ (items : List AuthItem). let q : EncTicketPart = record p { items = items } in q) (made ∙ ap (map item_without_pac) same)
