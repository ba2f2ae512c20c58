use Rattle.std.proofs.Common.{List, ◌≡◌, ◌<◌, ◌≤◌, ◌^◌, true, length, sym, ap, subst, ◌∙◌, map, arith}
use Rattle.std.specs.List.{list_any, AllByRecursion}
use Rattle.der_forms.specs.Lists.{sequence_of}
use Rattle.krb_tickets.specs.declared.auth_item.AuthItem.{AuthItem}
use Rattle.krb_tickets.specs.AuthItem.{auth_item}
use Rattle.krb_tickets.specs.Pac.{is_pac, pacs_in, zeroed}
use Rattle.krb_tickets.proofs.PacSizes.{zeroed_fit, zeroed_within, item_longer}
use Rattle.krb_tickets.proofs.pac.item_without_pac.Goals as goal

pub write-requires-clause-fits : goal.write-requires-clause-fits
write-requires-clause-fits c =
    let is : c.in_ok-zeroed.field-0 ≡ map zeroed c.in_ok-elements.elements = c.in_ok-zeroed.ensures ∙ ap (map zeroed) c.as_slice-2.ensures in
    subst (λ (xs : List AuthItem). AllByRecursion auth_item.Fits xs) (sym is) (zeroed_fit c.in_ok-elements.elements c.in_ok-elements.ensures.fits)

pub write-requires-clause-short : goal.write-requires-clause-short
write-requires-clause-short c =
    let elements : List AuthItem = c.in_ok-elements.elements in
    let is : c.in_ok-zeroed.field-0 ≡ map zeroed elements = c.in_ok-zeroed.ensures ∙ ap (map zeroed) c.as_slice-2.ensures in
    let one = subst (λ (xs : List AuthItem). length (pacs_in xs) ≤ 1) (sym c.in_ok-elements.ensures.value) c.requires.one in
    let some : list_any is_pac elements ≡ true = ap (list_any is_pac) (sym c.as_slice.ensures) ∙ sym c.has_pac.ensures ∙ c.if-not-has_pac.false in
    let le = zeroed_within elements (length c.args.item.now.content) one (c.in_ok-elements.ensures.within some) in
    let few = c.requires.short in
    let short : length ((sequence_of auth_item).spelling (map zeroed elements)) < 2 ^ 32 = omega (arith, le, one, few) in
    subst (λ (xs : List AuthItem). length ((sequence_of auth_item).spelling xs) < 2 ^ 32) (sym is) short

pub returns-clause-within : goal.returns-clause-within
returns-clause-within c =
    item_longer c.args.item.now c.requires.one
    (subst (λ (xs : List AuthItem). list_any is_pac xs ≡ true → length ((sequence_of auth_item).spelling xs) ≤ length c.args.item.now.content) c.in_ok-elements.ensures.value c.in_ok-elements.ensures.within)
