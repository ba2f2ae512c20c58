use Rattle.std.proofs.Common.{◌≡◌, ℕ, ◌<◌, ◌^◌, List, [], ◌∷◌, length, sym, ap, subst, ◌∙◌}
use Rattle.der_forms.specs.Lists.{sequence_of}
use Rattle.krb_tickets.specs.declared.auth_item.AuthItem.{AuthItem}
use Rattle.krb_tickets.specs.AuthItem.{auth_item}
use Rattle.ticket_laws.specs.OnlyPac.{pac_element}
use Rattle.ticket_parts.proofs.Written.{element_short}
use Rattle.ticket_parts.proofs.making.only_pac.Goals as goal

pub write-requires-clause-short : goal.write-requires-clause-short
write-requires-clause-short c =
    let is : c.in_ok-elements.elements ≡ pac_element c.args.pac.now ∷ [] = c.in_ok-elements.ensures ∙ ap (λ (bytes : List ℕ). pac_element bytes ∷ []) c.in_ok-copy.ensures in
    subst (λ (elements : List AuthItem). length ((sequence_of auth_item).spelling elements) < 2 ^ 32) (sym is) (element_short c.args.pac.now c.requires)
