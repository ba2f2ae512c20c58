use Rattle.std.proofs.Common.{◌≡◌, ◌+◌, ◌*◌, ◌<◌, ◌≤◌, ◌^◌, List, length, map, sym, subst, IfOk, ◌∙◌, arith}
use Rattle.std.specs.List.{flat_map}
use Rattle.krb_tickets.specs.declared.auth_item.AuthItem.{AuthItem}
use Rattle.krb_tickets.specs.declared.enc_ticket_part.EncTicketPart.{EncTicketPart}
use Rattle.krb_tickets.specs.AuthItem.{auth_item}
use Rattle.krb_tickets.specs.EncTicketPart.{enc_ticket_part}
use Rattle.krb_tickets.specs.Pac.{item_without_pac, pacs}
use Rattle.krb_tickets.proofs.Pacs.{copied_is, one_pac, without_none, without_one}
use Rattle.krb_tickets.proofs.PacSizes.{items_shorter, part_fits, part_longer, written_within}
use Rattle.krb_tickets.proofs.pac.part_without_pac.Goals as goal

pub items_without_pac-requires-clause-one : goal.items_without_pac-requires-clause-one
items_without_pac-requires-clause-one c =
    let one = one_pac c.args.part.now c.in-Some.field-0.now c.in-Some.ensures.exact in
    subst (λ (xs : List AuthItem). length (pacs xs) ≤ 1) (sym c.as_slice.ensures) (omega (arith, one))

pub items_without_pac-requires-clause-short : goal.items_without_pac-requires-clause-short
items_without_pac-requires-clause-short c =
    let le = items_shorter c.args.part.now in
    let few = c.requires.short in
    subst (λ (xs : List AuthItem). length (flat_map auth_item.spelling xs) + 16 < 2 ^ 32) (sym c.as_slice.ensures) (omega (arith, le, few))

pub write-requires-in-Some-clause-fits : goal.write-requires-in-Some-clause-fits
write-requires-in-Some-clause-fits c =
    let made = c.in_ok-items-in-Some in
    let copy = c.in_ok-with_items-in-Some in
    let is = copied_is c.args.part.now copy.field-0 c.as_slice.result.now made.items c.as_slice.ensures made.ensures.value copy.ensures in
    subst enc_ticket_part.Fits (sym is) (part_fits c.args.part.now c.requires.fits)

pub write-requires-in-Some-clause-short : goal.write-requires-in-Some-clause-short
write-requires-in-Some-clause-short c =
    let made = c.in_ok-items-in-Some in
    let copy = c.in_ok-with_items-in-Some in
    let is = copied_is c.args.part.now copy.field-0 c.as_slice.result.now made.items c.as_slice.ensures made.ensures.value copy.ensures in
    let one = one_pac c.args.part.now c.in-Some.field-0.now c.in-Some.ensures.exact in
    let longer = part_longer c.args.part.now one (subst (λ (xs : List AuthItem). length (flat_map auth_item.spelling (map item_without_pac xs)) ≤ length (flat_map auth_item.spelling xs) + 8 * length (pacs xs)) c.as_slice.ensures made.ensures.within) in
    let few = c.requires.short in
    subst (λ (p : EncTicketPart). length (enc_ticket_part.spelling p) < 2 ^ 32) (sym is) (omega (arith, longer, few))

pub returns-in-None : goal.returns-in-None
returns-in-None c = record {
  ok = subst (λ (p : EncTicketPart). IfOk c.write.result (λ bytes. bytes ≡ enc_ticket_part.spelling p)) (sym (without_none c.args.part.now c.in-None.ensures.exact)) c.write.ensures.ok;
  short = written_within c.write.result (enc_ticket_part.spelling c.args.part.now) _ (omega arith) c.write.ensures.ok;
}

pub returns-in_ok-with_items-in-Some : goal.returns-in_ok-with_items-in-Some
returns-in_ok-with_items-in-Some c =
    let made = c.in_ok-items-in-Some in
    let copy = c.in_ok-with_items-in-Some in
    let is = copied_is c.args.part.now copy.field-0 c.as_slice.result.now made.items c.as_slice.ensures made.ensures.value copy.ensures in
    let same = without_one c.args.part.now c.in-Some.field-0.now c.in-Some.ensures.exact in
    let one = one_pac c.args.part.now c.in-Some.field-0.now c.in-Some.ensures.exact in
    let longer = part_longer c.args.part.now one (subst (λ (xs : List AuthItem). length (flat_map auth_item.spelling (map item_without_pac xs)) ≤ length (flat_map auth_item.spelling xs) + 8 * length (pacs xs)) c.as_slice.ensures made.ensures.within) in
    record {
      ok = subst (λ (p : EncTicketPart). IfOk c.write-in-Some.result (λ bytes. bytes ≡ enc_ticket_part.spelling p)) (is ∙ sym same) c.write-in-Some.ensures.ok;
      short = written_within c.write-in-Some.result (enc_ticket_part.spelling copy.field-0) _ (subst (λ (p : EncTicketPart). length (enc_ticket_part.spelling p) ≤ length (enc_ticket_part.spelling c.args.part.now) + 12) (sym is) longer) c.write-in-Some.ensures.ok;
    }
