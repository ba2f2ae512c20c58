use Rattle.std.proofs.Common.{get_or, arith}
use Rattle.der_forms.proofs.Loops.{part_le}
use Rattle.krb_tickets.specs.declared.auth_item.AuthItem.{AuthItem}
use Rattle.krb_tickets.specs.AuthItem.{auth_item}
use Rattle.krb_tickets.specs.Pac.{elements_of, pacs_in}
use Rattle.krb_tickets.proofs.PacSizes.{content_shorter}
use Rattle.krb_tickets.proofs.pac.items_without_pac.Goals as goal

pub item_without_pac-requires-clause-one : goal.item_without_pac-requires-clause-one
item_without_pac-requires-clause-one c =
    let le = part_le (λ (item : AuthItem). pacs_in (elements_of item)) c.args.items.now c.loop-item.item-index c.item-item.result c.loop-item-test.true in
    let few = c.requires.one in
    rw c.item-item.is (omega (arith, le, few))

pub item_without_pac-requires-clause-short : goal.item_without_pac-requires-clause-short
item_without_pac-requires-clause-short c =
    let le = part_le auth_item.spelling c.args.items.now c.loop-item.item-index c.item-item.result c.loop-item-test.true in
    let few = c.requires.short in
    rw c.item-item.is (
    let a = content_shorter (get_or c.args.items.now c.loop-item.item-index c.item-item.result) in
    omega (arith, a, le, few))
