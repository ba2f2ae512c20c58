use Rattle.std.proofs.Common.{◌≡◌, ◌-◌, List, length}
use Rattle.der_forms.specs.Lists.{items_at, items}
use Rattle.der_forms.proofs.Loops.{with_front}
use Rattle.krb_tickets.specs.declared.auth_item.AuthItem.{AuthItem}
use Rattle.krb_tickets.specs.AuthItem.{auth_item}
use Rattle.krb_tickets.specs.Found.{AreFound}
use Rattle.krb_tickets.specs.Pac.{pacs_in}
use Rattle.krb_tickets.proofs.pac.find_in.Given as goal

abbrev pub invariant-loop : goal.invariant-loop
invariant-loop l = record {
  seen : List AuthItem;
  so_far : with_front seen (items_at (length l.fn.content.bytes - l.counter) l.fn.content.place auth_item l.from) ≡ (items auth_item).reading l.fn.content;
  found : AreFound l.found (pacs_in seen);
}
