use Rattle.std.proofs.Common.{◌≡◌, ◌+◌, ◌≤◌, ◌*◌, length, map, take}
use Rattle.std.specs.List.{flat_map}
use Rattle.krb_tickets.specs.AuthItem.{auth_item}
use Rattle.krb_tickets.specs.Pac.{item_without_pac, pacs}
use Rattle.krb_tickets.proofs.pac.items_without_pac.Given as goal

abbrev pub invariant-loop-item : goal.invariant-loop-item
invariant-loop-item l = record {
  value : l.made ≡ map item_without_pac (take l.item-index l.items);
  within : length (flat_map auth_item.spelling (map item_without_pac (take l.item-index l.items))) ≤ length (flat_map auth_item.spelling (take l.item-index l.items)) + 8 * length (pacs (take l.item-index l.items));
}
