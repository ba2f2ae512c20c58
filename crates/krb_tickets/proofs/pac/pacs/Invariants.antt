use Rattle.std.proofs.Common.{take}
use Rattle.krb_tickets.specs.Found.{AreFound}
use Rattle.krb_tickets.specs.Pac.{pacs}
use Rattle.krb_tickets.proofs.pac.pacs.Given as goal

abbrev pub invariant-loop-item : goal.invariant-loop-item
invariant-loop-item l = AreFound l.found (pacs (take l.item-index l.items))
