use Rattle.std.proofs.Common.{◌≡◌, map, take}
use Rattle.krb_tickets.specs.Pac.{zeroed}
use Rattle.krb_tickets.proofs.pac.zeroed.Given as goal

abbrev pub invariant-loop-element : goal.invariant-loop-element
invariant-loop-element l = l.made ≡ map zeroed (take l.element-index l.elements)
