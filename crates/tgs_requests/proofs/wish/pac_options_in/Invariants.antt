use Rattle.std.proofs.Common.{◌≡◌, drop}
use Rattle.tgs_requests.specs.Askings.{pac_options_in}
use Rattle.tgs_requests.proofs.wish.pac_options_in.Given as goal

abbrev pub invariant-loop-item : goal.invariant-loop-item
invariant-loop-item l = pac_options_in l.items ≡ pac_options_in (drop l.item-index l.items)
