use Rattle.std.proofs.Common.{◌≡◌, ◌-◌}
use Rattle.der_forms.specs.Lists.{items_at}
use Rattle.der_forms.proofs.Loops.{with_front}
use Rattle.der_forms.proofs.list.read_items.Given as goal

abbrev pub invariant-loop : goal.invariant-loop
invariant-loop g l =
    with_front l.items (items_at (l.fn.limit - l.counter) l.fn.content.place g.T.Form.codec l.from)
    ≡ items_at l.fn.limit l.fn.content.place g.T.Form.codec l.fn.content
