use Rattle.std.proofs.Common.{arith}
use Rattle.der_forms.proofs.Loops.{part_le}
use Rattle.der_forms.proofs.list.put_items.Goals as goal

pub write_to-requires-clause-short : goal.write_to-requires-clause-short
write_to-requires-clause-short g c =
    let le = part_le g.T.Form.codec.spelling c.args.items.now c.loop-item.item-index c.item-item.result c.loop-item-test.true in
    let short = c.requires.short in
    rw c.item-item.is (omega arith)
