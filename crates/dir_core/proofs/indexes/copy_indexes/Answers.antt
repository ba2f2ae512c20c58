use Rattle.std.proofs.Common.{take}
use Rattle.dir_core.specs.Indexed.{IsSameIndex}
use Rattle.dir_core.proofs.Places.{one_more, zip_push}
use Rattle.dir_core.proofs.indexes.copy_indexes.Goals as goal

pub loop-index-preserved : goal.loop-index-preserved
loop-index-preserved c =
    let indexes = c.args.indexes.now in
    let i = c.loop-index.index-index in
    rw (c.in_ok-push.ensures.ok, one_more indexes i c.index-item.result c.loop-index-test.true c.index-item.is)
    (zip_push IsSameIndex (take i indexes) c.loop-index.copied c.index-item.result c.in_ok-try_clone.field-0 c.loop-index.invariant c.in_ok-try_clone.ensures)
