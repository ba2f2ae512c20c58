use Rattle.std.proofs.Common.{take}
use Rattle.std.proofs.lemmas.Result.{err_from_is_err_and}
use Rattle.kb_base.proofs.Known.{consumes_more}
use Rattle.kb_base.proofs.whole.read_whole.Goals as goal

pub returns-in_err-extend_from_slice-in-Ok-clause-rest : goal.returns-in_err-extend_from_slice-in-Ok-clause-rest
returns-in_err-extend_from_slice-in-Ok-clause-rest g c =
    let p = err_from_is_err_and c.from_residual.result c.from_residual.ensures.1 in
    rw p.1 (_, consumes_more (g.S.Source.left c.args.source.now) (g.S.Source.left c.loop-buf.source) (g.S.Source.left c.read.new.self) c.loop-buf.bytes.items (take c.in-Ok.count c.read.new.buf) c.loop-buf.invariant.read c.in-Ok.ensures.bytes.0)
