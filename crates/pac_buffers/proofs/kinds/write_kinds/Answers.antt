use Rattle.std.proofs.Common.{ap, arith}
use Rattle.pac_buffers.specs.declared.info_buffer.InfoBuffer.{InfoBuffer}
use Rattle.pac_buffers.proofs.Ascending.{written_more}
use Rattle.pac_buffers.proofs.kinds.write_kinds.Goals as goal

pub loop-i-preserved : goal.loop-i-preserved
loop-i-preserved c =
    written_more c.loop-i.kinds c.args.list.now c.loop-i.i c.read.result.kind (omega arith) (omega arith) c.loop-i.invariant (ap (λ (e : InfoBuffer). e.kind) c.read.ensures)
