use Rattle.std.proofs.Common.{ap, sym, ◌∙◌, arith}
use Rattle.pac_buffers.specs.declared.info_buffer.InfoBuffer.{InfoBuffer}
use Rattle.pac_buffers.proofs.Ascending.{earlier_is, twice_here, twice_later}
use Rattle.pac_buffers.proofs.kinds.first_of_ascending.Goals as goal

pub returns-then-is_before : goal.returns-then-is_before
returns-then-is_before c =
    let kind = c.read-kind.result.kind in
    let i = c.loop-i.i in
    sym (twice_here c.args.list.now i kind (omega arith) (ap (λ (e : InfoBuffer). e.kind) c.read-kind.ensures) (sym (earlier_is kind i c.args.list.now c.args.kinds.now c.requires.same) ∙ sym c.is_before.ensures ∙ c.if-is_before.true)) ∙ c.loop-i.invariant

pub loop-i-preserved : goal.loop-i-preserved
loop-i-preserved c =
    let kind = c.read-kind.result.kind in
    let i = c.loop-i.i in
    twice_later c.args.list.now i kind (omega arith) (ap (λ (e : InfoBuffer). e.kind) c.read-kind.ensures) (sym (earlier_is kind i c.args.list.now c.args.kinds.now c.requires.same) ∙ sym c.is_before.ensures ∙ c.if-is_before.false) ∙ c.loop-i.invariant
