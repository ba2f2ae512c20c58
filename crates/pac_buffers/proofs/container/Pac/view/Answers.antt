use Rattle.std.proofs.Common.{◌≡◌, ap, ◌∙◌}
use Rattle.std.specs.Prelude.{None}
use Rattle.pac_buffers.specs.Container.{pac_fault}
use Rattle.pac_buffers.proofs.Faults.{no_fault}
use Rattle.pac_buffers.proofs.container.Pac.view.Goals as goal

pub unreachable-requires : goal.unreachable-requires
unreachable-requires c =
    let none : pac_fault c.as_slice.result.now ≡ None = ap pac_fault c.as_slice.ensures.value ∙ no_fault c.args.self.now c.as_slice.ensures.sound in
    let some = c.in-Err.ensures.exact in
    absurd cc
