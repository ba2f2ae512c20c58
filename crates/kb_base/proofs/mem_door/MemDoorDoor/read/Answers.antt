use Rattle.std.proofs.Common.{◌∙◌, ap}
use Rattle.kb_base.specs.Callers.{failed_callers}
use Rattle.kb_base.specs.Counts.{one_more}
use Rattle.kb_base.specs.Held.{DoorValue}
use Rattle.kb_base.proofs.Doors.{failed_count, failed_reads}
use Rattle.kb_base.proofs.mem_door.MemDoorDoor.read.Goals as goal

pub returns-then-is_next_listed-clause-bytes : goal.returns-then-is_next_listed-clause-bytes
returns-then-is_next_listed-clause-bytes c =
    let counted = c.is_next_listed.ensures.counted in
    let same = ap (λ (door : DoorValue). door.callers) c.fail.ensures.counted ∙ ap (λ (door : DoorValue). failed_callers door.callers) counted in
    let later = rw counted at c.fail.ensures.own_later in
    rw same (failed_reads c.args.self.now.callers c.args.buf.now _ later)

pub returns-then-is_next_listed-clause-cause : goal.returns-then-is_next_listed-clause-cause
returns-then-is_next_listed-clause-cause c =
    let counted = c.is_next_listed.ensures.counted in
    let same = ap (λ (door : DoorValue). door.faults) c.fail.ensures.counted ∙ ap (λ (door : DoorValue). one_more door.faults) counted in
    let later = rw counted at c.fail.ensures.later in
    rw same (failed_count c.args.self.now.faults _ (rw same at later))
