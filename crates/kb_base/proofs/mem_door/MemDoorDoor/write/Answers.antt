use Rattle.std.proofs.Common.{◌∙◌, ap}
use Rattle.kb_base.specs.Callers.{failed_callers}
use Rattle.kb_base.specs.Counts.{one_more}
use Rattle.kb_base.specs.Held.{DoorValue}
use Rattle.kb_base.proofs.Doors.{failed_device_count, failed_writes}
use Rattle.kb_base.proofs.mem_door.MemDoorDoor.write.Goals as goal

pub returns-then-is_next_listed-clause-bytes : goal.returns-then-is_next_listed-clause-bytes
returns-then-is_next_listed-clause-bytes c =
    let counted = c.is_next_listed.ensures.counted in
    let same = ap (λ (door : DoorValue). door.callers) c.fail.ensures.counted ∙ ap (λ (door : DoorValue). failed_callers door.callers) counted in
    let later = rw counted at c.fail.ensures.own_later in
    rw same (failed_writes c.args.self.now.callers c.args.piece.now later)

pub returns-then-is_next_listed-clause-cause : goal.returns-then-is_next_listed-clause-cause
returns-then-is_next_listed-clause-cause c =
    let counted = c.is_next_listed.ensures.counted in
    let same = ap (λ (door : DoorValue). door.faults) c.fail.ensures.counted ∙ ap (λ (door : DoorValue). one_more door.faults) counted in
    let later = rw counted at c.fail.ensures.later in
    rw same (failed_device_count c.args.self.now.faults (rw same at later))
