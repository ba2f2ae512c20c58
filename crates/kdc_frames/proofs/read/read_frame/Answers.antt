use Rattle.std.proofs.Common.{arith, ◌<◌, ◌≤◌, length, refl}
use Rattle.std.specs.Prelude.{Err, Ok}
use Rattle.std.specs.Int.{from_be_bytes, w32}
use Rattle.kb_base.specs.declared.fault.DeviceFault.TheVariants.{Failed}
use Rattle.kdc_frames.specs.Moves.{ReadsFrame}
use Rattle.kdc_frames.specs.Pieces.{Fills, ReadsBody}
use Rattle.kdc_frames.specs.declared.frame.Frame.TheVariants.{Cut, End}
use Rattle.kdc_frames.proofs.Doors.{moves_as, moves_on}
use Rattle.kdc_frames.proofs.Steps.{frame_body, frame_cut, frame_end, frame_fails}
use Rattle.kdc_frames.proofs.read.read_frame.Goals as goal

pub returns-in-Err-clause-frame : goal.returns-in-Err-clause-frame
returns-in-Err-clause-frame g c =
    moves_as (Fills c.fill.new.buf (Err c.in-Err.field-0)) (ReadsFrame (Err Failed)) (frame_fails c.in-Err.field-0 c.fill.new.buf c.fill.auto.buf) (g.L.Door.callers c.args.door.now) (g.L.Door.callers c.fill.new.door) c.in-Err.ensures.bytes

pub returns-then-count-eq0-clause-frame : goal.returns-then-count-eq0-clause-frame
returns-then-count-eq0-clause-frame g c =
    let filled = rw c.if-count-eq0.true at c.in-Ok.ensures.bytes in
    moves_as (Fills c.fill.new.buf (Ok 0)) (ReadsFrame (Ok End)) (frame_end c.fill.new.buf c.fill.auto.buf) (g.L.Door.callers c.args.door.now) (g.L.Door.callers c.fill.new.door) filled

pub returns-then-count-lt4-clause-frame : goal.returns-then-count-lt4-clause-frame
returns-then-count-lt4-clause-frame g c =
    moves_as (Fills c.fill.new.buf (Ok c.in-Ok.count)) (ReadsFrame (Ok Cut)) (frame_cut c.fill.new.buf c.in-Ok.count c.fill.auto.buf (omega arith) (omega arith)) (g.L.Door.callers c.args.door.now) (g.L.Door.callers c.fill.new.door) c.in-Ok.ensures.bytes

pub returns-clause-frame : goal.returns-clause-frame
returns-clause-frame g c =
    let body = rw c.from_be_bytes.ensures at c.read_body.ensures.frame in
    moves_on (Fills c.fill.new.buf (Ok c.in-Ok.count)) (ReadsBody (from_be_bytes w32 c.fill.new.buf) c.read_body.result) (ReadsFrame c.read_body.result)
    (frame_body c.fill.new.buf c.in-Ok.count c.read_body.result c.fill.auto.buf (omega arith))
    (g.L.Door.callers c.args.door.now) (g.L.Door.callers c.fill.new.door) (g.L.Door.callers c.read_body.new.door)
    c.in-Ok.ensures.bytes body
