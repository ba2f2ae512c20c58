use Rattle.std.proofs.Common.{length}
use Rattle.std.specs.Prelude.{Ok, Err}
use Rattle.std.specs.Int.{to_be_bytes, w32}
use Rattle.std.proofs.lemmas.Result.{err_from_is_err_and}
use Rattle.kdc_frames.specs.Frames.{frame}
use Rattle.kdc_frames.specs.Moves.{SendsPiece}
use Rattle.kdc_frames.proofs.Doors.{moves_as, moves_on}
use Rattle.kdc_frames.proofs.Steps.{sends_both, sends_head_not}
use Rattle.kdc_frames.proofs.send.send_frame.Goals as goal

pub returns-in_err-send_piece-clause-sent : goal.returns-in_err-send_piece-clause-sent
returns-in_err-send_piece-clause-sent g c =
    let p = err_from_is_err_and c.from_residual.result c.from_residual.ensures.1 in
    rw (p.1, p.2) (moves_as (SendsPiece (to_be_bytes w32 (length c.args.message.now)) (Err c.in_err-send_piece.field-0.0)) (SendsPiece (frame c.args.message.now) (Err c.in_err-send_piece.field-0.0)) (sends_head_not c.in_err-send_piece.field-0.0 c.args.message.now) (g.L.Door.callers c.args.door.now) (g.L.Door.callers c.send_piece.new.door) (rw c.to_be_bytes-head.ensures at c.in_err-send_piece.ensures.sent))

pub returns-clause-sent : goal.returns-clause-sent
returns-clause-sent g c =
    let first = rw c.to_be_bytes-head.ensures at c.in_ok-send_piece.ensures.sent in
    moves_on (SendsPiece (to_be_bytes w32 (length c.args.message.now)) (Ok tt)) (SendsPiece c.args.message.now c.send_piece-2.result) (SendsPiece (frame c.args.message.now) c.send_piece-2.result)
    (sends_both c.args.message.now c.send_piece-2.result)
    (g.L.Door.callers c.args.door.now) (g.L.Door.callers c.send_piece.new.door) (g.L.Door.callers c.send_piece-2.new.door)
    first c.send_piece-2.ensures.sent
