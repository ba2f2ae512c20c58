use Rattle.std.proofs.Common.{◌≡◌, length, ◌-◌, ◌≤◌, take}
use Rattle.kdc_frames.specs.Moves.{Moves}
use Rattle.kdc_frames.specs.Pieces.{Takes}
use Rattle.kdc_frames.proofs.send.send_piece.Given as goal

abbrev pub invariant-loop-at : goal.invariant-loop-at
invariant-loop-at g l =
    record {
      within : l.at ≤ length l.piece;
      sent : Moves (Takes (take l.at l.piece)) (g.L.Door.callers l.fn.door) (g.L.Door.callers l.door);
      kept : g.L.Door.faults l.door ≡ g.L.Door.faults l.fn.door;
      accept : g.L.Door.accept_faults l.door ≡ g.L.Door.accept_faults l.fn.door;
    }

abbrev pub decreases-loop-at : goal.decreases-loop-at
decreases-loop-at g l = length l.piece - l.at
