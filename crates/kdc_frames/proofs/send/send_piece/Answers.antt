use Rattle.std.proofs.Common.{◌∙◌, [], refl, arith, take, length, ◌-◌, drop}
use Rattle.kdc_frames.specs.Pieces.{Takes}
use Rattle.kdc_frames.proofs.Doors.{moves_none, moves_on, writes}
use Rattle.kdc_frames.proofs.Steps.{takes_more, takes_none}
use Rattle.kdc_frames.proofs.send.send_piece.Goals as goal

pub loop-at-init : goal.loop-at-init
loop-at-init g c = record {
  within = omega arith;
  sent = moves_none (Takes []) takes_none (g.L.Door.callers c.args.door.now);
  kept = refl;
  accept = refl;
}

pub loop-at-preserved : goal.loop-at-preserved
loop-at-preserved g c = record {
  within = omega (arith, c.in_ok-at.ensures.bound);
  sent =
      moves_on (Takes (take c.loop-at.at c.args.piece.now)) (Takes (take c.in_ok-at.field-0 (take (length c.args.piece.now - c.loop-at.at) (drop c.loop-at.at c.args.piece.now)))) (Takes _)
      (takes_more c.loop-at.at c.in_ok-at.field-0 c.args.piece.now)
      (g.L.Door.callers c.args.door.now) (g.L.Door.callers c.loop-at.door) (g.L.Door.callers c.write.new.self)
      c.loop-at.invariant.sent
      (writes c.in_ok-at.field-0 (take (length c.args.piece.now - c.loop-at.at) (drop c.loop-at.at c.args.piece.now)) (g.L.Door.callers c.loop-at.door) (g.L.Door.callers c.write.new.self) c.in_ok-at.ensures.bytes);
  kept = c.in_ok-at.ensures.cause.failed ∙ c.loop-at.invariant.kept;
  accept = c.in_ok-at.ensures.unchanged ∙ c.loop-at.invariant.accept;
}
