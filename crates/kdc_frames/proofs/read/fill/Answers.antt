use Rattle.std.proofs.Common.{◌∙◌, [], refl, arith, take, length, ◌-◌}
use Rattle.kdc_frames.specs.Pieces.{Gives, Loses}
use Rattle.kdc_frames.proofs.Doors.{moves_none, moves_on, reads}
use Rattle.kdc_frames.proofs.Steps.{loses_more, loses_none, read_into, read_within_room}
use Rattle.kdc_frames.proofs.read.fill.Goals as goal

pub loop-at-init : goal.loop-at-init
loop-at-init g c = record {
  within = omega arith;
  read = moves_none (Loses []) loses_none (g.L.Door.callers c.args.door.now);
  kept = refl;
  accept = refl;
}

pub loop-at-preserved : goal.loop-at-preserved
loop-at-preserved g c =
    let few = c.in_ok-count.ensures.bound.0 in
    let fits = c.loop-at.invariant.within in
    record {
      within = read_within_room c.loop-at.at (length c.loop-at.buf - c.loop-at.at) c.in_ok-count.count c.loop-at.buf c.read.new.buf fits few;
      read =
          moves_on (Loses (take c.loop-at.at c.loop-at.buf)) (Gives c.in_ok-count.count c.read.new.buf) (Loses _)
          (loses_more (take c.loop-at.at c.loop-at.buf) [] _ c.read.new.buf c.in_ok-count.count (read_into c.loop-at.at (length c.loop-at.buf - c.loop-at.at) c.in_ok-count.count c.loop-at.buf c.read.new.buf fits few))
          (g.L.Door.callers c.args.door.now) (g.L.Door.callers c.loop-at.door) (g.L.Door.callers c.read.new.self)
          c.loop-at.invariant.read
          (reads c.in_ok-count.count c.read.new.buf (g.L.Door.callers c.loop-at.door) (g.L.Door.callers c.read.new.self) c.in_ok-count.ensures.bytes);
      kept = c.in_ok-count.ensures.cause.kept ∙ c.loop-at.invariant.kept;
      accept = c.in_ok-count.ensures.unchanged ∙ c.loop-at.invariant.accept;
    }
