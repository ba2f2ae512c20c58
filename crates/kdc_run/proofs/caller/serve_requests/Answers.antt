use Rattle.std.proofs.Common.{◌∙◌, ◌+◌, ◌-◌, suc, refl}
use Rattle.std.specs.Prelude.{None, Some}
use Rattle.std.proofs.lemmas.Result.{err_from_is_err_and}
use Rattle.kdc_frames.specs.Requests.{leave_after_long}
use Rattle.kdc_frames.specs.declared.leave.Leave.TheVariants.{Fault, FrameCut}
use Rattle.kdc_run.specs.Worlds.{world}
use Rattle.kdc_run.specs.declared.turn.Turn.TheVariants.{AnsweredLong, Broken, Ended, Failed, Unsent}
use Rattle.kdc_run.proofs.Endings.{answered_long, broken, ended, failed, unsent}
use Rattle.kdc_run.proofs.Talking.{long_talk, talk_begins, talk_breaks, talk_ends, talk_goes_on, talk_spent}
use Rattle.kdc_run.proofs.caller.serve_requests.Goals as goal

pub loop-count-init : goal.loop-count-init
loop-count-init g c = record {
  so_far = talk_begins (world (g.L.Door.callers c.args.door.now) (g.G.Changes.batches c.args.changes.now) (g.C.Clock.moments c.args.clock.now) (g.E.Entropy.blocks c.args.entropy.now) c.args.dir.now (g.O.Sink.held c.args.out.now));
  changes = refl;
  entropy = refl;
  out = refl;
  accept = refl;
}

pub returns-in-Ended-clause-talk : goal.returns-in-Ended-clause-talk
returns-in-Ended-clause-talk g c =
    let n = c.loop-count.count in
    talk_ends n Ended (n) (None) c.done.result c.done.ensures (λ a b d. ended n a b d c.loop-count-test.true)
    (world (g.L.Door.callers c.args.door.now) (g.G.Changes.batches c.args.changes.now) (g.C.Clock.moments c.args.clock.now) (g.E.Entropy.blocks c.args.entropy.now) c.args.dir.now (g.O.Sink.held c.args.out.now))
    (world (g.L.Door.callers c.loop-count.door) (g.G.Changes.batches c.loop-count.changes) (g.C.Clock.moments c.loop-count.clock) (g.E.Entropy.blocks c.loop-count.entropy) c.loop-count.dir (g.O.Sink.held c.loop-count.out))
    (world (g.L.Door.callers c.take_turn.new.door) (g.G.Changes.batches c.take_turn.new.changes) (g.C.Clock.moments c.take_turn.new.clock) (g.E.Entropy.blocks c.take_turn.new.entropy) c.take_turn.new.dir (g.O.Sink.held c.take_turn.new.out))
    c.loop-count.invariant.so_far (rw c.in-Ended.is at c.in_ok-take_turn.ensures.turn)

pub returns-in-Broken-clause-talk : goal.returns-in-Broken-clause-talk
returns-in-Broken-clause-talk g c =
    let n = c.loop-count.count in
    talk_ends n Broken (n) (Some FrameCut) c.done-in-Broken.result c.done-in-Broken.ensures (λ a b d. broken n a b d c.loop-count-test.true)
    (world (g.L.Door.callers c.args.door.now) (g.G.Changes.batches c.args.changes.now) (g.C.Clock.moments c.args.clock.now) (g.E.Entropy.blocks c.args.entropy.now) c.args.dir.now (g.O.Sink.held c.args.out.now))
    (world (g.L.Door.callers c.loop-count.door) (g.G.Changes.batches c.loop-count.changes) (g.C.Clock.moments c.loop-count.clock) (g.E.Entropy.blocks c.loop-count.entropy) c.loop-count.dir (g.O.Sink.held c.loop-count.out))
    (world (g.L.Door.callers c.take_turn.new.door) (g.G.Changes.batches c.take_turn.new.changes) (g.C.Clock.moments c.take_turn.new.clock) (g.E.Entropy.blocks c.take_turn.new.entropy) c.take_turn.new.dir (g.O.Sink.held c.take_turn.new.out))
    c.loop-count.invariant.so_far (rw c.in-Broken.is at c.in_ok-take_turn.ensures.turn)

pub returns-in-Failed-clause-talk : goal.returns-in-Failed-clause-talk
returns-in-Failed-clause-talk g c =
    let n = c.loop-count.count in
    talk_ends n Failed (n) (Some Fault) c.done-in-Failed.result c.done-in-Failed.ensures (λ a b d. failed n a b d c.loop-count-test.true)
    (world (g.L.Door.callers c.args.door.now) (g.G.Changes.batches c.args.changes.now) (g.C.Clock.moments c.args.clock.now) (g.E.Entropy.blocks c.args.entropy.now) c.args.dir.now (g.O.Sink.held c.args.out.now))
    (world (g.L.Door.callers c.loop-count.door) (g.G.Changes.batches c.loop-count.changes) (g.C.Clock.moments c.loop-count.clock) (g.E.Entropy.blocks c.loop-count.entropy) c.loop-count.dir (g.O.Sink.held c.loop-count.out))
    (world (g.L.Door.callers c.take_turn.new.door) (g.G.Changes.batches c.take_turn.new.changes) (g.C.Clock.moments c.take_turn.new.clock) (g.E.Entropy.blocks c.take_turn.new.entropy) c.take_turn.new.dir (g.O.Sink.held c.take_turn.new.out))
    c.loop-count.invariant.so_far (rw c.in-Failed.is at c.in_ok-take_turn.ensures.turn)

pub returns-in-AnsweredLong-clause-talk : goal.returns-in-AnsweredLong-clause-talk
returns-in-AnsweredLong-clause-talk g c =
    let n = c.loop-count.count in
    talk_ends n AnsweredLong (n + 1) (Some (leave_after_long (10000 - suc n))) c.done-in-AnsweredLong.result (long_talk n c.leave_after_long.result c.done-in-AnsweredLong.result c.done-in-AnsweredLong.ensures c.leave_after_long.ensures) (λ a b d. answered_long n a b d c.loop-count-test.true)
    (world (g.L.Door.callers c.args.door.now) (g.G.Changes.batches c.args.changes.now) (g.C.Clock.moments c.args.clock.now) (g.E.Entropy.blocks c.args.entropy.now) c.args.dir.now (g.O.Sink.held c.args.out.now))
    (world (g.L.Door.callers c.loop-count.door) (g.G.Changes.batches c.loop-count.changes) (g.C.Clock.moments c.loop-count.clock) (g.E.Entropy.blocks c.loop-count.entropy) c.loop-count.dir (g.O.Sink.held c.loop-count.out))
    (world (g.L.Door.callers c.take_turn.new.door) (g.G.Changes.batches c.take_turn.new.changes) (g.C.Clock.moments c.take_turn.new.clock) (g.E.Entropy.blocks c.take_turn.new.entropy) c.take_turn.new.dir (g.O.Sink.held c.take_turn.new.out))
    c.loop-count.invariant.so_far (rw c.in-AnsweredLong.is at c.in_ok-take_turn.ensures.turn)

pub returns-in-Unsent-clause-talk : goal.returns-in-Unsent-clause-talk
returns-in-Unsent-clause-talk g c =
    let n = c.loop-count.count in
    talk_ends n Unsent (n + 1) (Some Fault) c.done-in-Unsent.result c.done-in-Unsent.ensures (λ a b d. unsent n a b d c.loop-count-test.true)
    (world (g.L.Door.callers c.args.door.now) (g.G.Changes.batches c.args.changes.now) (g.C.Clock.moments c.args.clock.now) (g.E.Entropy.blocks c.args.entropy.now) c.args.dir.now (g.O.Sink.held c.args.out.now))
    (world (g.L.Door.callers c.loop-count.door) (g.G.Changes.batches c.loop-count.changes) (g.C.Clock.moments c.loop-count.clock) (g.E.Entropy.blocks c.loop-count.entropy) c.loop-count.dir (g.O.Sink.held c.loop-count.out))
    (world (g.L.Door.callers c.take_turn.new.door) (g.G.Changes.batches c.take_turn.new.changes) (g.C.Clock.moments c.take_turn.new.clock) (g.E.Entropy.blocks c.take_turn.new.entropy) c.take_turn.new.dir (g.O.Sink.held c.take_turn.new.out))
    c.loop-count.invariant.so_far (rw c.in-Unsent.is at c.in_ok-take_turn.ensures.turn)

pub returns-in_err-take_turn-clause-talk : goal.returns-in_err-take_turn-clause-talk
returns-in_err-take_turn-clause-talk g c =
    let p = err_from_is_err_and c.from_residual.result c.from_residual.ensures.1 in
    rw (p.1, p.2)
    (talk_breaks c.loop-count.count c.loop-count-test.true c.in_err-take_turn.field-0.0
    (world (g.L.Door.callers c.args.door.now) (g.G.Changes.batches c.args.changes.now) (g.C.Clock.moments c.args.clock.now) (g.E.Entropy.blocks c.args.entropy.now) c.args.dir.now (g.O.Sink.held c.args.out.now))
    (world (g.L.Door.callers c.loop-count.door) (g.G.Changes.batches c.loop-count.changes) (g.C.Clock.moments c.loop-count.clock) (g.E.Entropy.blocks c.loop-count.entropy) c.loop-count.dir (g.O.Sink.held c.loop-count.out))
    (world (g.L.Door.callers c.take_turn.new.door) (g.G.Changes.batches c.take_turn.new.changes) (g.C.Clock.moments c.take_turn.new.clock) (g.E.Entropy.blocks c.take_turn.new.entropy) c.take_turn.new.dir (g.O.Sink.held c.take_turn.new.out))
    c.loop-count.invariant.so_far c.in_err-take_turn.ensures.turn)

pub loop-count-preserved : goal.loop-count-preserved
loop-count-preserved g c = record {
  so_far = talk_goes_on c.loop-count.count
      (world (g.L.Door.callers c.args.door.now) (g.G.Changes.batches c.args.changes.now) (g.C.Clock.moments c.args.clock.now) (g.E.Entropy.blocks c.args.entropy.now) c.args.dir.now (g.O.Sink.held c.args.out.now))
      (world (g.L.Door.callers c.loop-count.door) (g.G.Changes.batches c.loop-count.changes) (g.C.Clock.moments c.loop-count.clock) (g.E.Entropy.blocks c.loop-count.entropy) c.loop-count.dir (g.O.Sink.held c.loop-count.out))
      (world (g.L.Door.callers c.take_turn.new.door) (g.G.Changes.batches c.take_turn.new.changes) (g.C.Clock.moments c.take_turn.new.clock) (g.E.Entropy.blocks c.take_turn.new.entropy) c.take_turn.new.dir (g.O.Sink.held c.take_turn.new.out))
      c.loop-count.invariant.so_far (rw c.in-Answered.is at c.in_ok-take_turn.ensures.turn);
  changes = c.in_ok-take_turn.ensures.changes ∙ c.loop-count.invariant.changes;
  entropy = c.in_ok-take_turn.ensures.entropy ∙ c.loop-count.invariant.entropy;
  out = c.in_ok-take_turn.ensures.out ∙ c.loop-count.invariant.out;
  accept = c.in_ok-take_turn.ensures.accept ∙ c.loop-count.invariant.accept;
}

pub returns-clause-talk : goal.returns-clause-talk
returns-clause-talk g c =
    talk_spent c.loop-count.count c.loop-count.auto.count-end c.loop-count-test.false c.done-2.result c.done-2.ensures
    (world (g.L.Door.callers c.args.door.now) (g.G.Changes.batches c.args.changes.now) (g.C.Clock.moments c.args.clock.now) (g.E.Entropy.blocks c.args.entropy.now) c.args.dir.now (g.O.Sink.held c.args.out.now))
    (world (g.L.Door.callers c.loop-count.door) (g.G.Changes.batches c.loop-count.changes) (g.C.Clock.moments c.loop-count.clock) (g.E.Entropy.blocks c.loop-count.entropy) c.loop-count.dir (g.O.Sink.held c.loop-count.out))
    c.loop-count.invariant.so_far
