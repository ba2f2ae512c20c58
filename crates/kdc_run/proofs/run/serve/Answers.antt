use Rattle.std.proofs.Common.{◌∙◌, refl, arith}
use Rattle.std.proofs.lemmas.Result.{err_from_is_err_and}
use Rattle.kdc_run.specs.Worlds.{world}
use Rattle.kdc_run.proofs.Runs.{few_more, run_begins, run_breaks, run_ends, run_goes_on, run_stops, run_without}
use Rattle.kdc_run.proofs.run.serve.Goals as goal

pub loop-count-init : goal.loop-count-init
loop-count-init g c = record {
  visited = run_begins (world (g.L.Door.callers c.args.door.now) (g.G.Changes.batches c.args.changes.now) (g.C.Clock.moments c.args.clock.now) (g.E.Entropy.blocks c.args.entropy.now) c.args.dir.now (g.O.Sink.held c.args.out.now));
  few = omega arith;
  changes = refl;
  entropy = refl;
  out = refl;
  accept = refl;
}

pub returns-then-not-branch-clause-run : goal.returns-then-not-branch-clause-run
returns-then-not-branch-clause-run g c =
    run_stops c.args.callers c.loop-count.count c.loop-count.requests c.loop-count.auto.count-end
    (world (g.L.Door.callers c.args.door.now) (g.G.Changes.batches c.args.changes.now) (g.C.Clock.moments c.args.clock.now) (g.E.Entropy.blocks c.args.entropy.now) c.args.dir.now (g.O.Sink.held c.args.out.now))
    (g.L.Door.callers c.loop-count.door) (g.L.Door.callers c.take_caller.new.door) (g.G.Changes.batches c.loop-count.changes) (g.C.Clock.moments c.loop-count.clock) (g.E.Entropy.blocks c.loop-count.entropy) c.loop-count.dir (g.O.Sink.held c.loop-count.out)
    c.loop-count.invariant.visited (rw c.if-not-branch.true at c.in_ok-take_caller.ensures.caller)

pub returns-in_err-take_caller-clause-run : goal.returns-in_err-take_caller-clause-run
returns-in_err-take_caller-clause-run g c =
    let p = err_from_is_err_and c.from_residual.result c.from_residual.ensures.1 in
    rw (p.1, p.2)
    (run_without c.args.callers c.loop-count.count c.loop-count.requests c.loop-count-test.true c.in_err-take_caller.field-0.0 c.in_err-take_caller.ensures.fault
    (world (g.L.Door.callers c.args.door.now) (g.G.Changes.batches c.args.changes.now) (g.C.Clock.moments c.args.clock.now) (g.E.Entropy.blocks c.args.entropy.now) c.args.dir.now (g.O.Sink.held c.args.out.now))
    (g.L.Door.callers c.loop-count.door) (g.L.Door.callers c.take_caller.new.door) (g.G.Changes.batches c.loop-count.changes) (g.C.Clock.moments c.loop-count.clock) (g.E.Entropy.blocks c.loop-count.entropy) c.loop-count.dir (g.O.Sink.held c.loop-count.out)
    c.loop-count.invariant.visited c.in_err-take_caller.ensures.caller)

pub returns-in_err-requests-clause-run : goal.returns-in_err-requests-clause-run
returns-in_err-requests-clause-run g c =
    let p = err_from_is_err_and c.from_residual-in_err-requests.result c.from_residual-in_err-requests.ensures.1 in
    rw (p.1, p.2)
    (run_breaks c.args.callers c.loop-count.count c.loop-count.requests c.loop-count-test.true c.in_err-requests.field-0.0
    (world (g.L.Door.callers c.args.door.now) (g.G.Changes.batches c.args.changes.now) (g.C.Clock.moments c.args.clock.now) (g.E.Entropy.blocks c.args.entropy.now) c.args.dir.now (g.O.Sink.held c.args.out.now))
    (world (g.L.Door.callers c.serve_caller.new.door) (g.G.Changes.batches c.serve_caller.new.changes) (g.C.Clock.moments c.serve_caller.new.clock) (g.E.Entropy.blocks c.serve_caller.new.entropy) c.serve_caller.new.dir (g.O.Sink.held c.serve_caller.new.out))
    (g.L.Door.callers c.loop-count.door) (g.L.Door.callers c.take_caller.new.door) (g.G.Changes.batches c.loop-count.changes) (g.C.Clock.moments c.loop-count.clock) (g.E.Entropy.blocks c.loop-count.entropy) c.loop-count.dir (g.O.Sink.held c.loop-count.out)
    c.loop-count.invariant.visited (rw c.if-not-branch.false at c.in_ok-take_caller.ensures.caller) c.in_err-requests.ensures.talk)

pub loop-count-preserved : goal.loop-count-preserved
loop-count-preserved g c = record {
  visited = run_goes_on c.loop-count.count c.loop-count.requests c.in_ok-requests.field-0
      (world (g.L.Door.callers c.args.door.now) (g.G.Changes.batches c.args.changes.now) (g.C.Clock.moments c.args.clock.now) (g.E.Entropy.blocks c.args.entropy.now) c.args.dir.now (g.O.Sink.held c.args.out.now))
      (world (g.L.Door.callers c.serve_caller.new.door) (g.G.Changes.batches c.serve_caller.new.changes) (g.C.Clock.moments c.serve_caller.new.clock) (g.E.Entropy.blocks c.serve_caller.new.entropy) c.serve_caller.new.dir (g.O.Sink.held c.serve_caller.new.out))
      (g.L.Door.callers c.loop-count.door) (g.L.Door.callers c.take_caller.new.door) (g.G.Changes.batches c.loop-count.changes) (g.C.Clock.moments c.loop-count.clock) (g.E.Entropy.blocks c.loop-count.entropy) c.loop-count.dir (g.O.Sink.held c.loop-count.out)
      c.loop-count.invariant.visited (rw c.if-not-branch.false at c.in_ok-take_caller.ensures.caller) c.in_ok-requests.ensures.talk;
  few = few_more c.loop-count.requests c.in_ok-requests.field-0 c.loop-count.count c.loop-count.invariant.few c.in_ok-requests.ensures.within;
  changes = c.in_ok-requests.ensures.changes ∙ c.loop-count.invariant.changes;
  entropy = c.in_ok-requests.ensures.entropy ∙ c.loop-count.invariant.entropy;
  out = c.in_ok-requests.ensures.out ∙ c.loop-count.invariant.out;
  accept = c.in_ok-requests.ensures.accept ∙ c.in_ok-take_caller.ensures.accept ∙ c.loop-count.invariant.accept;
}

pub returns-clause-run : goal.returns-clause-run
returns-clause-run g c =
    run_ends c.args.callers c.loop-count.count c.loop-count.requests c.loop-count.auto.count-end c.loop-count-test.false
    (world (g.L.Door.callers c.args.door.now) (g.G.Changes.batches c.args.changes.now) (g.C.Clock.moments c.args.clock.now) (g.E.Entropy.blocks c.args.entropy.now) c.args.dir.now (g.O.Sink.held c.args.out.now))
    (world (g.L.Door.callers c.loop-count.door) (g.G.Changes.batches c.loop-count.changes) (g.C.Clock.moments c.loop-count.clock) (g.E.Entropy.blocks c.loop-count.entropy) c.loop-count.dir (g.O.Sink.held c.loop-count.out))
    c.loop-count.invariant.visited
