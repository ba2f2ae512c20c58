use Rattle.std.proofs.lemmas.Result.{err_from_is_err_and}
use Rattle.kdc_run.specs.Worlds.{world}
use Rattle.kdc_run.proofs.Talking.{talk_noted, talk_unnoted}
use Rattle.kdc_run.proofs.caller.serve_caller.Goals as goal

pub returns-clause-talk : goal.returns-clause-talk
returns-clause-talk g c =
    talk_noted c.in_ok-talk.talk (g.O.Sink.held c.serve_requests.new.out) (g.O.Sink.held c.write_leave.new.out) c.in_ok-write_leave.ensures.ok
    (world (g.L.Door.callers c.args.door.now) (g.G.Changes.batches c.args.changes.now) (g.C.Clock.moments c.args.clock.now) (g.E.Entropy.blocks c.args.entropy.now) c.args.dir.now (g.O.Sink.held c.args.out.now))
    (g.L.Door.callers c.serve_requests.new.door) (g.G.Changes.batches c.serve_requests.new.changes) (g.C.Clock.moments c.serve_requests.new.clock) (g.E.Entropy.blocks c.serve_requests.new.entropy) c.serve_requests.new.dir
    c.in_ok-talk.ensures.talk

pub returns-in_err-write_leave-clause-talk : goal.returns-in_err-write_leave-clause-talk
returns-in_err-write_leave-clause-talk g c =
    let p = err_from_is_err_and c.from_residual-in_err-write_leave.result c.from_residual-in_err-write_leave.ensures.1 in
    rw (p.1, p.2)
    (talk_unnoted c.in_ok-talk.talk c.in_err-write_leave.field-0.0 (g.O.Sink.held c.serve_requests.new.out) (g.O.Sink.held c.write_leave.new.out) c.in_err-write_leave.ensures.err
    (world (g.L.Door.callers c.args.door.now) (g.G.Changes.batches c.args.changes.now) (g.C.Clock.moments c.args.clock.now) (g.E.Entropy.blocks c.args.entropy.now) c.args.dir.now (g.O.Sink.held c.args.out.now))
    (g.L.Door.callers c.serve_requests.new.door) (g.G.Changes.batches c.serve_requests.new.changes) (g.C.Clock.moments c.serve_requests.new.clock) (g.E.Entropy.blocks c.serve_requests.new.entropy) c.serve_requests.new.dir
    c.in_ok-talk.ensures.talk)
