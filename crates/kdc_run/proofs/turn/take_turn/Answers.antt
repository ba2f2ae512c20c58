use Rattle.std.specs.Prelude.{Err, Ok}
use Rattle.std.proofs.lemmas.Result.{err_from_is_err_and}
use Rattle.kdc_frames.specs.Moves.{ReadsFrame}
use Rattle.kdc_frames.specs.Requests.{request_bytes}
use Rattle.kdc_frames.specs.declared.frame.Frame.TheVariants.{Next}
use Rattle.kdc_run.specs.Requests.{ServesRequest}
use Rattle.kdc_run.specs.Turns.{TakesTurn, turn_of}
use Rattle.kdc_run.specs.Worlds.{world}
use Rattle.kdc_run.proofs.Known.{talks_after}
use Rattle.kdc_run.proofs.Turns.{turn_breaks, turn_served}
use Rattle.kdc_run.proofs.turn.take_turn.Goals as goal

pub returns-in_ok-sent-in-Ok-Next-clause-turn : goal.returns-in_ok-sent-in-Ok-Next-clause-turn
returns-in_ok-sent-in-Ok-Next-clause-turn g c =
    let request = c.in-Ok-Next.request in
    let sent = c.in_ok-sent-in-Ok-Next.sent in
    rw c.turn_of.ensures
    (talks_after (ReadsFrame (Ok (Next request))) (ServesRequest (request_bytes request) (Ok sent)) (TakesTurn (Ok (turn_of request sent))) (turn_served request sent)
    (g.L.Door.callers c.args.door.now) (g.L.Door.callers c.read_frame.new.door) (g.G.Changes.batches c.args.changes.now) (g.C.Clock.moments c.args.clock.now) (g.E.Entropy.blocks c.args.entropy.now) c.args.dir.now (g.O.Sink.held c.args.out.now)
    (world (g.L.Door.callers c.serve_request.new.door) (g.G.Changes.batches c.serve_request.new.changes) (g.C.Clock.moments c.serve_request.new.clock) (g.E.Entropy.blocks c.serve_request.new.entropy) c.serve_request.new.dir (g.O.Sink.held c.serve_request.new.out))
    (rw c.in-Ok-Next.field-0-is at c.in-Ok-Next.ensures.frame) c.in_ok-sent-in-Ok-Next.ensures.served)

pub returns-in_err-sent-in-Ok-Next-clause-turn : goal.returns-in_err-sent-in-Ok-Next-clause-turn
returns-in_err-sent-in-Ok-Next-clause-turn g c =
    let p = err_from_is_err_and c.from_residual.result c.from_residual.ensures.1 in
    let request = c.in-Ok-Next.request in
    let fault = c.in_err-sent-in-Ok-Next.field-0.0 in
    rw (p.1, p.2)
    (talks_after (ReadsFrame (Ok (Next request))) (ServesRequest (request_bytes request) (Err fault)) (TakesTurn (Err fault)) (turn_breaks request fault)
    (g.L.Door.callers c.args.door.now) (g.L.Door.callers c.read_frame.new.door) (g.G.Changes.batches c.args.changes.now) (g.C.Clock.moments c.args.clock.now) (g.E.Entropy.blocks c.args.entropy.now) c.args.dir.now (g.O.Sink.held c.args.out.now)
    (world (g.L.Door.callers c.serve_request.new.door) (g.G.Changes.batches c.serve_request.new.changes) (g.C.Clock.moments c.serve_request.new.clock) (g.E.Entropy.blocks c.serve_request.new.entropy) c.serve_request.new.dir (g.O.Sink.held c.serve_request.new.out))
    (rw c.in-Ok-Next.field-0-is at c.in-Ok-Next.ensures.frame) c.in_err-sent-in-Ok-Next.ensures.served)
