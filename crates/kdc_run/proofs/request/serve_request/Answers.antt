use Rattle.std.specs.Prelude.{Err, Ok}
use Rattle.std.proofs.lemmas.Result.{err_from_is_err_and}
use Rattle.kdc_frames.specs.Requests.{request_bytes}
use Rattle.kdc_run.proofs.Requests.{answer_breaks, changes_break, reply_breaks, request_served, no_note}
use Rattle.kdc_run.specs.declared.served.RunFault.TheVariants.{NoMemory}
use Rattle.kdc_run.proofs.request.serve_request.Goals as goal

pub returns-in_err-take_changes-clause-served : goal.returns-in_err-take_changes-clause-served
returns-in_err-take_changes-clause-served g c =
    let p = err_from_is_err_and c.from_residual.result c.from_residual.ensures.1 in
    rw (p.1, p.2) (changes_break (g.L.Door.callers c.args.door.now) (g.G.Changes.batches c.args.changes.now) (g.G.Changes.batches c.take_changes.new.changes) (g.C.Clock.moments c.args.clock.now) (g.E.Entropy.blocks c.args.entropy.now) c.args.dir.now c.take_changes.new.dir (g.O.Sink.held c.args.out.now) (g.O.Sink.held c.take_changes.new.out) (request_bytes c.args.request.now) c.in_err-take_changes.field-0.0 c.in_err-take_changes.ensures.kind c.in_err-take_changes.ensures.err c.in_err-take_changes.ensures.next)

pub returns-in_err-answered-clause-served : goal.returns-in_err-answered-clause-served
returns-in_err-answered-clause-served g c =
    let p = err_from_is_err_and c.from_residual-in_err-answered.result c.from_residual-in_err-answered.ensures.1 in
    rw (p.1, p.2) (answer_breaks (g.L.Door.callers c.args.door.now) (g.G.Changes.batches c.args.changes.now) (g.G.Changes.batches c.take_changes.new.changes) (g.C.Clock.moments c.args.clock.now) (g.C.Clock.moments c.answer_next.new.clock) (g.E.Entropy.blocks c.args.entropy.now) (g.E.Entropy.blocks c.answer_next.new.entropy) c.args.dir.now c.take_changes.new.dir (g.O.Sink.held c.args.out.now) (g.O.Sink.held c.take_changes.new.out) (request_bytes c.args.request.now) c.in_err-answered.field-0.0 c.in_ok-take_changes.ensures.next c.in_err-answered.ensures.next)

pub returns-in_err-sent-clause-served : goal.returns-in_err-sent-clause-served
returns-in_err-sent-clause-served g c =
    let p = err_from_is_err_and c.from_residual-in_err-sent.result c.from_residual-in_err-sent.ensures.1 in
    let memory = c.in_err-sent.ensures.memory in
    let sent = rw c.as_slice.ensures at c.in_err-sent.ensures.sent in
    rw (p.1, p.2, memory) (reply_breaks (g.L.Door.callers c.args.door.now) (g.L.Door.callers c.send_reply.new.door) (g.G.Changes.batches c.args.changes.now) (g.G.Changes.batches c.take_changes.new.changes) (g.C.Clock.moments c.args.clock.now) (g.C.Clock.moments c.answer_next.new.clock) (g.E.Entropy.blocks c.args.entropy.now) (g.E.Entropy.blocks c.answer_next.new.entropy) c.args.dir.now c.take_changes.new.dir (g.O.Sink.held c.args.out.now) (g.O.Sink.held c.take_changes.new.out) (g.O.Sink.held c.take_changes.new.out) (request_bytes c.args.request.now) c.in_ok-answered.answered (Err NoMemory) NoMemory tt c.in_ok-take_changes.ensures.next c.in_ok-answered.ensures.next (rw memory at sent) (no_note (g.O.Sink.held c.take_changes.new.out) _))

pub returns-in_err-write_note-clause-served : goal.returns-in_err-write_note-clause-served
returns-in_err-write_note-clause-served g c =
    let p = err_from_is_err_and c.from_residual-in_err-write_note.result c.from_residual-in_err-write_note.ensures.1 in
    let sent = rw c.as_slice.ensures at c.in_ok-sent.ensures.sent in
    rw (p.1, p.2) (reply_breaks (g.L.Door.callers c.args.door.now) (g.L.Door.callers c.send_reply.new.door) (g.G.Changes.batches c.args.changes.now) (g.G.Changes.batches c.take_changes.new.changes) (g.C.Clock.moments c.args.clock.now) (g.C.Clock.moments c.answer_next.new.clock) (g.E.Entropy.blocks c.args.entropy.now) (g.E.Entropy.blocks c.answer_next.new.entropy) c.args.dir.now c.take_changes.new.dir (g.O.Sink.held c.args.out.now) (g.O.Sink.held c.take_changes.new.out) (g.O.Sink.held c.write_note.new.out) (request_bytes c.args.request.now) c.in_ok-answered.answered (Ok c.in_ok-sent.sent) c.in_err-write_note.field-0.0 c.in_err-write_note.ensures.kind c.in_ok-take_changes.ensures.next c.in_ok-answered.ensures.next sent c.in_err-write_note.ensures.err)

pub returns-clause-served : goal.returns-clause-served
returns-clause-served g c =
    let sent = rw c.as_slice.ensures at c.in_ok-sent.ensures.sent in
    request_served (g.L.Door.callers c.args.door.now) (g.L.Door.callers c.send_reply.new.door) (g.G.Changes.batches c.args.changes.now) (g.G.Changes.batches c.take_changes.new.changes) (g.C.Clock.moments c.args.clock.now) (g.C.Clock.moments c.answer_next.new.clock) (g.E.Entropy.blocks c.args.entropy.now) (g.E.Entropy.blocks c.answer_next.new.entropy) c.args.dir.now c.take_changes.new.dir (g.O.Sink.held c.args.out.now) (g.O.Sink.held c.take_changes.new.out) (g.O.Sink.held c.write_note.new.out) (request_bytes c.args.request.now) c.in_ok-answered.answered c.in_ok-sent.sent c.in_ok-take_changes.ensures.next c.in_ok-answered.ensures.next sent c.in_ok-write_note.ensures.ok
