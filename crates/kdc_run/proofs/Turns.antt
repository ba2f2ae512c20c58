-- What a turn does, of what its parts do.
use Rattle.std.proofs.Common.{◌≡◌, ◌∙◌, ℕ, Bool, true, false, List, ◌++◌, take, inl, inr, refl, sym, ap}
use Rattle.std.specs.Prelude.{Ok, Err}
use Rattle.kb_base.specs.Callers.{CallerValue}
use Rattle.kb_base.specs.declared.fault.DeviceFault.TheVariants.{Failed as failed, NoMemory as no_memory}
use Rattle.kdc_frames.specs.Frames.{Whole as whole, TooLong as too_long}
use Rattle.kdc_frames.specs.Moves.{ReadsFrame}
use Rattle.kdc_frames.specs.Requests.{request_bytes}
use Rattle.kdc_frames.specs.declared.frame.Frame.TheVariants.{Cut, End, Next}
use Rattle.kdc_frames.specs.declared.frame.Request.{Request}
use Rattle.kdc_frames.specs.declared.frame.Request.TheVariants.{TooLong, Whole}
use Rattle.kdc_run.specs.Requests.{IsAnswered, SentSo, ServesRequest}
use Rattle.kdc_run.specs.Turns.{TakesTurn, turn_of}
use Rattle.kdc_run.specs.Worlds.{Stage}
use Rattle.kdc_run.specs.declared.served.RunFault.{RunFault}
use Rattle.kdc_run.specs.declared.served.RunFault.TheVariants.{NoMemory}
use Rattle.kdc_run.specs.declared.turn.Turn.TheVariants.{Broken, Ended, Failed}

pub turn_ended : (old : Stage) (next : CallerValue) → ReadsFrame (Ok End) old.caller next → TakesTurn (Ok Ended) old (record old { caller = next })
turn_ended old next p = (p.bytes.0, record { left_so = p.bytes.1; sent = p.sent; faults = p.cause.failed; inputs = refl; held = refl })

pub turn_broken : (old : Stage) (next : CallerValue) → ReadsFrame (Ok Cut) old.caller next → TakesTurn (Ok Broken) old (record old { caller = next })
turn_broken old next p = (p.bytes.0, record { left_so = p.bytes.1; sent = p.sent; faults = p.cause.failed; inputs = refl; held = refl })

pub turn_failed : (old : Stage) (next : CallerValue) → ReadsFrame (Err failed) old.caller next → TakesTurn (Ok Failed) old (record old { caller = next })
turn_failed old next p =
    record { part = p.bytes.0; taken = p.bytes.1; partial = p.bytes.2; sent = p.sent; faults = p.cause.failed; inputs = refl; held = refl }

answered_so : (request : List ℕ) (old : Stage) (next : CallerValue) (new : Stage) → IsAnswered request (record old { caller = next }) new → IsAnswered request old new
answered_so request old next new h = record { inputs = h.inputs; held = h.held }

sent_so : (piece : List ℕ) (whole : Bool) (old next new : CallerValue) → next.sent ≡ old.sent → next.faults ≡ old.faults → SentSo piece (Ok whole) next new → SentSo piece (Ok whole) old new
sent_so piece true old next new e f h = (h.0 ∙ ap (λ sent. sent ++ piece) e, h.1 ∙ f)
sent_so piece false old next new e f h = ((h.0.0, h.0.1 ∙ ap (λ sent. sent ++ take h.0.0 piece) e), rw f at h.1)

pub turn_served : (request : Request) (sent : Bool) (old : Stage) (next : CallerValue) (new : Stage) → ReadsFrame (Ok (Next request)) old.caller next
    → ServesRequest (request_bytes request) (Ok sent) (record old { caller = next }) new → TakesTurn (Ok (turn_of request sent)) old new
turn_served (Whole message) true old next new p q =
    (message, record { read = p.bytes ∙ ap (whole message) (sym q.1.left); answer = answered_so message old next new q.0; sent = sent_so _ true old.caller next new.caller p.sent p.cause.failed q.1.sent })
turn_served (Whole message) false old next new p q =
    inl (message, record { read = p.bytes ∙ ap (whole message) (sym q.1.left); answer = answered_so message old next new q.0; sent = sent_so _ false old.caller next new.caller p.sent p.cause.failed q.1.sent })
turn_served TooLong true old next new p q =
    record { read = p.bytes ∙ ap too_long (sym q.1.left); answer = answered_so _ old next new q.0; sent = sent_so _ true old.caller next new.caller p.sent p.cause.failed q.1.sent }
turn_served TooLong false old next new p q =
    inr (record { read = p.bytes ∙ ap too_long (sym q.1.left); answer = answered_so _ old next new q.0; sent = sent_so _ false old.caller next new.caller p.sent p.cause.failed q.1.sent })

pub turn_unread : (old : Stage) (next : CallerValue) → ReadsFrame (Err no_memory) old.caller next → TakesTurn (Err NoMemory) old (record old { caller = next })
turn_unread old next p =
    inl (refl, record { part = p.bytes.0; taken = p.bytes.1; partial = p.bytes.2; sent = p.sent; faults = p.cause.failed; inputs = refl; held = refl })

pub turn_breaks : (request : Request) (fault : RunFault) (old : Stage) (next : CallerValue) (new : Stage) → ReadsFrame (Ok (Next request)) old.caller next
    → ServesRequest (request_bytes request) (Err fault) (record old { caller = next }) new → TakesTurn (Err fault) old new
turn_breaks request fault old next new p q = inr (record { request = request; next = next; read = p; breaks = q })
