-- What a turn with a caller does: a frame of it is read, and where it is whole or too long the request is answered.
use Rattle.std.specs.Prelude.{◌≡◌, ℕ, Bool, true, false, ◌⊎◌, List, [], ◌++◌, Result, Ok, Err}
use Rattle.kdc_prelude.specs.Causes.{Rose}
use Rattle.kb_base.specs.Callers.{CallerValue}
use Rattle.kdc_frames.specs.Exchanges.{answered}
use Rattle.kdc_frames.specs.Frames.{End, Cut, Front, TooLong, Whole, frame, front_of, is_partial}
use Rattle.kdc_frames.specs.Moves.{ReadsFrame}
use Rattle.kdc_frames.specs.Requests.{long_request, request_bytes}
use Rattle.kdc_frames.specs.declared.frame.Frame.TheVariants.{Next}
use Rattle.kdc_frames.specs.declared.frame.Request.{Request}
use Rattle.kdc_frames.specs.declared.frame.Request.TheVariants.{TooLong as too_long, Whole as whole}
use Rattle.kdc_run.specs.Requests.{Breaks, IsAnswered, SentSo}
use Rattle.kdc_run.specs.Worlds.{Stage}
use Rattle.kdc_run.specs.declared.served.RunFault.{RunFault}
use Rattle.kdc_run.specs.declared.served.RunFault.TheVariants.{NoMemory}
use Rattle.kdc_run.specs.declared.turn.Turn.{Turn}
use Rattle.kdc_run.specs.declared.turn.Turn.TheVariants.{Ended, Broken, Failed, Answered, AnsweredLong, Unsent}

-- so much of the caller was read, and nothing else happened
pub record IsRead (left : List ℕ) (old new : Stage) : Type 0 where
  pub left_so : new.caller.left ≡ left
  pub sent : new.caller.sent ≡ old.caller.sent
  pub faults : new.caller.faults ≡ old.caller.faults
  pub inputs : new.inputs ≡ old.inputs
  pub held : new.held ≡ old.held

-- a read failed, after less than a frame was taken
pub record IsLost (old new : Stage) : Type 0 where
  pub part : List ℕ
  pub taken : old.caller.left ≡ part ++ new.caller.left
  pub partial : is_partial (front_of part)
  pub sent : new.caller.sent ≡ old.caller.sent
  pub faults : Rose old.caller.faults new.caller.faults
  pub inputs : new.inputs ≡ old.inputs
  pub held : new.held ≡ old.held

-- a request stood in front and was answered, its reply sent whole or not
pub record IsServed (request : List ℕ) (front : Front) (sent_whole : Bool) (old new : Stage) : Type 0 where
  pub read : front_of old.caller.left ≡ front
  pub answer : IsAnswered request old new
  pub sent : SentSo (frame (answered old.inputs request).reply) (Ok sent_whole) old.caller new.caller

-- what a turn comes to that answers a request
abbrev pub turn_of : Request → Bool → Turn
turn_of (whole message) true = Answered
turn_of (whole message) false = Unsent
turn_of too_long true = AnsweredLong
turn_of too_long false = Unsent

-- memory was wanted while a frame was read, of which a part was taken
pub record IsUnread (old new : Stage) : Type 0 where
  pub part : List ℕ
  pub taken : old.caller.left ≡ part ++ new.caller.left
  pub partial : is_partial (front_of part)
  pub sent : new.caller.sent ≡ old.caller.sent
  pub faults : new.caller.faults ≡ old.caller.faults
  pub inputs : new.inputs ≡ old.inputs
  pub held : new.held ≡ old.held

-- the run ended at a request that was read
pub record BreaksOff (fault : RunFault) (old new : Stage) : Type 0 where
  pub request : Request
  pub next : CallerValue
  pub read : ReadsFrame (Ok (Next request)) old.caller next
  pub breaks : Breaks (request_bytes request) fault (record old { caller = next }) new

-- the run ended at a turn
abbrev pub TurnBreaks : RunFault → Stage → Stage → Type 0
TurnBreaks fault old new = ((fault ≡ NoMemory) × IsUnread old new) ⊎ BreaksOff fault old new

abbrev pub TakesTurn : Result Turn RunFault → Stage → Stage → Type 0
TakesTurn (Ok Ended) old new = (front_of old.caller.left ≡ End) × IsRead [] old new
TakesTurn (Ok Broken) old new = (front_of old.caller.left ≡ Cut) × IsRead [] old new
TakesTurn (Ok Failed) old new = IsLost old new
TakesTurn (Ok Answered) old new = (request : List ℕ) × IsServed request (Whole request new.caller.left) true old new
TakesTurn (Ok AnsweredLong) old new = IsServed long_request (TooLong new.caller.left) true old new
TakesTurn (Ok Unsent) old new =
    ((request : List ℕ) × IsServed request (Whole request new.caller.left) false old new) ⊎ IsServed long_request (TooLong new.caller.left) false old new
TakesTurn (Err fault) old new = TurnBreaks fault old new
