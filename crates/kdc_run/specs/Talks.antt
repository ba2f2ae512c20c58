-- What serving a caller does: its requests are answered until its bytes end, or it is left.
use Rattle.std.specs.Prelude.{◌≡◌, ◌⊎◌, ℕ, ◌-◌, ◌<◌, ◌≤◌, Bool, true, false, not, nat_eq, List, [], ◌++◌, length, take, Option, Some, Result, Ok, Err}
use Rattle.std.specs.Io.KnownBytes.{Appends}
use Rattle.kdc_prelude.specs.Printed.{AppendsFront}
use Rattle.kb_base.specs.Callers.{CallerValue}
use Rattle.kdc_frames.specs.Exchanges.{Exchange, Inputs, exchanges, framed_replies, inputs_after}
use Rattle.kdc_frames.specs.Notes.{leave_note, notes}
use Rattle.kdc_frames.specs.Requests.{Taken, leave_of, reading_of, requests_of}
use Rattle.kdc_frames.specs.declared.leave.Leave.{Leave}
use Rattle.kdc_frames.specs.declared.leave.Leave.TheVariants.{FrameCut}
use Rattle.kdc_run.specs.Settled.{SoFar}
use Rattle.kdc_run.specs.Turns.{TurnBreaks}
use Rattle.kdc_run.specs.Worlds.{Stage}
use Rattle.kdc_run.specs.declared.caller.Talk.{Talk}
use Rattle.kdc_run.specs.declared.served.RunFault.{RunFault}

abbrev pub has_failed : CallerValue → Bool
has_failed caller = not (nat_eq caller.faults 0)

-- these bytes were taken of a caller
abbrev pub taken_so : List ℕ → CallerValue → Taken
taken_so bytes caller = record { bytes = bytes; failed = has_failed caller }

-- all framed replies were sent; to a caller that failed a front of them, of which all but the last reply are whole
abbrev pub SentReplies : Bool → List Exchange → List ℕ → List ℕ → Type 0
SentReplies false history old new = new ≡ old ++ framed_replies history
SentReplies true history old new =
    (n : ℕ) × (new ≡ old ++ take n (framed_replies history)) × (length (framed_replies (take (length history - 1) history)) ≤ n)

-- A caller of whose bytes these were taken: no byte past the frames that were answered and a part of one more, and all that is due
-- where it did not fail; and it was sent the replies to its requests, all of them whole where bytes were taken behind the last frame
pub record IsServed (inputs : Inputs) (bytes sent : List ℕ) (caller : CallerValue) : Type 0 where
  pub no_more : (reading_of bytes).rest ≡ []
  pub all : has_failed caller ≡ false → reading_of (bytes ++ caller.left) ≡ record (reading_of bytes) { rest = caller.left }
  pub replies : SentReplies (has_failed caller) (exchanges inputs (requests_of (taken_so bytes caller))) sent caller.sent
  pub whole : (reading_of bytes).leave ≡ Some FrameCut → SentReplies false (exchanges inputs (requests_of (taken_so bytes caller))) sent caller.sent

-- the requests of a caller were answered, with these notes
pub record IsTalk (requests : ℕ) (leave : Option Leave) (last : List ℕ) (old new : Stage) : Type 0 where
  pub bytes : List ℕ
  pub split : old.caller.left ≡ bytes ++ new.caller.left
  pub served : IsServed old.inputs bytes old.caller.sent new.caller
  pub count : requests ≡ length (requests_of (taken_so bytes new.caller))
  pub reason : leave ≡ leave_of (taken_so bytes new.caller)
  pub inputs : new.inputs ≡ inputs_after requests old.inputs
  pub held : Appends old.held new.held (notes old.inputs (requests_of (taken_so bytes new.caller)) ++ last)

-- the run ended at a turn, after so many requests of the caller were answered, fewer than its budget
pub record TalkBreaks (fault : RunFault) (old new : Stage) : Type 0 where
  pub requests : ℕ
  pub few : requests < 10000
  pub before : Stage
  pub settled : SoFar requests old before
  pub breaks : TurnBreaks fault before new

-- the run ended while the note was written that the caller is left: a front of it is out
pub record LeaveBreaks (old new : Stage) : Type 0 where
  pub leave : Option Leave
  pub requests : ℕ
  pub before : Stage
  pub talk : old.caller.faults ≡ 0 → IsTalk requests leave [] old before
  pub inputs : new.inputs ≡ before.inputs
  pub caller : new.caller ≡ before.caller
  pub held : AppendsFront before.held new.held (leave_note leave)

-- the requests of a caller that did not fail before were answered
abbrev pub TalksOver : Result Talk RunFault → Stage → Stage → Type 0
TalksOver (Ok talk) old new = old.caller.faults ≡ 0 → IsTalk talk.requests talk.leave [] old new
TalksOver (Err fault) old new = TalkBreaks fault old new

-- and the note was written that it is left
abbrev pub EndsTalk : Result ℕ RunFault → Stage → Stage → Type 0
EndsTalk (Ok requests) old new = old.caller.faults ≡ 0 → (leave : Option Leave) × IsTalk requests leave (leave_note leave) old new
EndsTalk (Err fault) old new = TalkBreaks fault old new ⊎ LeaveBreaks old new
