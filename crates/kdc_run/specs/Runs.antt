-- What a run does with its callers, one after the other.
use Rattle.std.specs.Prelude.{◌≡◌, ◌⊎◌, ℕ, ◌<◌, ◌≤◌, Bool, true, List, [], ◌∷◌, ◌++◌, length, map, None, Some, Result, Ok, Err}
use Rattle.std.specs.Io.KnownBytes.{Appends}
use Rattle.kb_base.specs.Callers.{CallerValue, TakesCaller, arrived}
use Rattle.kdc_frames.specs.Exchanges.{Inputs, all_requests, inputs_after}
use Rattle.kdc_frames.specs.Notes.{run_notes}
use Rattle.kdc_frames.specs.Requests.{Taken, requests_of}
use Rattle.kdc_run.specs.Talks.{EndsTalk, IsServed, taken_so}
use Rattle.kdc_run.specs.Worlds.{Talks, World}
use Rattle.kdc_run.specs.declared.served.RunFault.{RunFault}
use Rattle.kdc_run.specs.declared.served.RunFault.TheVariants.{Door}
use Rattle.kdc_run.specs.declared.served.Served.{Served}

-- a caller that came in the run: the bytes that were taken of it, and what became of it
pub record Visit : Type 0 where
  pub bytes : List ℕ
  pub caller : CallerValue

abbrev pub taken_of : Visit → Taken
taken_of visit = taken_so visit.bytes visit.caller

-- what was taken of each caller
abbrev pub taken : List Visit → List Taken
taken visits = map taken_of visits

-- each was served, one after the other
abbrev pub AreServed : Inputs → List Visit → Type 0
AreServed inputs [] = Unit {0}
AreServed inputs (visit ∷ visits) =
    IsServed inputs visit.bytes [] visit.caller × AreServed (inputs_after (length (requests_of (taken_of visit))) inputs) visits

-- the callers came in their order and were served, so many requests were answered, and their notes are written
pub record AreVisited (requests : ℕ) (old new : World) : Type 0 where
  pub visits : List Visit
  pub came : arrived new.callers ≡ arrived old.callers ++ map (λ visit. visit.caller) visits
  pub split : old.callers.waiting ≡ map (λ visit. visit.bytes ++ visit.caller.left) visits ++ new.callers.waiting
  pub served : AreServed old.inputs visits
  pub count : requests ≡ length (all_requests (taken visits))
  pub inputs : new.inputs ≡ inputs_after requests old.inputs
  pub notes : Appends old.held new.held (run_notes old.inputs (taken visits))

-- so many callers were served and none more, or all that came
pub record IsRun (callers : ℕ) (served : Served) (old new : World) : Type 0 where
  pub visited : AreVisited served.requests old new
  pub number : length visited.visits ≡ served.callers
  pub within : served.callers ≤ callers
  pub all : (served.callers ≡ callers) ⊎ ((new.callers.current ≡ None) × (new.callers.waiting ≡ []))

-- the next caller was taken, or there is none, and nothing else happened
abbrev pub Comes : Bool → World → World → Type 0
Comes more old new = TakesCaller {E = RunFault} (Some old.callers) (Some new.callers) (Ok more) × (new.inputs ≡ old.inputs) × (new.held ≡ old.held)

-- the run ended with a caller that came
pub record CallerBreaks (fault : RunFault) (old new : World) : Type 0 where
  pub next : World
  pub comes : Comes true old next
  pub breaks : Talks (EndsTalk (Err fault)) next new

-- the run ended after callers were served, fewer than were asked for: no caller could be taken in, or with one that came
pub record RunBreaks (callers : ℕ) (fault : RunFault) (old new : World) : Type 0 where
  pub requests : ℕ
  pub before : World
  pub visited : AreVisited requests old before
  pub few : length visited.visits < callers
  pub breaks : ((fault ≡ Door) × (new ≡ before)) ⊎ CallerBreaks fault before new

abbrev pub RunsOver : ℕ → Result Served RunFault → World → World → Type 0
RunsOver callers (Ok served) old new = IsRun callers served old new
RunsOver callers (Err fault) old new = RunBreaks callers fault old new
