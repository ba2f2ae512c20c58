-- Callers that come one after the other, where a door tells them.
use Rattle.std.specs.Prelude.{◌≡◌, ℕ, Bool, List, [], ◌∷◌, ◌++◌, Option, None, Some, is_some, option_map, option_to_list, Result, Err, IfOk, MatchResult}
use Rattle.std.specs.Io.KnownBytes.{ReadConsumes, WriteAppends}
use Rattle.kdc_prelude.specs.Causes.{HasCause}
use Rattle.kb_base.specs.Counts.{one_more}
use Rattle.kb_base.specs.Faults.{HasDeviceCause}
use Rattle.kb_base.specs.declared.fault.DeviceFault.{DeviceFault}
use Rattle.kb_base.specs.declared.fault.DeviceFault.TheVariants.{Failed}

-- a caller: the bytes that are left of it, what it was sent, and how many reads and writes failed while it was the current one
pub record CallerValue : Type 0 where
  pub left : List ℕ
  pub sent : List ℕ
  pub faults : ℕ

-- those that were left, in their order, the current one, and the bytes of those that did not come yet
pub record CallersValue : Type 0 where
  pub gone : List CallerValue
  pub current : Option CallerValue
  pub waiting : List (List ℕ)

abbrev pub new_caller : List ℕ → CallerValue
new_caller bytes = record { left = bytes; sent = []; faults = 0 }

-- the first of those that wait is the current one; the others wait on
abbrev pub with_next : List CallerValue → List (List ℕ) → CallersValue
with_next gone [] = record { gone = gone; current = None; waiting = [] }
with_next gone (bytes ∷ waiting) = record { gone = gone; current = Some (new_caller bytes); waiting = waiting }

-- the current caller is left, and the next one, if there is one, is taken
abbrev pub next_of : CallersValue → CallersValue
next_of callers = with_next (callers.gone ++ option_to_list callers.current) callers.waiting

-- every caller that came, in their order
abbrev pub arrived : CallersValue → List CallerValue
arrived callers = callers.gone ++ option_to_list callers.current

-- a read or a write of this caller failed
abbrev pub failed_once : CallerValue → CallerValue
failed_once caller = record caller { faults = one_more caller.faults }

-- a read or a write failed: it is counted for the current caller, if there is one
abbrev pub failed_callers : CallersValue → CallersValue
failed_callers callers = record callers { current = option_map failed_once callers.current }

-- the next caller was taken, and it is told whether there is one; an error takes none
abbrev pub TakesCaller : {E : Type 0} → Option CallersValue → Option CallersValue → Result Bool E → Type 0
TakesCaller None new result = Unit {0}
TakesCaller (Some old) None result = ⊥
TakesCaller (Some old) (Some new) result = MatchResult result (λ more. (new ≡ next_of old) × (more ≡ is_some new.current)) (λ _. new ≡ old)

-- bytes of a caller were read, as of a source
pub record CallerReads {E : Type 0} (old new : CallerValue) (result : Result ℕ E) (buf : List ℕ) : Type 0 where
  pub bytes : ReadConsumes (Some old.left) (Some new.left) result buf
  pub sent : new.sent ≡ old.sent
  pub cause : HasCause old.faults new.faults result

-- a caller was sent bytes, as a sink
pub record CallerWrites (old new : CallerValue) (result : Result ℕ DeviceFault) (piece : List ℕ) : Type 0 where
  pub bytes : WriteAppends (Some old.sent) (Some new.sent) result piece
  pub left : new.left ≡ old.left
  pub cause : HasDeviceCause old.faults new.faults result

-- without a current caller a read is at its end
abbrev pub CurrentReads : {E : Type 0} → Option CallerValue → Option CallerValue → Result ℕ E → List ℕ → Type 0
CurrentReads None None result buf = IfOk result (λ count. count ≡ 0)
CurrentReads None (Some new) result buf = ⊥
CurrentReads (Some old) None result buf = ⊥
CurrentReads (Some old) (Some new) result buf = CallerReads old new result buf

-- without a current caller a write fails
abbrev pub CurrentWrites : Option CallerValue → Option CallerValue → Result ℕ DeviceFault → List ℕ → Type 0
CurrentWrites None None result piece = result ≡ Err Failed
CurrentWrites None (Some new) result piece = ⊥
CurrentWrites (Some old) None result piece = ⊥
CurrentWrites (Some old) (Some new) result piece = CallerWrites old new result piece

-- the current caller was read, and nothing else changed
abbrev pub ReadsCaller : {E : Type 0} → Option CallersValue → Option CallersValue → Result ℕ E → List ℕ → Type 0
ReadsCaller None new result buf = Unit {0}
ReadsCaller (Some old) None result buf = ⊥
ReadsCaller (Some old) (Some new) result buf = (new ≡ record old { current = new.current }) × CurrentReads old.current new.current result buf

-- the current caller was written to, and nothing else changed
abbrev pub WritesCaller : Option CallersValue → Option CallersValue → Result ℕ DeviceFault → List ℕ → Type 0
WritesCaller None new result piece = Unit {0}
WritesCaller (Some old) None result piece = ⊥
WritesCaller (Some old) (Some new) result piece = (new ≡ record old { current = new.current }) × CurrentWrites old.current new.current result piece
