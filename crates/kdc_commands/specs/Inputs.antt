-- The input of a command: the bytes of the first caller, none where no caller comes.
use Rattle.std.specs.Prelude.{◌≡◌, ◌⊎◌, ℕ, ◌<◌, List, [], ◌∷◌, ◌++◌, map, Option, None, Some, option_map, Result}
use Rattle.kb_base.specs.Callers.{CallerValue, CallersValue, arrived, next_of}
use Rattle.kb_base.specs.Faults.{HasDeviceCause}
use Rattle.kb_base.specs.declared.fault.DeviceFault.{DeviceFault}
use Rattle.kb_base.specs.declared.whole.ReadEnd.{ReadEnd}

-- what is left of a caller, if there is one
abbrev pub left_of : Option CallerValue → List ℕ
left_of None = []
left_of (Some caller) = caller.left

-- what is left of the current caller, where the door tells of its callers
abbrev pub current_left : Option CallersValue → Option (List ℕ)
current_left callers = option_map (λ told. left_of told.current) callers

-- the bytes of the next caller, where the door tells of its callers
abbrev pub input_of : Option CallersValue → Option (List ℕ)
input_of callers = option_map (λ told. left_of (next_of told).current) callers

-- a caller was read and sent nothing; its own count rose where, and only where, reading failed
pub record Hears (result : Result ReadEnd DeviceFault) (old new : CallerValue) : Type 0 where
  pub sent : new.sent ≡ old.sent
  pub cause : HasDeviceCause old.faults new.faults result

-- what each caller that came was sent
abbrev pub sent_to : CallersValue → List (List ℕ)
sent_to callers = map (λ caller. caller.sent) (arrived callers)

-- no caller was sent anything; one more may have come
abbrev pub SendsNothing : Option CallersValue → Option CallersValue → Type 0
SendsNothing None new = Unit {0}
SendsNothing (Some old) None = ⊥
SendsNothing (Some old) (Some new) = (sent_to new ≡ sent_to old) ⊎ (sent_to new ≡ sent_to old ++ [] ∷ [])

-- a caller came, and a read or a write of it failed
pub record NewCallerFailed (old new : CallersValue) : Type 0 where
  pub caller : CallerValue
  pub came : arrived new ≡ arrived old ++ caller ∷ []
  pub failed : 0 < caller.faults

-- the own count of the caller that came rose, where the door tells of its callers
abbrev pub OwnCountRose : Option CallersValue → Option CallersValue → Type 0
OwnCountRose None new = Unit {0}
OwnCountRose (Some old) None = ⊥
OwnCountRose (Some old) (Some new) = NewCallerFailed old new

-- reading the input failed: the count of the callers' connections rose, and so did the caller's own where it is told
abbrev pub InputFailed : Option CallersValue → Option CallersValue → Type 0 → Type 0
InputFailed old new rose = rose × OwnCountRose old new
