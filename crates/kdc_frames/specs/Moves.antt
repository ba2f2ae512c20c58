-- What happens to the current caller of a door, where the door tells it, and nothing to the others.
use Rattle.std.specs.Prelude.{◌≡◌, ℕ, List, [], ◌++◌, take, Option, None, Some, Result, Ok, Err}
use Rattle.kb_base.specs.Callers.{CallerValue, CallersValue}
use Rattle.kb_base.specs.Faults.{HasDeviceCause}
use Rattle.kb_base.specs.declared.fault.DeviceFault.{DeviceFault}
use Rattle.kdc_frames.specs.Frames.{End, Cut, front_of, is_partial}
use Rattle.kdc_frames.specs.Requests.{front_with}
use Rattle.kdc_frames.specs.declared.frame.Frame.{Frame}
use Rattle.kdc_frames.specs.declared.frame.Frame.TheVariants.{End as at_end, Cut as cut, Next}

-- the caller became another one, and those before and after it stayed
abbrev pub CurrentMoves : (CallerValue → CallerValue → Type 0) → Option CallerValue → CallersValue → CallersValue → Type 0
CurrentMoves step None old new = Unit {0}
CurrentMoves step (Some caller) old new = (next : CallerValue) × (new ≡ record old { current = Some next }) × step caller next

abbrev pub Moves : (CallerValue → CallerValue → Type 0) → Option CallersValue → Option CallersValue → Type 0
Moves step None new = Unit {0}
Moves step (Some old) None = ⊥
Moves step (Some old) (Some new) = CurrentMoves step old.current old new

-- a frame was read: the bytes began with it, and what follows it is left; at an `Err` less than a frame was taken
abbrev pub FrameRead : List ℕ → List ℕ → Result Frame DeviceFault → Type 0
FrameRead old new (Ok at_end) = (front_of old ≡ End) × (new ≡ [])
FrameRead old new (Ok cut) = (front_of old ≡ Cut) × (new ≡ [])
FrameRead old new (Ok (Next request)) = front_of old ≡ front_with request new
FrameRead old new (Err fault) = (part : List ℕ) × (old ≡ part ++ new) × is_partial (front_of part)

pub record ReadsFrame (result : Result Frame DeviceFault) (old new : CallerValue) : Type 0 where
  pub bytes : FrameRead old.left new.left result
  pub sent : new.sent ≡ old.sent
  pub cause : HasDeviceCause old.faults new.faults result

-- a piece was sent whole; at an `Err` a front of it
abbrev pub Sent : List ℕ → List ℕ → List ℕ → Result (Unit {0}) DeviceFault → Type 0
Sent piece old new (Ok u) = new ≡ old ++ piece
Sent piece old new (Err fault) = (n : ℕ) × (new ≡ old ++ take n piece)

pub record SendsPiece (piece : List ℕ) (result : Result (Unit {0}) DeviceFault) (old new : CallerValue) : Type 0 where
  pub bytes : Sent piece old.sent new.sent result
  pub left : new.left ≡ old.left
  pub cause : HasDeviceCause old.faults new.faults result
