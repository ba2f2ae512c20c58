-- Pieces of frames that are read of the current caller.
use Rattle.std.specs.Prelude.{◌≡◌, ℕ, ◌<◌, ◌≤◌, List, [], ◌++◌, length, take, Option, None, Some, Result, Ok, Err}
use Rattle.kdc_prelude.specs.Causes.{HasCause, Rose}
use Rattle.kb_base.specs.Callers.{CallerValue}
use Rattle.kb_base.specs.Faults.{HasDeviceCause, RisesBy}
use Rattle.kb_base.specs.declared.fault.DeviceFault.{DeviceFault}
use Rattle.kb_base.specs.declared.fault.Failed.{Failed}
use Rattle.kdc_frames.specs.Frames.{Cut, body_of, is_partial}
use Rattle.kdc_frames.specs.Requests.{front_with}
use Rattle.kdc_frames.specs.declared.frame.Frame.{Frame}
use Rattle.kdc_frames.specs.declared.frame.Frame.TheVariants.{End as at_end, Cut as cut, Next}
use Rattle.kdc_frames.specs.declared.frame.Request.{Request}
use Rattle.kdc_frames.specs.declared.frame.Request.TheVariants.{TooLong, Whole}

-- a read gave so many bytes
pub record Gives (count : ℕ) (buf : List ℕ) (old new : CallerValue) : Type 0 where
  pub bytes : old.left ≡ take count buf ++ new.left
  pub end : count ≡ 0 → 0 < length buf → new.left ≡ []
  pub sent : new.sent ≡ old.sent
  pub faults : new.faults ≡ old.faults

-- these bytes were read
pub record Loses (piece : List ℕ) (old new : CallerValue) : Type 0 where
  pub bytes : old.left ≡ piece ++ new.left
  pub sent : new.sent ≡ old.sent
  pub faults : new.faults ≡ old.faults

-- a read failed
pub record Lost (old new : CallerValue) : Type 0 where
  pub left_so : new.left ≡ old.left
  pub sent : new.sent ≡ old.sent
  pub later : old.faults ≤ new.faults
  pub faults : Rose old.faults new.faults

-- these bytes were sent
pub record Takes (piece : List ℕ) (old new : CallerValue) : Type 0 where
  pub sent : new.sent ≡ old.sent ++ piece
  pub left_so : new.left ≡ old.left
  pub faults : new.faults ≡ old.faults

-- a write gave nothing
pub record Fails (fault : DeviceFault) (old new : CallerValue) : Type 0 where
  pub sent : new.sent ≡ old.sent
  pub left_so : new.left ≡ old.left
  pub later : old.faults ≤ new.faults
  pub faults : RisesBy old.faults new.faults fault

-- the buffer was filled as far as there were bytes; at an `Err` less was taken than it has room for
abbrev pub Filled : List ℕ → List ℕ → List ℕ → Result ℕ Failed → Type 0
Filled buf old new (Ok count) = (old ≡ take count buf ++ new) × (count < length buf → new ≡ [])
Filled buf old new (Err fault) = (part : List ℕ) × (old ≡ part ++ new) × (length part < length buf)

pub record Fills (buf : List ℕ) (result : Result ℕ Failed) (old new : CallerValue) : Type 0 where
  pub bytes : Filled buf old.left new.left result
  pub sent : new.sent ≡ old.sent
  pub cause : HasCause old.faults new.faults result

-- what follows a head was read; at an `Err` less of it was taken than the head says
abbrev pub BodyRead : ℕ → List ℕ → List ℕ → Result Frame DeviceFault → Type 0
BodyRead said old new (Ok at_end) = ⊥
BodyRead said old new (Ok cut) = (body_of said old ≡ Cut) × (new ≡ [])
BodyRead said old new (Ok (Next request)) = body_of said old ≡ front_with request new
BodyRead said old new (Err fault) = (part : List ℕ) × (old ≡ part ++ new) × is_partial (body_of said part)

pub record ReadsBody (said : ℕ) (result : Result Frame DeviceFault) (old new : CallerValue) : Type 0 where
  pub bytes : BodyRead said old.left new.left result
  pub sent : new.sent ≡ old.sent
  pub cause : HasDeviceCause old.faults new.faults result

-- a message is not too long
abbrev pub IsShort : Request → Type 0
IsShort TooLong = Unit {0}
IsShort (Whole message) = length message ≤ 131072

abbrev pub IsWithin : Frame → Type 0
IsWithin at_end = Unit {0}
IsWithin cut = Unit {0}
IsWithin (Next request) = IsShort request
