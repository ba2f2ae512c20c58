-- What reading an input does to its caller.
use Rattle.std.proofs.Common.{◌≡◌, refl}
use Rattle.std.specs.Prelude.{Option}
use Rattle.kb_base.specs.Callers.{CallerValue, CallersValue}
use Rattle.kdc_frames.specs.Moves.{Moves}
use Rattle.kdc_frames.proofs.Doors.{moves_none}

-- a caller was sent nothing, and no call of it failed
abbrev pub Kept : CallerValue → CallerValue → Type 0
Kept old new = (new.sent ≡ old.sent) × (new.faults ≡ old.faults)

pub kept_none : (told : Option CallersValue) → Moves Kept told told
kept_none told = moves_none Kept (λ caller. (refl, refl)) told
