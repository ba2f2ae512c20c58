-- Lemmas on what is read of a caller's bytes.
use Rattle.std.proofs.Common.{◌≡◌, ◌∙◌, ℕ, suc, zero, ◌+◌, List, [], ◌∷◌, ◌++◌, length, refl, sym, ap}
use Rattle.std.specs.Prelude.{Option, None, Some}
use Rattle.kdc_frames.specs.Frames.{Front, End, Cut, TooLong, Whole, front_of}
use Rattle.kdc_frames.specs.Requests.{Reading, long_request, leave_after_long, read_front, read_within, reading_of, stopped}
use Rattle.kdc_frames.proofs.FrameBytes.{front_end}
use Rattle.kdc_frames.specs.declared.leave.Leave.{Leave}
use Rattle.kdc_frames.specs.declared.leave.Leave.TheVariants.{Budget, FrameCut}

-- one turn of reading
pub read_turn : (more : ℕ) (bytes : List ℕ) (front : Front) → front_of bytes ≡ front → read_within (suc more) bytes ≡ read_front more (read_within more) front
unfolding read_within
read_turn more bytes front e = ap (read_front more (read_within more)) e

pub read_spent : (bytes : List ℕ) → read_within 0 bytes ≡ stopped (Some Budget) bytes
unfolding read_within
read_spent bytes = refl

pub reading_is : (bytes : List ℕ) → reading_of bytes ≡ read_within 10000 bytes
unfolding reading_of
reading_is bytes = refl

-- nothing is read of nothing
pub read_nothing : (more : ℕ) → (leave : Option Leave) × (read_within more [] ≡ stopped leave [])
read_nothing zero = (Some Budget, read_spent [])
read_nothing (suc more) = (None, read_turn more [] End front_end)
