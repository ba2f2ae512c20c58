-- The requests of a caller: the frames of its bytes, at most 10,000 (own choice), and why it is left. How its bytes were cut into
-- pieces makes no difference.
use Rattle.std.specs.Prelude.{ℕ, zero, suc, Bool, List, [], ◌∷◌, Option, None, Some, replicate, nat_eq, if◌then◌else◌}
use Rattle.kdc_frames.specs.Frames.{Front, End, Cut, TooLong, Whole, front_of}
use Rattle.kdc_frames.specs.declared.frame.Request.{Request}
use Rattle.kdc_frames.specs.declared.frame.Request.TheVariants.{TooLong as too_long, Whole as whole}
use Rattle.kdc_frames.specs.declared.leave.Leave.{Leave}
use Rattle.kdc_frames.specs.declared.leave.Leave.TheVariants.{Budget, FrameCut, FrameTooLong, Fault}

-- what is read of a caller's bytes: its requests in their order, why it is left before its end, and the bytes that are not taken
pub record Reading : Type 0 where
  pub requests : List (List ℕ)
  pub leave : Option Leave
  pub rest : List ℕ

-- a frame that is too long counts as a request of one byte more than is read
unfoldable pub long_request : List ℕ
long_request = replicate 131073 0

-- a request as bytes
abbrev pub request_bytes : Request → List ℕ
request_bytes too_long = long_request
request_bytes (whole message) = message

-- what bytes begin with that begin with a request
abbrev pub front_with : Request → List ℕ → Front
front_with too_long rest = TooLong rest
front_with (whole message) rest = Whole message rest

-- nothing more is read
abbrev pub stopped : Option Leave → List ℕ → Reading
stopped leave rest = record { requests = []; leave = leave; rest = rest }

abbrev pub with_request : List ℕ → Reading → Reading
with_request request reading = record reading { requests = request ∷ reading.requests }

-- why a caller is left after a frame that is too long, where so many more requests were within the budget
abbrev pub leave_after_long : ℕ → Leave
leave_after_long more = if nat_eq more 0 then Budget else FrameTooLong

-- what is read from a front on, where so many requests are within the budget after its own
abbrev pub read_front : ℕ → (List ℕ → Reading) → Front → Reading
read_front more later End = stopped None []
read_front more later Cut = stopped (Some FrameCut) []
read_front more later (TooLong rest) = with_request long_request (stopped (Some (leave_after_long more)) rest)
read_front more later (Whole request rest) = with_request request (later rest)

-- what is read where so many requests are within the budget
unfoldable pub read_within : ℕ → List ℕ → Reading
read_within zero bytes = stopped (Some Budget) bytes
read_within (suc more) bytes = read_front more (read_within more) (front_of bytes)

-- what is read of a caller's bytes
unfoldable pub reading_of : List ℕ → Reading
reading_of bytes = read_within 10000 bytes

-- the bytes that were taken of a caller, and whether a read or a write of it failed
pub record Taken : Type 0 where
  pub bytes : List ℕ
  pub failed : Bool

-- the whole frames of what was taken of a caller
abbrev pub requests_of : Taken → List (List ℕ)
requests_of taken = (reading_of taken.bytes).requests

-- why a caller is left before its end: its fault, else what its bytes say
abbrev pub leave_of : Taken → Option Leave
leave_of taken = if taken.failed then Some Fault else (reading_of taken.bytes).leave
