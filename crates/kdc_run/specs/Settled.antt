-- The requests of a caller that were answered so far.
use Rattle.std.specs.Prelude.{◌≡◌, ℕ, ◌+◌, List, ◌++◌, length}
use Rattle.std.specs.Io.KnownBytes.{Appends}
use Rattle.kdc_frames.specs.Exchanges.{exchanges, framed_replies, inputs_after}
use Rattle.kdc_frames.specs.Notes.{notes}
use Rattle.kdc_frames.specs.Requests.{Reading, read_within}
use Rattle.kdc_run.specs.Worlds.{Stage}

abbrev pub with_requests : List (List ℕ) → Reading → Reading
with_requests requests reading = record reading { requests = requests ++ reading.requests }

-- these requests were read and answered, as so many of those that are within the budget
pub record IsSoFar (n : ℕ) (old new : Stage) : Type 0 where
  pub requests : List (List ℕ)
  pub bytes : List ℕ
  pub split : old.caller.left ≡ bytes ++ new.caller.left
  pub count : length requests ≡ n
  pub reads : (more : ℕ) (rest : List ℕ) → read_within (n + more) (bytes ++ rest) ≡ with_requests requests (read_within more rest)
  pub sent : new.caller.sent ≡ old.caller.sent ++ framed_replies (exchanges old.inputs requests)
  pub faults : new.caller.faults ≡ 0
  pub inputs : new.inputs ≡ inputs_after n old.inputs
  pub held : Appends old.held new.held (notes old.inputs requests)

abbrev pub SoFar : ℕ → Stage → Stage → Type 0
SoFar n old new = old.caller.faults ≡ 0 → IsSoFar n old new
