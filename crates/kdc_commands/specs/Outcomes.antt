-- A status and what is printed.
use Rattle.std.specs.Prelude.{ℕ, ◌==◌, ◌||◌, Bool, List, [], ◌∷◌, ◌++◌}

pub record Outcome : Type 0 where
  pub status : ℕ
  pub text : List ℕ

-- a status and one line
abbrev pub one_line : ℕ → List ℕ → Outcome
one_line status line = record { status = status; text = line ++ 10 ∷ [] }

-- all is done, and this is printed
abbrev pub answered : List ℕ → Outcome
answered text = record { status = 0; text = text }

-- want of memory, and a fault of reading, of writing or of accepting
abbrev pub is_fault : ℕ → Bool
is_fault status = status == 3 || status == 5 || status == 6 || status == 9
