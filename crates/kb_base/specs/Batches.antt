-- Batches of change lines, where a device tells them.
use Rattle.std.specs.Prelude.{◌≡◌, ℕ, List, [], ◌∷◌, Option, None, Some, Result, MatchResult}

abbrev pub first_batch : List (List ℕ) → List ℕ
first_batch [] = []
first_batch (batch ∷ rest) = batch

abbrev pub later_batches : List (List ℕ) → List (List ℕ)
later_batches [] = []
later_batches (batch ∷ rest) = rest

-- the first batch was given, an empty one where there is none, and the later ones are left; an error leaves all
abbrev pub GivesBatch : {E : Type 0} → Option (List (List ℕ)) → Option (List (List ℕ)) → Result (List ℕ) E → Type 0
GivesBatch None new result = Unit {0}
GivesBatch (Some old) None result = ⊥
GivesBatch (Some old) (Some new) result = MatchResult result (λ batch. (batch ≡ first_batch old) × (new ≡ later_batches old)) (λ _. new ≡ old)
