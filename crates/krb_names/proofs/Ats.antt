-- Lemmas on texts that are cut at their last `@`.
use Rattle.std.proofs.Common.{◌≡◌, ◌≢◌, ◌<◌, ℕ, suc, List, [], ◌∷◌, ◌++◌, length, get_or, refl, arith}
use Rattle.std.specs.Prelude.{None, Some}
use Rattle.krb_names.specs.Principals.{cut_at, round_last_at}

-- no `@` stands in the text
pub record IsFree (text : List ℕ) : Type 0 where
  pub at : (i : ℕ) → i < length text → get_or text i 0 ≢ 64

cut_none : (b : ℕ) (rest : List ℕ) → b ≢ 64 → cut_at b rest None ≡ None
cut_none b rest h = grind arith

pub round_none : (text : List ℕ) → IsFree text → round_last_at text ≡ None
round_none [] h = refl
round_none (b ∷ rest) h =
    rw (round_none rest (record { at = λ i l. h.at (suc i) (omega arith) })) (cut_none b rest (h.at 0 (omega arith)))

pub round_at : (front back : List ℕ) → IsFree back → round_last_at (front ++ (64 ∷ back)) ≡ Some (front, back)
round_at [] back h = rw (round_none back h)
round_at (b ∷ front) back h = rw (round_at front back h)
