-- Texts that are compared byte for byte.
use Rattle.std.proofs.Common.{◌≡◌, ℕ, ◌<◌, Bool, true, false, List, [], ◌∷◌, length, get_or, Decides, refl, sym, ap, ◌∙◌, arith}
use Rattle.std.specs.Prelude.{nat_eq}
use Rattle.std.proofs.lemmas.Bool.{eq-eqb, eqb-true}
use Rattle.std.proofs.lemmas.List.{ext_get_or}
use Rattle.kdc_prelude.specs.Texts.{same_text}
use Rattle.kdc_prelude.proofs.Bools.{both}

pub text_itself : (a : List ℕ) → same_text a a ≡ true
text_itself [] = refl
text_itself (x ∷ a) = rw (eq-eqb x x refl) (text_itself a)

text_true : (a b : List ℕ) → same_text a b ≡ true → a ≡ b
text_true [] [] h = refl
text_true [] (y ∷ b) h = absurd cc
text_true (x ∷ a) [] h = absurd cc
text_true (x ∷ a) (y ∷ b) h =
    let parts = both (nat_eq x y) (same_text a b) h in
    let head : x ≡ y = eqb-true x y parts.0 in
    let tail : a ≡ b = text_true a b parts.1 in
    cc

text_false : (a b : List ℕ) → (a ≡ b → ⊥) → same_text a b ≡ false
text_false a b h = by_test (same_text a b) refl
  where
    by_test : (t : Bool) → same_text a b ≡ t → same_text a b ≡ false
    by_test true e = absurd (h (text_true a b e))
    by_test false e = e

pub other_length : (a b : List ℕ) → (length a ≡ length b → ⊥) → false ≡ same_text a b
other_length a b h = sym (text_false a b (λ e. h (ap length e)))

pub same_by_index : (t : Bool) (a b : List ℕ) (n : ℕ) → length a ≡ n → length b ≡ n → Decides t ((i : ℕ) → i < n → get_or a i 0 ≡ get_or b i 0) → t ≡ same_text a b
same_by_index true a b n la lb d =
    let same : a ≡ b = ext_get_or 0 a b (la ∙ sym lb) (λ i lt. d.0 refl i (omega arith)) in
    sym (text_itself a) ∙ ap (same_text a) same
same_by_index false a b n la lb d = sym (text_false a b (λ e. let t = d.1 (λ i lt. ap (λ (l : List ℕ). get_or l i 0) e) in absurd cc))
