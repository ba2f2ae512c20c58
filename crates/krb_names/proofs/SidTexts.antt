-- Lemmas on security identifiers as texts.
use Rattle.std.proofs.Common.{◌≡◌, ◌<◌, ◌≤◌, ◌+◌, ◌-◌, ◌^◌, ℕ, Bool, true, false, ◌&&◌, eqb, leb, List, [], ◌∷◌, ◌++◌, length, get_or, set, take, drop, append_assoc, append-nil, refl, arith, ap, sym, ◌∙◌, lit<, Bor}
use Rattle.std.specs.Prelude.{Option, None, Some, MatchOption, if◌then◌else◌}
use Rattle.std.proofs.lemmas.Bool.Decides.{nat_tests}
use Rattle.std.proofs.lemmas.Str.Pattern.{IsSplitOnceResult, split_parts}
use Rattle.std.proofs.lemmas.List.{drop_more, take_more_set, at_drop_all, length-set}
use Rattle.std.proofs.lemmas.List.Elements.{All-from_get_or}
use Rattle.std.proofs.lemmas.List.Splits.{slice_split_none, slice_split_at}
use Rattle.kdc_prelude.specs.Steps.{with_front, ◌>>=◌}
use Rattle.krb_names.specs.Decimals.{decimal_reading}
use Rattle.krb_names.specs.SidTexts.{numbers_of, sub_authorities_of, hyphen_pieces}

abbrev pub hyphen : ℕ → Bool
hyphen b = eqb b 45

no_hyphens : (text : List ℕ) → ((i : ℕ) → i < length text → get_or text i 0 ≡ 45 → ⊥) → (i : ℕ) → i < length text → eqb (get_or text i 0) 45 ≡ false
no_hyphens text h i l = grind (arith, nat_tests, h i l)

-- what `split_once` gives of the pieces
pub first_piece : (text : List ℕ) (r : Option (Bor (List ℕ) × Bor (List ℕ))) → IsSplitOnceResult 45 text r
    → MatchOption r (hyphen_pieces text ≡ text ∷ []) (λ parts. hyphen_pieces text ≡ parts.0.now ∷ hyphen_pieces parts.1.now)
first_piece text r h = by_cases r (split_parts 45 text r h (lit< tt))
  where
    by_cases : (r : Option (Bor (List ℕ) × Bor (List ℕ))) → MatchOption r ((i : ℕ) → i < length text → get_or text i 0 ≡ 45 → ⊥) (λ x. (text ≡ x.0.now ++ (45 ∷ x.1.now)) × ((i : ℕ) → i < length x.0.now → get_or x.0.now i 0 ≡ 45 → ⊥))
        → MatchOption r (hyphen_pieces text ≡ text ∷ []) (λ parts. hyphen_pieces text ≡ parts.0.now ∷ hyphen_pieces parts.1.now)
    by_cases None h = slice_split_none (λ b. eqb b 45) text (All-from_get_or (λ b. eqb b 45 ≡ false) text 0 (no_hyphens text h))
    by_cases (Some x) h = ap hyphen_pieces h.0 ∙ slice_split_at (λ b. eqb b 45) x.0.now 45 x.1.now (All-from_get_or (λ b. eqb b 45 ≡ false) x.0.now 0 (no_hyphens x.0.now h.1)) refl

with_front-append : (a b : List ℕ) (o : Option (List ℕ)) → with_front (a ++ b) o ≡ with_front a (with_front b o)
with_front-append a b None = refl
with_front-append a b (Some rest) = ap Some (append_assoc a b rest)

pub too_many : (pieces : List (List ℕ)) → 15 < length pieces → None ≡ sub_authorities_of pieces
too_many pieces h = grind (arith, nat_tests)

-- where the numbers read so far stand in front of what the others give
pub record HasRead (pieces : List (List ℕ)) (count : ℕ) (numbers : List ℕ) : Type 0 where
  pub few : count ≤ 15
  pub size : length numbers ≡ 15
  pub so_far : with_front (take count numbers) (numbers_of (drop count pieces)) ≡ numbers_of pieces

none_either : (b : Bool) (o : Option (List ℕ)) → None ≡ o → None ≡ (if b then o else None)
none_either true o h = h
none_either false o h = refl

abbrev read_piece : Option ℕ → Option (List ℕ) → Option (List ℕ)
read_piece number rest = number >>= λ n. with_front (n ∷ []) rest

-- the piece at the place that was reached, and those after it
next_piece : (pieces : List (List ℕ)) (count : ℕ) (numbers piece : List ℕ) → HasRead pieces count numbers → count < length pieces → piece ≡ get_or pieces count piece → with_front (take count numbers) (read_piece (decimal_reading (2 ^ 32 - 1) piece) (numbers_of (drop (count + 1) pieces))) ≡ numbers_of pieces
next_piece pieces count numbers piece h l is =
    let here : drop count pieces ≡ piece ∷ drop (count + 1) pieces = drop_more pieces count piece l ∙ ap (λ x. x ∷ drop (count + 1) pieces) (sym is) in
    sym (ap (λ rest. with_front (take count numbers) (numbers_of rest)) here) ∙ h.so_far

pub bad_number : (pieces : List (List ℕ)) (count : ℕ) (numbers piece : List ℕ) → HasRead pieces count numbers → count < length pieces → piece ≡ get_or pieces count piece → None ≡ decimal_reading (2 ^ 32 - 1) piece → None ≡ sub_authorities_of pieces
bad_number pieces count numbers piece h l is bad =
    let none : None ≡ numbers_of pieces = ap (λ number. with_front (take count numbers) (read_piece number (numbers_of (drop (count + 1) pieces)))) bad ∙ next_piece pieces count numbers piece h l is in
    none_either (leb 1 (length pieces) && leb (length pieces) 15) (numbers_of pieces) none

pub good_number : (pieces : List (List ℕ)) (count : ℕ) (numbers piece : List ℕ) (number : ℕ) → HasRead pieces count numbers → count < length pieces → count < 15 → piece ≡ get_or pieces count piece → Some number ≡ decimal_reading (2 ^ 32 - 1) piece → HasRead pieces (count + 1) (set numbers count number)
good_number pieces count numbers piece number h l few is good = record {
  few = omega arith;
  size = length-set numbers count number ∙ h.size;
  so_far =
      let rest = numbers_of (drop (count + 1) pieces) in
      let taken : take (count + 1) (set numbers count number) ≡ take count numbers ++ number ∷ [] = take_more_set numbers count number (omega (arith, h.size)) in
      ap (λ front. with_front front rest) taken ∙ with_front-append (take count numbers) (number ∷ []) rest
      ∙ ap (λ read. with_front (take count numbers) (read_piece read rest)) good ∙ next_piece pieces count numbers piece h l is;
}

pub all_read : (pieces : List (List ℕ)) (count : ℕ) (numbers : List ℕ) → HasRead pieces count numbers → count ≡ length pieces → 1 ≤ count → Some (take count numbers) ≡ sub_authorities_of pieces
all_read pieces count numbers h is some =
    let done : Some (take count numbers) ≡ numbers_of pieces =
    ap Some (sym (append-nil (take count numbers))) ∙ sym (at_drop_all (λ rest. with_front (take count numbers) (numbers_of rest)) pieces count (omega arith)) ∙ h.so_far in
    by_test (leb 1 (length pieces) && leb (length pieces) 15) (grind (arith, nat_tests, h.few)) done
  where
    by_test : (b : Bool) → b ≡ true → Some (take count numbers) ≡ numbers_of pieces → Some (take count numbers) ≡ (if b then numbers_of pieces else None)
    by_test true e h = h
    by_test false e h = absurd (cc)
