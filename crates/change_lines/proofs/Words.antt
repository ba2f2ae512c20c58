-- What stands between spaces of a text is text.
use Rattle.std.proofs.Common.{◌≡◌, ℕ, suc, zero, ◌+◌, ◌<◌, ◌≤◌, List, [], ◌∷◌, Bool, true, false, eqb, length, drop, get_or, arith, length-drop, sym, subst, inl, inr}
use Rattle.std.specs.List.{All, AllByRecursion, after_first, before_first, position_or_len, slice_split}
use Rattle.std.specs.Str.{IsUtf8}
use Rattle.std.proofs.lemmas.Bool.{cases_lt, eqb-true}
use Rattle.std.proofs.lemmas.List.Splits.{slice_split_first, slice_split_none}
use Rattle.std.proofs.lemmas.List.Sums.{fails_before_first, passes_at_first}
use Rattle.std.proofs.lemmas.Str.{IsCharBoundary-after_ascii, IsCharBoundary-before_ascii, IsUtf8-drop, IsUtf8-nil, IsUtf8-take, is_utf8-from_IsUtf8}
use Rattle.dir_records.specs.IsDirectory.{IsText}

abbrev is_space : ℕ → Bool
is_space b = eqb b 32

split_texts : (n : ℕ) (text : List ℕ) → length text ≤ n → IsUtf8 text → AllByRecursion IsText (slice_split is_space text)
split_texts n [] few utf8 = (is_utf8-from_IsUtf8 [] IsUtf8-nil, tt)
split_texts zero (b ∷ bs) few utf8 = absurd (omega (arith, few))
split_texts (suc n) (b ∷ bs) few utf8 =
    let text : List ℕ = b ∷ bs in
    let at : ℕ = position_or_len is_space text in
    elim (cases_lt at (length text)) [
      | inl within ↦
          let space : get_or text at 0 ≡ 32 = eqb-true (get_or text at 0) 32 (passes_at_first is_space text 0 within) in
          let low : get_or text at 0 < 128 = omega arith in
          let front = IsUtf8-take text at utf8 (IsCharBoundary-before_ascii text at within low) in
          let back = IsUtf8-drop text (at + 1) utf8 (IsCharBoundary-after_ascii text at utf8 within low) in
          let fewer : length (drop (at + 1) text) ≤ n = omega (arith, length-drop (at + 1) text, few) in
          subst (AllByRecursion IsText) (sym (slice_split_first is_space text 0 within))
          (is_utf8-from_IsUtf8 (before_first is_space text) front, split_texts n (after_first is_space text) fewer back)
      | inr past ↦
          let none : All (λ x. is_space x ≡ false) text = λ k d l. fails_before_first is_space text k d (omega arith) in
          subst (AllByRecursion IsText) (sym (slice_split_none is_space text none)) (is_utf8-from_IsUtf8 text utf8, tt)
    ]

-- the words of a text are texts
pub words_are_texts : (text : List ℕ) → IsUtf8 text → AllByRecursion IsText (slice_split (λ b. eqb b 32) text)
words_are_texts text utf8 = split_texts (length text) text (omega arith) utf8
