-- Lemmas on how many lines a text has.
use Rattle.std.proofs.Common.{◌≡◌, ◌≤◌, ◌+◌, ◌-◌, ℕ, List, [], Bool, Bor, true, false, cond, eqb, length, map, take, get_or, arith, refl, ap}
use Rattle.std.specs.Prelude.{count_by}
use Rattle.std.specs.List.{slice_split}
use Rattle.std.proofs.lemmas.Bool.Decides.{nat_tests}
use Rattle.std.proofs.lemmas.List.{length-map, length-take-le, take_all}
use Rattle.std.proofs.lemmas.List.Splits.{length-slice_split}
use Rattle.std.proofs.lemmas.List.Sums.{count_by-le-length, count_by_more_no}
use Rattle.kdc_prelude.specs.Lines.{lines_of, without_last_newline}

abbrev is_newline : ℕ → Bool
is_newline b = eqb b 10

-- each line but the last ends with a newline, and the last one has a byte or a newline of its own
length-pieces : (text : List ℕ) (n : ℕ) → length text ≡ n + 1 → (ends : Bool) → eqb (get_or text n 0) 10 ≡ ends → length (slice_split is_newline (cond ends (take n text) text)) ≤ n + 1
length-pieces text n size true e = omega (arith, length-slice_split is_newline (take n text), count_by-le-length is_newline (take n text), length-take-le n text (omega arith))
length-pieces text n size false e =
    let fewer = count_by_more_no is_newline text n 0 (omega arith) e in
    let whole = ap (count_by is_newline) (take_all (n + 1) text (omega arith)) in
    omega (arith, length-slice_split is_newline text, count_by-le-length is_newline (take n text), length-take-le n text (omega arith), fewer, whole)

length-lines_of : (text : List ℕ) → length (lines_of text) ≤ length text
length-lines_of text = by_test (eqb (length text) 0) refl
  where
    by_test : (empty : Bool) → eqb (length text) 0 ≡ empty → length (cond empty [] (slice_split is_newline (without_last_newline text))) ≤ length text
    by_test true e = omega arith
    by_test false e =
        let size : length text ≡ (length text - 1) + 1 = grind (arith, nat_tests) in
        omega (arith, size, length-pieces text (length text - 1) size _ refl)

-- lines are not more than the bytes of their text
pub few_lines : (text : List ℕ) (lines : List (Bor (List ℕ))) → map (λ line. line.now) lines ≡ lines_of text → length lines ≤ length text
few_lines text lines h = omega (arith, length-lines_of text, length-map lines (λ (line : Bor (List ℕ)). line.now), ap length h)
