-- Numbers and SIDs that read are in the ranges of their types.
use Rattle.std.proofs.Common.{◌≡◌, ℕ, ◌-◌, ◌<◌, ◌≤◌, ◌^◌, List, [], ◌∷◌, ◌&&◌, Bool, true, false, eqb, length, arith, refl, leb}
use Rattle.std.specs.Prelude.{IfOk, IfSome, Option, None, Some, Result, Ok, Err, if◌then◌else◌, nat_le, option_map}
use Rattle.std.specs.List.{AllByRecursion}
use Rattle.std.specs.Str.Parse.{digits_value}
use Rattle.std.proofs.lemmas.Bool.{leb-true}
use Rattle.kdc_prelude.specs.Answers.{or_fault}
use Rattle.kdc_prelude.specs.Steps.{◌>>=◌, with_front}
use Rattle.krb_names.specs.Decimals.{decimal_reading, is_decimal}
use Rattle.krb_names.specs.SidTexts.{after_prefix, hyphen_pieces, numbers_of, sid_of_pieces, sid_of_text, sid_reading, sub_authorities_of}
use Rattle.krb_names.specs.SidValue.{SidValue}
use Rattle.krb_names.specs.declared.refusal.NameRefusal.{NameRefusal}
use Rattle.krb_names.specs.declared.refusal.NameRefusal.TheVariants.{BadText, Empty}
use Rattle.dir_records.specs.IsDirectory.{IsSidInRange}

-- a number that reads is at most the highest
pub read_below : (most : ℕ) (text : List ℕ) → IfSome (decimal_reading most text) (λ n. n ≤ most)
read_below most text = by_test (is_decimal text) (nat_le (digits_value 10 text) most) refl
  where
    by_test : (a b : Bool) → nat_le (digits_value 10 text) most ≡ b → IfSome (if a && b then Some (digits_value 10 text) else None) (λ n. n ≤ most)
    by_test false b e = tt
    by_test true false e = tt
    by_test true true e = leb-true (digits_value 10 text) most e

pub from_option : {X E : Type 0} (P : X → Type 0) (fault : E) (o : Option X) → IfSome o P → IfOk (or_fault fault o) P
from_option P fault None h = tt
from_option P fault (Some x) h = h

after_some : {X Y : Type 0} (P : X → Type 0) (Q : Y → Type 0) (o : Option X) (f : X → Option Y) → IfSome o P → ((x : X) → P x → IfSome (f x) Q) → IfSome (o >>= f) Q
after_some P Q None f h step = tt
after_some P Q (Some x) f h step = step x h

below_32 : (n : ℕ) → n ≤ 2 ^ 32 - 1 → n < 2 ^ 32
below_32 n h = omega (arith, h)

below_48 : (n : ℕ) → n ≤ 2 ^ 48 - 1 → n < 2 ^ 48
below_48 n h = omega (arith, h)

-- as many numbers as pieces, each of 32 bits
record AreNumbers (pieces : List (List ℕ)) (numbers : List ℕ) : Type 0 where
  size : length numbers ≡ length pieces
  each : AllByRecursion (λ (number : ℕ). number < 2 ^ 32) numbers

in_front : (n : ℕ) (piece : List ℕ) (pieces : List (List ℕ)) (rest : Option (List ℕ)) → n ≤ 2 ^ 32 - 1 → IfSome rest (AreNumbers pieces) → IfSome (with_front (n ∷ []) rest) (AreNumbers (piece ∷ pieces))
in_front n piece pieces None h k = tt
in_front n piece pieces (Some numbers) h k = record { size = omega (arith, k.size); each = (below_32 n h, k.each) }

are_numbers : (pieces : List (List ℕ)) → IfSome (numbers_of pieces) (AreNumbers pieces)
are_numbers [] = record { size = refl; each = tt }
are_numbers (piece ∷ pieces) =
    after_some (λ (n : ℕ). n ≤ 2 ^ 32 - 1) (AreNumbers (piece ∷ pieces)) (decimal_reading (2 ^ 32 - 1) piece) (λ number. with_front (number ∷ []) (numbers_of pieces))
    (read_below (2 ^ 32 - 1) piece) (λ n h. in_front n piece pieces (numbers_of pieces) h (are_numbers pieces))

-- sub-authorities
record AreSubs (numbers : List ℕ) : Type 0 where
  some : 1 ≤ length numbers
  few : length numbers ≤ 15
  each : AllByRecursion (λ (number : ℕ). number < 2 ^ 32) numbers

are_subs : (pieces : List (List ℕ)) → IfSome (sub_authorities_of pieces) AreSubs
are_subs pieces = by_test (nat_le 1 (length pieces)) (nat_le (length pieces) 15) refl refl
  where
    few_numbers : (found : Option (List ℕ)) → 1 ≤ length pieces → length pieces ≤ 15 → IfSome found (AreNumbers pieces) → IfSome found AreSubs
    few_numbers None h k n = tt
    few_numbers (Some numbers) h k n = record { some = omega (arith, h, n.size); few = omega (arith, k, n.size); each = n.each }

    by_test : (a b : Bool) → nat_le 1 (length pieces) ≡ a → nat_le (length pieces) 15 ≡ b → IfSome (if a && b then numbers_of pieces else None) AreSubs
    by_test false b e f = tt
    by_test true false e f = tt
    by_test true true e f = few_numbers (numbers_of pieces) (leb-true 1 (length pieces) e) (leb-true (length pieces) 15 f) (are_numbers pieces)

with_authority : (authority : ℕ) (found : Option (List ℕ)) → authority ≤ 2 ^ 48 - 1 → IfSome found AreSubs
    → IfSome (option_map (λ numbers. let sid : SidValue = record { authority = authority; numbers = numbers } in sid) found) IsSidInRange
with_authority authority None h k = tt
with_authority authority (Some numbers) h k = record { authority = below_48 authority h; some = k.some; few = k.few; numbers = k.each }

sid_from_pieces : (pieces : List (List ℕ)) → IfSome (sid_of_pieces pieces) IsSidInRange
sid_from_pieces [] = tt
sid_from_pieces (first ∷ pieces) =
    after_some (λ (n : ℕ). n ≤ 2 ^ 48 - 1) IsSidInRange (decimal_reading (2 ^ 48 - 1) first) (λ authority. option_map (λ numbers. let sid : SidValue = record { authority = authority; numbers = numbers } in sid) (sub_authorities_of pieces))
    (read_below (2 ^ 48 - 1) first) (λ authority h. with_authority authority (sub_authorities_of pieces) h (are_subs pieces))

sid_from_rest : (rest : Option (List ℕ)) → IfSome (rest >>= λ text. sid_of_pieces (hyphen_pieces text)) IsSidInRange
sid_from_rest None = tt
sid_from_rest (Some text) = sid_from_pieces (hyphen_pieces text)

-- a SID that reads is in range
pub sid_in_range : (text : List ℕ) → IfOk (sid_reading text) IsSidInRange
sid_in_range text = by_test (eqb (length text) 0)
  where
    by_test : (b : Bool) → IfOk (if b then Err Empty else or_fault BadText (sid_of_text text)) IsSidInRange
    by_test true = tt
    by_test false = from_option IsSidInRange BadText (sid_of_text text) (sid_from_rest (after_prefix text))
