-- Lists of entries.
use Rattle.std.proofs.Common.{◌≡◌, ℕ, zero, suc, ◌/◌, ◌^◌, ◌<◌, ◌≤◌, Bool, true, false, cond, ◌||◌, List, [], ◌∷◌, length, take, drop, Option, Some, None, refl, sym, ap, ◌∙◌, arith}
use Rattle.std.specs.List.{find}
use Rattle.std.specs.Option.{option_map}
use Rattle.std.specs.Simd.{first_chunks}
use Rattle.std.specs.Prelude.{nat_le, IfSome}
use Rattle.std.proofs.lemmas.Bool.{ltb-false, le-leb, lt-leb}
use Rattle.std.proofs.lemmas.List.{length-drop}
use Rattle.pac_buffers.specs.declared.refusal.PacRefusal.TheVariants.{Truncated}
use Rattle.pac_buffers.specs.declared.info_buffer.InfoBuffer.{InfoBuffer}
use Rattle.pac_buffers.specs.InfoBuffers.{info_buffer, is_kind, leaves, end_of}
use Rattle.pac_buffers.specs.Container.{any_entry, count_of, list_end, list_of, is_listed, buffers_fault, pac_fault, entry_of}

-- the first pieces of more
pub first_of_chunks : {X : Type 0} (n k m : ℕ) (xs : List X) → k ≤ m → take k (first_chunks n m xs) ≡ first_chunks n k xs
first_of_chunks n zero m xs le = refl
first_of_chunks n (suc k) zero xs le = absurd (omega arith)
first_of_chunks n (suc k) (suc m) xs le = ap (λ r. take n xs ∷ r) (first_of_chunks n k m (drop n xs) (omega arith))

some_is : (x y : InfoBuffer) → Some x ≡ Some y → x ≡ y
some_is x y e = cc

pub not_first : (a b : Bool) → (a || b) ≡ false → a ≡ false
not_first true b e = absurd cc
not_first false b e = refl

pub not_second : (a b : Bool) → (a || b) ≡ false → b ≡ false
not_second true b e = absurd cc
not_second false b e = e

by_test : (test other : InfoBuffer → Bool) (raw : List ℕ) (raws : List (List ℕ)) (b : InfoBuffer) (t : Bool) → other (info_buffer raw) ≡ false
    → (option_map info_buffer (find (λ raw. test (info_buffer raw)) raws) ≡ Some b → other b ≡ false)
    → option_map info_buffer (cond t (Some raw) (find (λ raw. test (info_buffer raw)) raws)) ≡ Some b → other b ≡ false
by_test test other raw raws b true own later e = ap other (some_is b (info_buffer raw) (sym e)) ∙ own
by_test test other raw raws b false own later e = later e

-- what is found among entries that do not pass a test does not pass it
found_fails : (test other : InfoBuffer → Bool) (list : List (List ℕ)) (b : InfoBuffer) → any_entry other list ≡ false
    → option_map info_buffer (find (λ raw. test (info_buffer raw)) list) ≡ Some b → other b ≡ false
found_fails test other [] b none e = absurd cc
found_fails test other (raw ∷ raws) b none e =
    by_test test other raw raws b (test (info_buffer raw)) (not_first (other (info_buffer raw)) (any_entry other raws) none)
    (found_fails test other raws b (not_second (other (info_buffer raw)) (any_entry other raws) none)) e

first_passed : {X : Type 0} (t : Bool) (fault : X) (rest : Option X) → cond t (Some fault) rest ≡ None → t ≡ false
first_passed true fault rest e = absurd cc
first_passed false fault rest e = refl

all_passed : {X : Type 0} (t : Bool) (fault : X) (rest : Option X) → cond t rest (Some fault) ≡ None → rest ≡ None
all_passed true fault rest e = e
all_passed false fault rest e = absurd cc

-- the buffers of a PAC lie in it
pub lies_in : (kind : ℕ) (bytes : List ℕ) (b : InfoBuffer) → pac_fault bytes ≡ None → entry_of kind bytes ≡ Some b → end_of b ≤ length bytes
lies_in kind bytes b sound e =
    let own : buffers_fault (length bytes) (list_of bytes) ≡ None = all_passed (is_listed bytes) Truncated (buffers_fault (length bytes) (list_of bytes)) sound in
    let none : any_entry (leaves (length bytes)) (list_of bytes) ≡ false = first_passed (any_entry (leaves (length bytes)) (list_of bytes)) Truncated _ own in
    ltb-false _ _ (found_fails (is_kind kind) (leaves (length bytes)) (list_of bytes) b none e)

pub listed_is : (bytes : List ℕ) (count : ℕ) → 8 ≤ length bytes → count ≡ count_of bytes → count ≤ length (drop 8 bytes) / 16 → is_listed bytes ≡ true
listed_is bytes count some e le =
    let first : nat_le 8 (length bytes) ≡ true = le-leb _ _ some in
    let second : nat_le (list_end (count_of bytes)) (length bytes) ≡ true = le-leb _ _ (omega (arith, length-drop 8 bytes, e, le)) in
    rw (first, second) refl

pub first_chunks_length : {X : Type 0} (n k : ℕ) (xs : List X) → length (first_chunks n k xs) ≡ k
first_chunks_length n zero xs = refl
first_chunks_length n (suc k) xs = ap suc (first_chunks_length n k (drop n xs))

pub unlisted_is : (bytes : List ℕ) (count : ℕ) → 8 ≤ length bytes → count ≡ count_of bytes → length (drop 8 bytes) / 16 < count → is_listed bytes ≡ false
unlisted_is bytes count some e lt =
    let first : nat_le 8 (length bytes) ≡ true = le-leb _ _ some in
    let second : nat_le (list_end (count_of bytes)) (length bytes) ≡ false = lt-leb _ _ (omega (arith, length-drop 8 bytes, e, lt)) in
    rw (first, second) refl

pub found_lies_in : (kind : ℕ) (bytes : List ℕ) (o : Option InfoBuffer) → pac_fault bytes ≡ None → length bytes < 2 ^ 32 → o ≡ entry_of kind bytes → IfSome o (λ b. (end_of b ≤ length bytes) × (end_of b < 2 ^ 32))
found_lies_in kind bytes None sound short e = tt
found_lies_in kind bytes (Some b) sound short e = let le = lies_in kind bytes b sound (sym e) in (le, omega arith)
