-- The sum of two lists of bytes, by index.
use Rattle.std.proofs.Common.{◌≡◌, ℕ, zero, suc, ◌<◌, List, [], ◌∷◌, map, length, get_or, refl, sym, ◌∙◌, arith, bit_xor}
use Rattle.std.proofs.lemmas.List.{ext_get_or, length-map, get_or-map}
use Rattle.std.proofs.lemmas.Simd.{length-zip2}
use Rattle.aes_core.specs.Aes.{add}

pub get_or-add : (a b : List ℕ) (i : ℕ) → i < length a → length a ≡ length b → get_or (add a b) i 0 ≡ bit_xor (get_or a i 0) (get_or b i 0)
get_or-add [] b i h l = absurd (omega arith)
get_or-add (x ∷ a) [] i h l = absurd (omega arith)
get_or-add (x ∷ a) (y ∷ b) zero h l = refl
get_or-add (x ∷ a) (y ∷ b) (suc i) h l = get_or-add a b i (omega arith) (omega arith)

pub add_by_index : (a b s : List ℕ) (n : ℕ) → length a ≡ n → length b ≡ n → length s ≡ n
    → ((i : ℕ) → i < n → get_or s i 0 ≡ bit_xor (get_or a i 0) (get_or b i 0)) → s ≡ add a b
add_by_index a b s n la lb ls h =
    let len : length (add a b) ≡ n = length-zip2 bit_xor a b (la ∙ sym lb) ∙ la in
    ext_get_or 0 s (add a b) (ls ∙ sym len) (λ i l. h i (omega arith) ∙ sym (get_or-add a b i (omega arith) (la ∙ sym lb)))

pub map_by_index : (f : ℕ → ℕ) (a s : List ℕ) (n : ℕ) → length a ≡ n → length s ≡ n → ((i : ℕ) → i < n → get_or s i 0 ≡ f (get_or a i 0)) → s ≡ map f a
map_by_index f a s n la ls h =
    ext_get_or 0 s (map f a) (ls ∙ sym (length-map a f ∙ la)) (λ i l. h i (omega arith) ∙ sym (get_or-map f a i 0 0 (omega arith)))
