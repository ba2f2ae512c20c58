-- The tables of src/ hold what their rules say. Each is tested whole, by computing, and then read at one entry.
use Rattle.std.proofs.Common.{◌≡◌, ℕ, ◌+◌, ◌*◌, ◌/◌, ◌%◌, ◌<◌, ◌≤◌, ◌-◌, List, map, get_or, length, refl, zero-add, sym, ap, ◌∙◌, arith}
use Rattle.std.proofs.lemmas.List.FromFn.{get_or-map-range_with_len, length-map-range_with_len}
use Rattle.std.proofs.lemmas.List.{get_or-map, length-map}
use Rattle.std.specs.List.{range_with_len}
use Rattle.std.specs.Int.{w32, to_le_bytes}
use Rattle.aes_core.specs.Field.{product, remainder, times, all_bytes, inverse, affine, affine_inverse, sbox, inv_sbox}
use Rattle.aes_core.specs.Aes.{share, mix, inv_mix}
use Rattle.aes_core.specs.declared.tables.TheConstants.{SBOX, INV_SBOX, MIXED, INV_MIXED, ROUND_CONSTANTS}
use Rattle.aes_core.specs.KeyExpansion.{power_of_x, round_constant}

-- a table that is f at each place, read at one
pub table_at : {X : Type 0} (g : ℕ → X) (f : ℕ → X) (n : ℕ) (t : List ℕ) → map g t ≡ map f (range_with_len 0 n) → (x : ℕ) → x < n → g (get_or t x 0) ≡ f x
table_at g f n t e x h =
    let len : length t ≡ n = sym (length-map t g) ∙ ap length e ∙ length-map-range_with_len f 0 n in
    sym (get_or-map g t x 0 (f x) (omega arith)) ∙ ap (λ xs. get_or xs x (f x)) e ∙ get_or-map-range_with_len f 0 n x x (f x) h (zero-add x)

sbox_table : map (λ x. x) SBOX ≡ map sbox (range_with_len 0 256)
unfolding product remainder times all_bytes inverse affine sbox
sbox_table = refl

pub sbox_at : (x : ℕ) → x < 256 → get_or SBOX x 0 ≡ sbox x
sbox_at = table_at (λ x. x) sbox 256 SBOX sbox_table

inv_sbox_table : map (λ x. x) INV_SBOX ≡ map inv_sbox (range_with_len 0 256)
unfolding product remainder times all_bytes inverse affine_inverse inv_sbox
inv_sbox_table = refl

pub inv_sbox_at : (x : ℕ) → x < 256 → get_or INV_SBOX x 0 ≡ inv_sbox x
inv_sbox_at = table_at (λ x. x) inv_sbox 256 INV_SBOX inv_sbox_table

mixed_table : map (to_le_bytes w32) MIXED ≡ map (λ i. share mix (i / 256) (get_or SBOX (i % 256) 0)) (range_with_len 0 1024)
unfolding product remainder times
mixed_table = refl

inv_mixed_table : map (to_le_bytes w32) INV_MIXED ≡ map (λ i. share inv_mix (i / 256) (get_or INV_SBOX (i % 256) 0)) (range_with_len 0 1024)
unfolding product remainder times
inv_mixed_table = refl

pub mixed_at : (r x : ℕ) → r < 4 → x < 256 → to_le_bytes w32 (get_or MIXED (256 * r + x) 0) ≡ share mix r (sbox x)
mixed_at r x hr hx =
    let row : (256 * r + x) / 256 ≡ r = omega arith in
    let place : (256 * r + x) % 256 ≡ x = omega arith in
    table_at (to_le_bytes w32) (λ i. share mix (i / 256) (get_or SBOX (i % 256) 0)) 1024 MIXED mixed_table (256 * r + x) (omega arith)
    ∙ (λ i. share mix (row i) (get_or SBOX (place i) 0)) ∙ ap (share mix r) (sbox_at x hx)

pub inv_mixed_at : (r x : ℕ) → r < 4 → x < 256 → to_le_bytes w32 (get_or INV_MIXED (256 * r + x) 0) ≡ share inv_mix r (inv_sbox x)
inv_mixed_at r x hr hx =
    let row : (256 * r + x) / 256 ≡ r = omega arith in
    let place : (256 * r + x) % 256 ≡ x = omega arith in
    table_at (to_le_bytes w32) (λ i. share inv_mix (i / 256) (get_or INV_SBOX (i % 256) 0)) 1024 INV_MIXED inv_mixed_table (256 * r + x) (omega arith)
    ∙ (λ i. share inv_mix (row i) (get_or INV_SBOX (place i) 0)) ∙ ap (share inv_mix r) (inv_sbox_at x hx)

constants_table : map (to_le_bytes w32) ROUND_CONSTANTS ≡ map (λ i. round_constant (i + 1)) (range_with_len 0 10)
unfolding product remainder times power_of_x
constants_table = refl

pub constant_at : (n : ℕ) → 1 ≤ n → n ≤ 10 → to_le_bytes w32 (get_or ROUND_CONSTANTS (n - 1) 0) ≡ round_constant n
constant_at n l h =
    let e : n - 1 + 1 ≡ n = omega arith in
    table_at (to_le_bytes w32) (λ i. round_constant (i + 1)) 10 ROUND_CONSTANTS constants_table (n - 1) (omega arith) ∙ (λ i. round_constant (e i))
