-- Products of the field and of columns are linear, and the two column polynomials undo each other.
use Rattle.std.proofs.Common.{◌≡◌, ℕ, zero, suc, ◌+◌, ◌*◌, ◌/◌, ◌%◌, ◌^◌, ◌<◌, List, [], ◌∷◌, map, refl, ap, sym, ◌∙◌, arith, bit_xor}
use Rattle.std.proofs.lemmas.Nat.{xor_block, xor_comm}
use Rattle.std.proofs.lemmas.Nat.Bits.{bit_at_xor, bit_at-lt}
use lib.Bits.{xor_assoc, xor_zero_r, xor_self}
use Rattle.std.specs.List.{range_with_len}
use Rattle.std.specs.Int.{bit_at}
use Rattle.aes_core.specs.Field.{product, remainder, times}
use Rattle.aes_core.specs.Aes.{add, share, mix, inv_mix, times_column}

pub xor_swap : (a b c d : ℕ) → bit_xor (bit_xor a b) (bit_xor c d) ≡ bit_xor (bit_xor a c) (bit_xor b d)
xor_swap a b c d =
    xor_assoc a b (bit_xor c d)
    ∙ ap (bit_xor a) (sym (xor_assoc b c d) ∙ ap (λ x. bit_xor x d) (xor_comm b c) ∙ xor_assoc c b d)
    ∙ sym (xor_assoc a c (bit_xor b d))

none : (n : ℕ) → 0 * n ≡ 0
none n = omega arith

once : (n : ℕ) → 1 * n ≡ n
once n = omega arith

-- a coefficient times a sum
bit-times : (p q n : ℕ) → p < 2 → q < 2 → (p + q) % 2 * n ≡ bit_xor (p * n) (q * n)
bit-times zero zero n hp hq = none n ∙ (λ i. bit_xor (sym (none n) i) (sym (none n) i))
bit-times zero (suc zero) n hp hq = λ i. bit_xor (sym (none n) i) (1 * n)
bit-times (suc zero) zero n hp hq = sym (xor_zero_r (1 * n)) ∙ ap (bit_xor (1 * n)) (sym (none n))
bit-times (suc zero) (suc zero) n hp hq = none n ∙ sym (xor_self (1 * n))
bit-times (suc (suc p)) q n hp hq = absurd (omega arith)
bit-times zero (suc (suc q)) n hp hq = absurd (omega arith)
bit-times (suc zero) (suc (suc q)) n hp hq = absurd (omega arith)

bit_xor-times : (p b c : ℕ) → p < 2 → p * bit_xor b c ≡ bit_xor (p * b) (p * c)
bit_xor-times zero b c h = none (bit_xor b c) ∙ (λ i. bit_xor (sym (none b) i) (sym (none c) i))
bit_xor-times (suc zero) b c h = once (bit_xor b c) ∙ (λ i. bit_xor (sym (once b) i) (sym (once c) i))
bit_xor-times (suc (suc p)) b c h = absurd (omega arith)

double_xor : (a b : ℕ) → 2 * bit_xor a b ≡ bit_xor (2 * a) (2 * b)
double_xor a b =
    let ea : a * 2 ^ 1 + 0 ≡ 2 * a = omega arith in
    let eb : b * 2 ^ 1 + 0 ≡ 2 * b = omega arith in
    let e : 2 * bit_xor a b ≡ bit_xor a b * 2 ^ 1 + 0 = omega arith in
    e ∙ sym (xor_block 1 a b 0 0 (omega arith) (omega arith)) ∙ (λ i. bit_xor (ea i) (eb i))

product-xor : (n a b c : ℕ) → product n a (bit_xor b c) ≡ bit_xor (product n a b) (product n a c)
unfolding product
product-xor zero a b c = refl
product-xor (suc n) a b c =
    let low : a % 2 < 2 = omega arith in
    (λ i. bit_xor (bit_xor-times (a % 2) b c low i) (2 * product-xor n (a / 2) b c i))
    ∙ ap (bit_xor (bit_xor (a % 2 * b) (a % 2 * c))) (double_xor (product n (a / 2) b) (product n (a / 2) c))
    ∙ xor_swap (a % 2 * b) (a % 2 * c) (2 * product n (a / 2) b) (2 * product n (a / 2) c)

remainder-xor : (n p q : ℕ) → remainder n (bit_xor p q) ≡ bit_xor (remainder n p) (remainder n q)
unfolding remainder
remainder-xor zero p q = refl
remainder-xor (suc n) p q =
    let m : ℕ = 0x11b * 2 ^ n in
    ap (remainder n)
    ((λ i. bit_xor (bit_xor p q) (bit_at_xor p q (8 + n) i * m))
    ∙ ap (bit_xor (bit_xor p q)) (bit-times (bit_at p (8 + n)) (bit_at q (8 + n)) m (bit_at-lt p (8 + n)) (bit_at-lt q (8 + n)))
    ∙ xor_swap p q (bit_at p (8 + n) * m) (bit_at q (8 + n) * m))
    ∙ remainder-xor n (bit_xor p (bit_at p (8 + n) * m)) (bit_xor q (bit_at q (8 + n) * m))

-- a product is linear in its second factor
pub times-xor : (a b c : ℕ) → times a (bit_xor b c) ≡ bit_xor (times a b) (times a c)
unfolding times
times-xor a b c = ap (remainder 7) (product-xor 8 a b c) ∙ remainder-xor 7 (product 8 a b) (product 8 a c)

-- one coefficient of a column's product
abbrev pub sum_4 : ℕ → ℕ → ℕ → ℕ → ℕ
sum_4 a b c d = bit_xor (bit_xor (bit_xor a b) c) d

sum_4-xor : (a b c d p q r s : ℕ) → sum_4 (bit_xor a p) (bit_xor b q) (bit_xor c r) (bit_xor d s) ≡ bit_xor (sum_4 a b c d) (sum_4 p q r s)
sum_4-xor a b c d p q r s =
    (λ i. bit_xor (bit_xor (xor_swap a p b q i) (bit_xor c r)) (bit_xor d s))
    ∙ (λ i. bit_xor (xor_swap (bit_xor a b) (bit_xor p q) c r i) (bit_xor d s))
    ∙ xor_swap (bit_xor (bit_xor a b) c) (bit_xor (bit_xor p q) r) d s

row-xor : (k l m n a b c d p q r s : ℕ)
    → sum_4 (times k (bit_xor a p)) (times l (bit_xor b q)) (times m (bit_xor c r)) (times n (bit_xor d s))
    ≡ bit_xor (sum_4 (times k a) (times l b) (times m c) (times n d)) (sum_4 (times k p) (times l q) (times m r) (times n s))
row-xor k l m n a b c d p q r s =
    (λ i. sum_4 (times-xor k a p i) (times-xor l b q i) (times-xor m c r i) (times-xor n d s i))
    ∙ sum_4-xor (times k a) (times l b) (times m c) (times n d) (times k p) (times l q) (times m r) (times n s)

-- a function's values at 0 to 3
abbrev pub four : (ℕ → ℕ) → List ℕ
four f = f 0 ∷ f 1 ∷ f 2 ∷ f 3 ∷ []

-- a column's product is linear
pub times_column-add : (c f g : ℕ → ℕ) → times_column (four c) (add (four f) (four g)) ≡ add (times_column (four c) (four f)) (times_column (four c) (four g))
times_column-add c f g =
    let row = λ (k l m n : ℕ). row-xor k l m n (f 0) (f 1) (f 2) (f 3) (g 0) (g 1) (g 2) (g 3) in
    λ i. row (c 0) (c 3) (c 2) (c 1) i ∷ row (c 1) (c 0) (c 3) (c 2) i ∷ row (c 2) (c 1) (c 0) (c 3) i ∷ row (c 3) (c 2) (c 1) (c 0) i ∷ []

-- a byte alone in row j
abbrev pub lone : ℕ → ℕ → List ℕ
lone zero a = a ∷ 0 ∷ 0 ∷ 0 ∷ []
lone (suc zero) a = 0 ∷ a ∷ 0 ∷ 0 ∷ []
lone (suc (suc zero)) a = 0 ∷ 0 ∷ a ∷ 0 ∷ []
lone (suc (suc (suc j))) a = 0 ∷ 0 ∷ 0 ∷ a ∷ []

-- the two polynomials at each byte in each row
pub inv_mixed_shares : map (λ i. times_column inv_mix (share mix (i / 256) (i % 256))) (range_with_len 0 1024) ≡ map (λ i. lone (i / 256) (i % 256)) (range_with_len 0 1024)
unfolding product remainder times
inv_mixed_shares = refl

pub mixed_shares : map (λ i. times_column mix (share inv_mix (i / 256) (i % 256))) (range_with_len 0 1024) ≡ map (λ i. lone (i / 256) (i % 256)) (range_with_len 0 1024)
unfolding product remainder times
mixed_shares = refl
