-- Reading and writing items one after the other, as a loop does.
use Rattle.std.proofs.Common.{◌≡◌, ℕ, zero, suc, ◌-◌, ◌+◌, ◌≤◌, ◌<◌, List, [], ◌∷◌, ◌++◌, length, get_or, Result, Ok, Err, refl, sym, ap, ◌∙◌, append_assoc, append-nil, length-append, arith}
use Rattle.std.specs.List.{flat_map}
use Rattle.std.proofs.lemmas.Bool.{eq-eqb, ne_eqb}
use Rattle.std.proofs.lemmas.List.Concat.{flat_map-cons}
use Rattle.der_core.specs.declared.refusal.DerRefusal.{DerRefusal}
use Rattle.der_forms.specs.declared.read_fault.ReadFault.{ReadFault}
use Rattle.der_forms.specs.declared.read_fault.ReadFault.TheVariants as faults
use Rattle.der_core.specs.declared.refusal.DerCause.TheVariants.{LengthForm}
use Rattle.der_core.specs.Place.{At, ◌>>=◌}
use Rattle.der_core.specs.Codec.{Codec}
use Rattle.der_forms.specs.Reads.{Fails}
use Rattle.der_forms.specs.Lists.{items_at}

-- what was read before, and what is still read
abbrev pub with_front : {X : Type 0} → List X → Result (List X) DerRefusal → Result (List X) DerRefusal
with_front front read = read >>= λ xs. Ok (front ++ xs)

regroup : {X : Type 0} (front : List X) (x : X) (read : Result (List X) DerRefusal) → with_front front (read >>= λ xs. Ok (x ∷ xs)) ≡ with_front (front ++ x ∷ []) read
regroup {X} front x (Ok xs) = ap (λ (v : List X). Ok v) (simp append_assoc)
regroup front x (Err e) = refl

step : {X : Type 0} (c : Codec X) (count i start : ℕ) (here : At) → i < count → (length here.bytes ≡ 0 → ⊥)
    → items_at (count - i) start c here ≡ (c.reading here >>= λ x. items_at (count - (i + 1)) start c x.1 >>= λ xs. Ok (x.0 ∷ xs))
unfolding items_at
step c count i start here lt some =
    let k : count - i ≡ suc (count - (i + 1)) = omega arith in
    rw (k, ne_eqb (length here.bytes) 0 some) refl

pub goes_on : {X : Type 0} (c : Codec X) (front : List X) (count i start : ℕ) (here after : At) (x : X) (total : Result (List X) DerRefusal) → i < count → (length here.bytes ≡ 0 → ⊥) → c.reading here ≡ Ok (x, after)
    → with_front front (items_at (count - i) start c here) ≡ total → with_front (front ++ x ∷ []) (items_at (count - (i + 1)) start c after) ≡ total
goes_on {X} c front count i start here after x total lt some h so_far =
    let one : with_front front (items_at (count - i) start c here) ≡ with_front (front ++ x ∷ []) (items_at (count - (i + 1)) start c after) =
    ap (with_front front) (step c count i start here lt some) ∙ rw h (regroup front x (items_at (count - (i + 1)) start c after)) in
    sym one ∙ so_far

pub ends : {X : Type 0} (c : Codec X) (e : ReadFault) (front : List X) (count i start : ℕ) (here : At) (total : Result (List X) DerRefusal) → i < count → (length here.bytes ≡ 0 → ⊥) → Fails e (c.reading here)
    → with_front front (items_at (count - i) start c here) ≡ total → Fails e total
ends c faults.NoMemory front count i start here total lt some h so_far = tt
ends c (faults.Refused f) front count i start here total lt some h so_far =
    let one : with_front front (items_at (count - i) start c here) ≡ Err f = ap (with_front front) (step c count i start here lt some) ∙ rw h refl in
    sym so_far ∙ one

pub is_empty : {X : Type 0} (c : Codec X) (front : List X) (count i start : ℕ) (here : At) (total : Result (List X) DerRefusal) → i < count → length here.bytes ≡ 0
    → with_front front (items_at (count - i) start c here) ≡ total → total ≡ Ok front
unfolding items_at
is_empty {X} c front count i start here total lt none so_far =
    let k : count - i ≡ suc (count - (i + 1)) = omega arith in
    let one : with_front front (items_at (count - i) start c here) ≡ Ok front = rw (k, eq-eqb (length here.bytes) 0 none) (ap (λ (v : List X). Ok v) (append-nil front)) in
    sym so_far ∙ one

pub is_done : {X : Type 0} (c : Codec X) (front : List X) (count i start : ℕ) (here : At) (total : Result (List X) DerRefusal) → count ≤ i → length here.bytes ≡ 0
    → with_front front (items_at (count - i) start c here) ≡ total → total ≡ Ok front
unfolding items_at
is_done {X} c front count i start here total le none so_far =
    let k : count - i ≡ 0 = omega arith in
    let one : with_front front (items_at (count - i) start c here) ≡ Ok front = rw (k, eq-eqb (length here.bytes) 0 none) (ap (λ (v : List X). Ok v) (append-nil front)) in
    sym so_far ∙ one

pub is_over : {X : Type 0} (c : Codec X) (front : List X) (count i start : ℕ) (here : At) (total : Result (List X) DerRefusal) → count ≤ i → (length here.bytes ≡ 0 → ⊥)
    → with_front front (items_at (count - i) start c here) ≡ total → total ≡ Err (record { cause = LengthForm; place = start })
unfolding items_at
is_over {X} c front count i start here total le some so_far =
    let k : count - i ≡ 0 = omega arith in
    let one : with_front front (items_at (count - i) start c here) ≡ Err (record { cause = LengthForm; place = start }) = rw (k, ne_eqb (length here.bytes) 0 some) refl in
    sym so_far ∙ one

-- each part is no longer than the whole
pub part_le : {X Y : Type 0} (f : X → List Y) (xs : List X) (i : ℕ) (d : X) → i < length xs → length (f (get_or xs i d)) ≤ length (flat_map f xs)
part_le f [] i d lt = absurd (omega arith)
part_le f (x ∷ xs) zero d lt = omega (arith, ap length (flat_map-cons f x xs), length-append (f x) (flat_map f xs))
part_le f (x ∷ xs) (suc i) d lt = let rest = part_le f xs i d (omega arith) in omega (arith, ap length (flat_map-cons f x xs), length-append (f x) (flat_map f xs), rest)
