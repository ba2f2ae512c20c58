-- Reading values one after the other, as a loop does.
use Rattle.std.proofs.Common.{◌≡◌, ℕ, zero, suc, ◌-◌, ◌+◌, ◌≤◌, ◌<◌, List, [], ◌∷◌, ◌++◌, length, get_or, drop, replicate, Result, Ok, Err, refl, sym, ap, ◌∙◌, append_assoc, append-nil, arith}
use Rattle.std.proofs.lemmas.List.{drop_more, drop_all}
use Rattle.ndr_core.specs.declared.fault.LogonFault.{LogonFault}
use Rattle.ndr_core.specs.declared.fault.LogonFault.TheVariants as faults
use Rattle.ndr_core.specs.Place.{At, ◌>>=◌}
use Rattle.ndr_core.specs.Layout.{Written, Layout}
use Rattle.ndr_core.specs.Arrays.{each_at, put_each}
use Rattle.ndr_core.specs.Gives.{Fails}

-- what was read before, and what is still read
abbrev pub with_front : {X : Type 0} → List X → Result (List X × At) LogonFault → Result (List X × At) LogonFault
with_front front read = read >>= λ x. Ok (front ++ x.0, x.1)

regroup : {X : Type 0} (front : List X) (x : X) (read : Result (List X × At) LogonFault) → with_front front (read >>= λ xs. Ok (x ∷ xs.0, xs.1)) ≡ with_front (front ++ x ∷ []) read
regroup {X} front x (Ok xs) = ap (λ (v : List X). Ok (v, xs.1)) (simp append_assoc)
regroup front x (Err e) = refl

pub each_goes_on : {H X : Type 0} (layout : H → Layout X) (front : List X) (h : H) (hs : List H) (here after : At) (x : X) (total : Result (List X × At) LogonFault) → (layout h).reading here ≡ Ok (x, after)
    → with_front front (each_at layout (h ∷ hs) here) ≡ total → with_front (front ++ x ∷ []) (each_at layout hs after) ≡ total
unfolding each_at
each_goes_on layout front h hs here after x total read so_far =
    let one : with_front front (each_at layout (h ∷ hs) here) ≡ with_front (front ++ x ∷ []) (each_at layout hs after) = rw read (regroup front x (each_at layout hs after)) in
    sym one ∙ so_far

pub each_ends : {H X : Type 0} (layout : H → Layout X) (front : List X) (h : H) (hs : List H) (here : At) (e : LogonFault) (total : Result (List X × At) LogonFault) → (layout h).reading here ≡ Err e
    → with_front front (each_at layout (h ∷ hs) here) ≡ total → total ≡ Err e
unfolding each_at
each_ends layout front h hs here e total read so_far =
    let one : with_front front (each_at layout (h ∷ hs) here) ≡ Err e = rw read refl in
    sym so_far ∙ one

pub each_done : {H X : Type 0} (layout : H → Layout X) (front : List X) (here : At) (total : Result (List X × At) LogonFault) → with_front front (each_at layout [] here) ≡ total → total ≡ Ok (front, here)
unfolding each_at
each_done {H} {X} layout front here total so_far = sym so_far ∙ ap (λ (v : List X). Ok (v, here)) (append-nil front)

-- ---- the same for a count of values of one layout

abbrev pub left : {X : Type 0} → Layout X → ℕ → ℕ → At → Result (List X × At) LogonFault
left c count i here = each_at (λ (_ : Unit {0}). c) (replicate (count - i) tt) here

pub goes_on : {X : Type 0} (c : Layout X) (front : List X) (count i : ℕ) (here after : At) (x : X) (total : Result (List X × At) LogonFault) → i < count → c.reading here ≡ Ok (x, after)
    → with_front front (left c count i here) ≡ total → with_front (front ++ x ∷ []) (left c count (i + 1) after) ≡ total
goes_on c front count i here after x total lt read so_far =
    let k : count - i ≡ suc (count - (i + 1)) = omega arith in
    each_goes_on (λ (_ : Unit {0}). c) front tt (replicate (count - (i + 1)) tt) here after x total read (ap (λ (n : ℕ). with_front front (each_at (λ (_ : Unit {0}). c) (replicate n tt) here)) (sym k) ∙ so_far)

pub ends : {X : Type 0} (c : Layout X) (front : List X) (count i : ℕ) (here : At) (e : LogonFault) (total : Result (List X × At) LogonFault) → i < count → c.reading here ≡ Err e
    → with_front front (left c count i here) ≡ total → total ≡ Err e
ends c front count i here e total lt read so_far =
    let k : count - i ≡ suc (count - (i + 1)) = omega arith in
    each_ends (λ (_ : Unit {0}). c) front tt (replicate (count - (i + 1)) tt) here e total read (ap (λ (n : ℕ). with_front front (each_at (λ (_ : Unit {0}). c) (replicate n tt) here)) (sym k) ∙ so_far)

pub is_done : {X : Type 0} (c : Layout X) (front : List X) (count i : ℕ) (here : At) (total : Result (List X × At) LogonFault) → count ≤ i
    → with_front front (left c count i here) ≡ total → total ≡ Ok (front, here)
is_done c front count i here total le so_far =
    let k : count - i ≡ 0 = omega arith in
    each_done (λ (_ : Unit {0}). c) front here total (ap (λ (n : ℕ). with_front front (each_at (λ (_ : Unit {0}). c) (replicate n tt) here)) (sym k) ∙ so_far)

-- ---- writing

pub puts_on : {X : Type 0} (c : Layout X) (xs : List X) (i : ℕ) (d : X) (old : Written) → i < length xs
    → put_each (λ (_ : Unit {0}). c) (replicate (length xs - i) tt) old (drop i xs) ≡ put_each (λ (_ : Unit {0}). c) (replicate (length xs - (i + 1)) tt) (c.written old (get_or xs i d)) (drop (i + 1) xs)
puts_on c xs i d old lt =
    let k : length xs - i ≡ suc (length xs - (i + 1)) = omega arith in
    rw (k, drop_more xs i d lt) refl

pub each_puts_on : {H X : Type 0} (layout : H → Layout X) (hs : List H) (xs : List X) (i : ℕ) (d : H) (e : X) (old : Written) → i < length hs → i < length xs
    → put_each layout (drop i hs) old (drop i xs) ≡ put_each layout (drop (i + 1) hs) ((layout (get_or hs i d)).written old (get_or xs i e)) (drop (i + 1) xs)
each_puts_on layout hs xs i d e old lt mt = rw (drop_more hs i d lt, drop_more xs i e mt) refl
