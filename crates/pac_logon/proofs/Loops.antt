-- Reading past values one after the other, as a loop does.
use Rattle.std.proofs.Common.{◌≡◌, ℕ, suc, ◌-◌, ◌+◌, ◌≤◌, ◌<◌, Bool, false, List, [], ◌∷◌, length, get_or, take, drop, replicate, Result, Ok, Err, refl, sym, ap, ◌∙◌, arith}
use Rattle.std.proofs.lemmas.List.{drop_more, drop_all, length-take, length-replicate}
use Rattle.ndr_core.specs.declared.fault.LogonFault.{LogonFault}
use Rattle.ndr_core.specs.Place.{At, ◌>>=◌}
use Rattle.ndr_core.specs.Layout.{Layout}
use Rattle.ndr_core.specs.Arrays.{each_at}
use Rattle.ndr_core.proofs.Loops.{left}
use Rattle.pac_logon.specs.Referents.{sid_past}

-- the values are let go
abbrev pub gone : {X : Type 0} → Result (X × At) LogonFault → Result (Unit {0} × At) LogonFault
gone read = read >>= λ x. Ok (tt, x.1)

gone_behind : {X : Type 0} (x : X) (read : Result (List X × At) LogonFault) → gone (read >>= λ xs. Ok (x ∷ xs.0, xs.1)) ≡ gone read
gone_behind x (Ok xs) = refl
gone_behind x (Err e) = refl

pub each_gone_on : {H X : Type 0} (layout : H → Layout X) (h : H) (hs : List H) (here after : At) (x : X) (total : Result (Unit {0} × At) LogonFault) → (layout h).reading here ≡ Ok (x, after)
    → gone (each_at layout (h ∷ hs) here) ≡ total → gone (each_at layout hs after) ≡ total
unfolding each_at
each_gone_on layout h hs here after x total read so_far =
    let one : gone (each_at layout (h ∷ hs) here) ≡ gone (each_at layout hs after) = rw read (gone_behind x (each_at layout hs after)) in
    sym one ∙ so_far

pub each_gone_ends : {H X : Type 0} (layout : H → Layout X) (h : H) (hs : List H) (here : At) (e : LogonFault) (total : Result (Unit {0} × At) LogonFault) → (layout h).reading here ≡ Err e
    → gone (each_at layout (h ∷ hs) here) ≡ total → total ≡ Err e
unfolding each_at
each_gone_ends layout h hs here e total read so_far =
    let one : gone (each_at layout (h ∷ hs) here) ≡ Err e = rw read refl in
    sym so_far ∙ one

pub each_gone : {H X : Type 0} (layout : H → Layout X) (here : At) (total : Result (Unit {0} × At) LogonFault) → gone (each_at layout [] here) ≡ total → total ≡ Ok (tt, here)
unfolding each_at
each_gone layout here total so_far = sym so_far

-- ---- SIDs, one for each pointer

pub sid_gone_on : (pointers : List Bool) (i : ℕ) (d : Bool) (here after : At) (x : Unit {0}) (total : Result (Unit {0} × At) LogonFault) → i < length pointers
    → (sid_past (get_or pointers i d)).reading here ≡ Ok (x, after) → gone (each_at sid_past (drop i pointers) here) ≡ total → gone (each_at sid_past (drop (i + 1) pointers) after) ≡ total
sid_gone_on pointers i d here after x total lt read so_far =
    each_gone_on sid_past (get_or pointers i d) (drop (i + 1) pointers) here after x total read (ap (λ (l : List Bool). gone (each_at sid_past l here)) (sym (drop_more pointers i d lt)) ∙ so_far)

pub sid_gone_ends : (pointers : List Bool) (i : ℕ) (d : Bool) (here : At) (e : LogonFault) (total : Result (Unit {0} × At) LogonFault) → i < length pointers
    → (sid_past (get_or pointers i d)).reading here ≡ Err e → gone (each_at sid_past (drop i pointers) here) ≡ total → total ≡ Err e
sid_gone_ends pointers i d here e total lt read so_far =
    each_gone_ends sid_past (get_or pointers i d) (drop (i + 1) pointers) here e total read (ap (λ (l : List Bool). gone (each_at sid_past l here)) (sym (drop_more pointers i d lt)) ∙ so_far)

pub sids_gone : (pointers : List Bool) (i : ℕ) (here : At) (total : Result (Unit {0} × At) LogonFault) → length pointers ≤ i → gone (each_at sid_past (drop i pointers) here) ≡ total → total ≡ Ok (tt, here)
sids_gone pointers i here total le so_far = each_gone sid_past here total (ap (λ (l : List Bool). gone (each_at sid_past l here)) (sym (drop_all i pointers le)) ∙ so_far)

-- ---- a count of values of one layout

pub gone_on : {X : Type 0} (c : Layout X) (count i : ℕ) (here after : At) (x : X) (total : Result (Unit {0} × At) LogonFault) → i < count → c.reading here ≡ Ok (x, after)
    → gone (left c count i here) ≡ total → gone (left c count (i + 1) after) ≡ total
gone_on c count i here after x total lt read so_far =
    let k : count - i ≡ suc (count - (i + 1)) = omega arith in
    each_gone_on (λ (_ : Unit {0}). c) tt (replicate (count - (i + 1)) tt) here after x total read (ap (λ (n : ℕ). gone (each_at (λ (_ : Unit {0}). c) (replicate n tt) here)) (sym k) ∙ so_far)

pub gone_ends : {X : Type 0} (c : Layout X) (count i : ℕ) (here : At) (e : LogonFault) (total : Result (Unit {0} × At) LogonFault) → i < count → c.reading here ≡ Err e
    → gone (left c count i here) ≡ total → total ≡ Err e
gone_ends c count i here e total lt read so_far =
    let k : count - i ≡ suc (count - (i + 1)) = omega arith in
    each_gone_ends (λ (_ : Unit {0}). c) tt (replicate (count - (i + 1)) tt) here e total read (ap (λ (n : ℕ). gone (each_at (λ (_ : Unit {0}). c) (replicate n tt) here)) (sym k) ∙ so_far)

pub all_gone : {X : Type 0} (c : Layout X) (count i : ℕ) (here : At) (total : Result (Unit {0} × At) LogonFault) → count ≤ i → gone (left c count i here) ≡ total → total ≡ Ok (tt, here)
all_gone c count i here total le so_far =
    let k : count - i ≡ 0 = omega arith in
    each_gone (λ (_ : Unit {0}). c) here total (ap (λ (n : ℕ). gone (each_at (λ (_ : Unit {0}). c) (replicate n tt) here)) (sym k) ∙ so_far)

-- the first n of 1,024
pub room_length : (n : ℕ) → n ≤ 1024 → length (take n (replicate 1024 false)) ≡ n
room_length n le = omega (arith, length-take n (replicate 1024 false), length-replicate {A = Bool} 1024 false)
