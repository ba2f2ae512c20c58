-- Types in ascending order.
use Rattle.std.proofs.Common.{◌≡◌, ℕ, zero, suc, ◌+◌, ◌*◌, ◌^◌, ◌<◌, ◌≤◌, ◌⊎◌, inl, inr, Bool, true, false, ◌&&◌, ◌||◌, List, [], ◌∷◌, ◌++◌, length, take, drop, get_or, set, cond, Option, Some, refl, sym, ap, ◌∙◌, arith}
use Rattle.std.specs.Prelude.{nat_eq, nat_lt, All}
use Rattle.std.specs.List.{list_any}
use Rattle.std.specs.Ordering.{is_lt, nat_cmp, ordering_then}
use Rattle.std.specs.List.Sorted.{IsPermutation, IsSorted, IsNonDecreasingBy}
use Rattle.std.proofs.lemmas.Bool.{ltb-true, ltb-false, lt-ltb, le-ltb, eqb-true, eq-eqb, ne_eqb, cases_order, cases_lt, cases_eq, and_left, and_right, or_from}
use Rattle.std.proofs.lemmas.List.Elements.{All-nil, All-cons}
use Rattle.std.proofs.lemmas.List.{length-take-le, take_more, take_more_set, drop_more}
use Rattle.std.proofs.lemmas.List.Folds.{list_any_none, list_any_at}
use Rattle.std.proofs.lemmas.List.Sorted.{IsNonDecreasingBy-from_all_adjacent, list_any-IsPermutation}
use Rattle.pac_buffers.specs.InfoBuffers.{info_buffer, is_kind}
use Rattle.pac_buffers.specs.Container.{any_entry, has_kind, first_twice}
use Rattle.pac_buffers.specs.Kinds.{numbered, rank, IsAscending}

-- the type, with a number below n
abbrev pub is_earlier : ℕ → ℕ → ℕ × ℕ → Bool
is_earlier kind n x = nat_eq x.0 kind && nat_lt x.1 n

none_earlier : (kind n i : ℕ) (raws : List (List ℕ)) → n ≤ i → list_any (is_earlier kind n) (numbered i raws) ≡ false
none_earlier kind n i [] le = refl
none_earlier kind n i (raw ∷ raws) le =
    or_from _ _ (and_right _ _ (le-ltb _ _ le)) (none_earlier kind n (i + 1) raws (omega arith))

first_true : (a b : Bool) → b ≡ true → (a && b) ≡ a
first_true true b e = e
first_true false b e = refl

-- an entry among the first m
among_first : (kind i m : ℕ) (raws : List (List ℕ)) → list_any (is_earlier kind (i + m)) (numbered i raws) ≡ has_kind kind (take m raws)
among_first kind i zero raws = none_earlier kind (i + 0) i raws (omega arith)
among_first kind i (suc m) [] = refl
among_first kind i (suc m) (raw ∷ raws) =
    let lt : nat_lt i (i + suc m) ≡ true = lt-ltb _ _ (omega arith) in
    let step : i + suc m ≡ (i + 1) + m = omega arith in
    let later : list_any (is_earlier kind (i + suc m)) (numbered (i + 1) raws) ≡ has_kind kind (take m raws) = ap (λ (n : ℕ). list_any (is_earlier kind n) (numbered (i + 1) raws)) step ∙ among_first kind (i + 1) m raws in
    let here : is_earlier kind (i + suc m) ((info_buffer raw).kind, i) ≡ is_kind kind (info_buffer raw) = first_true _ _ lt in
    ap (λ (b : Bool). b || list_any (is_earlier kind (i + suc m)) (numbered (i + 1) raws)) here ∙ ap (λ (b : Bool). is_kind kind (info_buffer raw) || b) later

pub earlier_is : (kind m : ℕ) (raws : List (List ℕ)) (kinds : List (ℕ × ℕ)) → IsPermutation (numbered 0 raws) kinds → list_any (is_earlier kind m) kinds ≡ has_kind kind (take m raws)
earlier_is kind m raws kinds same = sym (list_any-IsPermutation (is_earlier kind m) (numbered 0 raws) kinds same) ∙ ap (λ (n : ℕ). list_any (is_earlier kind n) (numbered 0 raws)) (omega arith) ∙ among_first kind 0 m raws

-- ---- the order

pairs_ascend : (x y : ℕ × ℕ) → x.1 < 2 ^ 32 → y.1 < 2 ^ 32 → is_lt (ordering_then (nat_cmp y.0 x.0) (nat_cmp y.1 x.1)) ≡ false → rank x ≤ rank y
pairs_ascend x y first second not_less =
    elim (cases_order x.0 y.0) [
      | inl same ↦ elim (cases_lt y.1 x.1) [
        | inl lt ↦
            let a : nat_lt y.0 x.0 ≡ false = le-ltb _ _ (omega arith) in
            let b : nat_eq y.0 x.0 ≡ true = eq-eqb _ _ (omega arith) in
            let c : nat_lt y.1 x.1 ≡ true = lt-ltb _ _ lt in
            absurd (let bad = rw (a, b, c) at not_less in cc)
        | inr ge ↦ omega arith
      ]
      | inr other ↦ elim other [
        | inl lt ↦ omega arith
        | inr lt ↦
            let a : nat_lt y.0 x.0 ≡ true = lt-ltb _ _ lt in
            absurd (let bad = rw a at not_less in cc)
      ]
    ]

pub ascending_from_sort : (kinds : List (ℕ × ℕ)) → All (λ x. x.1 < 2 ^ 32) kinds → IsSorted (λ x y. ordering_then (nat_cmp x.0 y.0) (nat_cmp x.1 y.1)) kinds → IsAscending kinds
ascending_from_sort kinds small sorted = record {
  small = small;
  ascending = IsNonDecreasingBy-from_all_adjacent rank kinds (λ k d lt. pairs_ascend (get_or kinds k d) (get_or kinds (k + 1) d) (small k d (omega arith)) (small (k + 1) d lt) (sorted k d (omega arith) lt));
}

-- types alone
pub types_ascend : (kinds : List (ℕ × ℕ)) → IsAscending kinds → IsNonDecreasingBy (λ x. x.0) kinds
types_ascend kinds a i j d le lt =
    let one : rank (get_or kinds i d) ≤ rank (get_or kinds j d) = a.ascending i j d le lt in
    let two : (get_or kinds i d).1 < 2 ^ 32 = a.small i d (omega arith) in
    let three : (get_or kinds j d).1 < 2 ^ 32 = a.small j d lt in
    omega arith

other_type : (kind n : ℕ) (x : ℕ × ℕ) → x.0 < kind → is_earlier kind n x ≡ false
other_type kind n x lt = and_left _ _ (ne_eqb _ _ (λ (e : x.0 ≡ kind). omega arith))

not_earlier : (kind n : ℕ) (x : ℕ × ℕ) → (x.0 ≡ kind → n ≤ x.1) → is_earlier kind n x ≡ false
not_earlier kind n x says =
    elim (cases_eq x.0 kind) [
      | inl same ↦ and_right _ _ (le-ltb _ _ (says same))
      | inr other ↦ and_left _ _ (ne_eqb _ _ other)
    ]

-- none has the type where all come before it
pub none_of_type : (kind n : ℕ) (kinds : List (ℕ × ℕ)) (first : ℕ) → length kinds ≤ first → ((k : ℕ) (d : ℕ × ℕ) → k < first → nat_lt (get_or kinds k d).0 kind ≡ true) → list_any (is_earlier kind n) kinds ≡ false
none_of_type kind n kinds first past before = list_any_none (is_earlier kind n) kinds (λ k d lt. other_type kind n (get_or kinds k d) (ltb-true _ _ (before k d (omega arith))))

-- the first of the type has the least number
pub first_decides : (kind n : ℕ) (kinds : List (ℕ × ℕ)) (first : ℕ) (x : ℕ × ℕ) → IsAscending kinds → first < length kinds → ((d : ℕ × ℕ) → x ≡ get_or kinds first d)
    → ((k : ℕ) (d : ℕ × ℕ) → k < first → nat_lt (get_or kinds k d).0 kind ≡ true) → nat_lt x.0 kind ≡ false → (t : Bool) → t ≡ is_earlier kind n x → t ≡ list_any (is_earlier kind n) kinds
first_decides kind n kinds first x a lt at before here true is = sym (list_any_at (is_earlier kind n) kinds first x lt (ap (is_earlier kind n) (sym (at x)) ∙ sym is))
first_decides kind n kinds first x a lt at before here false is = sym (list_any_none (is_earlier kind n) kinds (λ k d under.
    elim (cases_lt k first) [
      | inl less ↦ other_type kind n (get_or kinds k d) (ltb-true _ _ (before k d less))
      | inr ge ↦
          let y : ℕ × ℕ = get_or kinds k d in
          let ranks : rank (get_or kinds first d) ≤ rank y = a.ascending first k d ge under in
          let own : rank x ≤ rank y = rw (← at d) at ranks in
          let small : y.1 < 2 ^ 32 = a.small k d under in
          let mine : x.1 < 2 ^ 32 = rw (← at d) at (a.small first d lt) in
          let kinds_le : kind ≤ x.0 = ltb-false _ _ here in
          not_earlier kind n y (λ (same : y.0 ≡ kind).
          let x_same : x.0 ≡ kind = omega arith in
          elim (cases_lt x.1 n) [
            | inl less ↦
                let c1 : nat_eq x.0 kind ≡ true = eq-eqb _ _ x_same in
                let c2 : nat_lt x.1 n ≡ true = lt-ltb _ _ less in
                absurd (let bad = rw (c1, c2) at is in cc)
            | inr more ↦ omega arith
          ])
    ]))

-- ---- one more entry

pub numbered_more : (i : ℕ) (raws : List (List ℕ)) (raw : List ℕ) → numbered i (raws ++ raw ∷ []) ≡ numbered i raws ++ ((info_buffer raw).kind, i + length raws) ∷ []
numbered_more i [] raw = ap (λ (n : ℕ). ((info_buffer raw).kind, n) ∷ []) (omega arith)
numbered_more i (r ∷ raws) raw =
    let step : (i + 1) + length raws ≡ i + suc (length raws) = omega arith in
    ap (λ (l : List (ℕ × ℕ)). ((info_buffer r).kind, i) ∷ l) (numbered_more (i + 1) raws raw ∙ ap (λ (n : ℕ). numbered (i + 1) raws ++ ((info_buffer raw).kind, n) ∷ []) step)

pub numbered_small : (i n : ℕ) (raws : List (List ℕ)) → i + length raws ≤ n → All (λ x. x.1 < n) (numbered i raws)
numbered_small i n [] le = All-nil (λ (x : ℕ × ℕ). x.1 < n)
numbered_small i n (raw ∷ raws) le = All-cons (λ (x : ℕ × ℕ). x.1 < n) ((info_buffer raw).kind, i) (numbered (i + 1) raws) (omega arith) (numbered_small (i + 1) n raws (omega arith))

pub written_more : (kinds : List (ℕ × ℕ)) (list : List (List ℕ)) (i kind : ℕ) → i < length kinds → i < length list → take i kinds ≡ numbered 0 (take i list) → kind ≡ (info_buffer (get_or list i [])).kind
    → take (i + 1) (set kinds i (kind, i)) ≡ numbered 0 (take (i + 1) list)
written_more kinds list i kind first second so_far is =
    let raw : List ℕ = get_or list i [] in
    let many : length (take i list) ≡ i = length-take-le i list (omega arith) in
    let pair : (kind, i) ≡ ((info_buffer raw).kind, 0 + length (take i list)) = ap (λ (k : ℕ). (k, i)) is ∙ ap (λ (n : ℕ). ((info_buffer raw).kind, n)) (omega arith) in
    take_more_set kinds i (kind, i) first ∙ ap (λ (l : List (ℕ × ℕ)). l ++ (kind, i) ∷ []) so_far ∙ ap (λ (x : ℕ × ℕ). numbered 0 (take i list) ++ x ∷ []) pair
    ∙ sym (numbered_more 0 (take i list) raw) ∙ ap (numbered 0) (sym (take_more list i [] second))

-- ---- the first type that is listed again

here_or_later : (t : Bool) (kind : ℕ) (rest : Option ℕ) → t ≡ true → cond t (Some kind) rest ≡ Some kind
here_or_later true kind rest e = refl
here_or_later false kind rest e = absurd cc

only_later : (t : Bool) (kind : ℕ) (rest : Option ℕ) → t ≡ false → cond t (Some kind) rest ≡ rest
only_later true kind rest e = absurd cc
only_later false kind rest e = refl

pub twice_here : (list : List (List ℕ)) (i kind : ℕ) → i < length list → kind ≡ (info_buffer (get_or list i [])).kind → has_kind kind (take i list) ≡ true → first_twice (take i list) (drop i list) ≡ Some kind
twice_here list i kind lt is there =
    let raw : List ℕ = get_or list i [] in
    ap (first_twice (take i list)) (drop_more list i [] lt) ∙ here_or_later (has_kind (info_buffer raw).kind (take i list)) (info_buffer raw).kind _ (ap (λ (k : ℕ). has_kind k (take i list)) (sym is) ∙ there) ∙ ap Some (sym is)

pub twice_later : (list : List (List ℕ)) (i kind : ℕ) → i < length list → kind ≡ (info_buffer (get_or list i [])).kind → has_kind kind (take i list) ≡ false → first_twice (take (i + 1) list) (drop (i + 1) list) ≡ first_twice (take i list) (drop i list)
twice_later list i kind lt is none =
    let raw : List ℕ = get_or list i [] in
    sym (ap (first_twice (take i list)) (drop_more list i [] lt) ∙ only_later (has_kind (info_buffer raw).kind (take i list)) (info_buffer raw).kind _ (ap (λ (k : ℕ). has_kind k (take i list)) (sym is) ∙ none)
    ∙ ap (λ (l : List (List ℕ)). first_twice l (drop (i + 1) list)) (sym (take_more list i [] lt)))
