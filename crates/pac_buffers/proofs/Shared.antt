-- Buffers that start at multiples of 8 share a byte exactly where they share one whose place is a multiple of 8.
use Rattle.std.proofs.Common.{◌≡◌, ℕ, ◌+◌, ◌%◌, ◌<◌, ◌≤◌, ◌⊎◌, inl, inr, Bool, true, false, not, ◌&&◌, ◌||◌, List, [], ◌∷◌, ◌++◌, refl, sym, ap, ◌∙◌, arith}
use Rattle.std.specs.Prelude.{nat_eq, nat_le, nat_lt}
use Rattle.std.proofs.lemmas.Bool.{ltb-true, ltb-false, leb-true, lt-ltb, le-leb, eqb-true, not-false, and_parts, and_from, and_cases, or_parts, or_from, or_left, or_right, or_cases, cases_lt, both_ways, false_from_ne_true}
use Rattle.std.proofs.lemmas.List.Folds.{list_any-append}
use Rattle.pac_buffers.specs.declared.info_buffer.InfoBuffer.{InfoBuffer}
use Rattle.pac_buffers.specs.InfoBuffers.{info_buffer, end_of, leaves, is_misaligned, share_byte}
use Rattle.pac_buffers.specs.Container.{any_entry, overlap}
use Rattle.pac_buffers.specs.SharedBytes.{has_byte, is_shared}

within : (at : ℕ) (e : InfoBuffer) → has_byte at e ≡ true → (e.offset ≤ at) × (at < end_of e)
within at e h = let t = and_parts (nat_le e.offset at) (nat_lt at (end_of e)) h in (leb-true _ _ t.0, ltb-true _ _ t.1)

has : (at : ℕ) (e : InfoBuffer) → e.offset ≤ at → at < end_of e → has_byte at e ≡ true
has at e le lt = and_from _ _ (le-leb _ _ le) (lt-ltb _ _ lt)

both_share : (at : ℕ) (a b : InfoBuffer) → has_byte at a ≡ true → has_byte at b ≡ true → share_byte a b ≡ true
both_share at a b first second =
    let x = within at a first in
    let y = within at b second in
    let sizes : 0 < a.size = omega arith in
    let others : 0 < b.size = omega arith in
    let before : a.offset < end_of b = omega arith in
    let after : b.offset < end_of a = omega arith in
    and_from _ _ (and_from _ _ (and_from _ _ (lt-ltb _ _ sizes) (lt-ltb _ _ others)) (lt-ltb _ _ before)) (lt-ltb _ _ after)

-- one that has a byte of an earlier one shares it
pub shares : (at : ℕ) (e : InfoBuffer) (earlier : List (List ℕ)) → has_byte at e ≡ true → any_entry (has_byte at) earlier ≡ true → any_entry (share_byte e) earlier ≡ true
shares at e [] own there = absurd cc
shares at e (raw ∷ raws) own there =
    elim (or_cases (has_byte at (info_buffer raw)) (any_entry (has_byte at) raws) there) [
      | inl here ↦ or_left _ _ (both_share at e (info_buffer raw) own here)
      | inr later ↦ or_right _ _ (shares at e raws own later)
    ]

pub overlaps : (at : ℕ) (raw : List ℕ) (earlier raws : List (List ℕ)) → has_byte at (info_buffer raw) ≡ true → any_entry (has_byte at) earlier ≡ true → overlap earlier (raw ∷ raws) ≡ true
overlaps at raw earlier raws own there = or_left _ _ (shares at (info_buffer raw) earlier own there)

-- a byte of both whose place is a multiple of 8
common : (len : ℕ) (a b : InfoBuffer) → a.offset % 8 ≡ 0 → b.offset % 8 ≡ 0 → end_of a ≤ len → share_byte a b ≡ true
    → (at : ℕ) × (at < len) × (at % 8 ≡ 0) × (has_byte at a ≡ true) × (has_byte at b ≡ true)
common len a b first second le share =
    let t = and_parts _ (nat_lt b.offset (end_of a)) share in
    let u = and_parts _ (nat_lt a.offset (end_of b)) t.0 in
    let v = and_parts (nat_lt 0 a.size) (nat_lt 0 b.size) u.0 in
    let lt1 : b.offset < end_of a = ltb-true _ _ t.1 in
    let lt2 : a.offset < end_of b = ltb-true _ _ u.1 in
    let lt3 : 0 < a.size = ltb-true _ _ v.0 in
    let lt4 : 0 < b.size = ltb-true _ _ v.1 in
    elim (cases_lt a.offset b.offset) [
      | inl lt ↦ (b.offset, omega arith, second, has b.offset a (omega arith) lt1, has b.offset b (omega arith) (omega arith))
      | inr ge ↦ (a.offset, omega arith, first, has a.offset a (omega arith) (omega arith), has a.offset b ge lt2)
    ]

aligned : (e : InfoBuffer) → is_misaligned e ≡ false → e.offset % 8 ≡ 0
aligned e h = eqb-true _ _ (not-false (nat_eq (e.offset % 8) 0) h)

none_common : (at : ℕ) (e d : InfoBuffer) (ds : List (List ℕ)) → (has_byte at e && (has_byte at d || any_entry (has_byte at) ds)) ≡ false → has_byte at e ≡ true → has_byte at d ≡ true → ⊥
none_common at e d ds none own there = both_ways _ none (and_from _ _ own (or_left _ _ there))

rest_common : (x y z : Bool) → (x && (y || z)) ≡ false → (x && z) ≡ false
rest_common true true z none = absurd cc
rest_common true false z none = none
rest_common false y z none = refl

none_shared : (len : ℕ) (e : InfoBuffer) (earlier : List (List ℕ)) → e.offset % 8 ≡ 0 → end_of e ≤ len → any_entry is_misaligned earlier ≡ false
    → ((at : ℕ) → at < len → at % 8 ≡ 0 → (has_byte at e && any_entry (has_byte at) earlier) ≡ false) → any_entry (share_byte e) earlier ≡ false
none_shared len e [] eighth le aligns none = refl
none_shared len e (raw ∷ raws) eighth le aligns none =
    let d : InfoBuffer = info_buffer raw in
    let t = or_parts (is_misaligned d) (any_entry is_misaligned raws) aligns in
    let here : share_byte e d ≡ false = false_from_ne_true _ (λ share.
    let found = common len e d eighth (aligned d t.0) le share in
    none_common found.0 e d raws (none found.0 found.1 found.2) found.3 found.4) in
    or_from _ _ here (none_shared len e raws eighth le t.1 (λ at lt at8. rest_common (has_byte at e) (has_byte at d) (any_entry (has_byte at) raws) (none at lt at8)))

pub none_overlap : (len : ℕ) (earlier raws : List (List ℕ)) → any_entry (leaves len) raws ≡ false → any_entry is_misaligned earlier ≡ false → any_entry is_misaligned raws ≡ false
    → ((at : ℕ) → at < len → at % 8 ≡ 0 → is_shared at earlier raws ≡ false) → overlap earlier raws ≡ false
none_overlap len earlier [] within before aligns none = refl
none_overlap len earlier (raw ∷ raws) within before aligns none =
    let e : InfoBuffer = info_buffer raw in
    let w = or_parts (leaves len e) (any_entry (leaves len) raws) within in
    let t = or_parts (is_misaligned e) (any_entry is_misaligned raws) aligns in
    let le : end_of e ≤ len = ltb-false _ _ w.0 in
    let split : (at : ℕ) → at < len → at % 8 ≡ 0 → ((has_byte at e && any_entry (has_byte at) earlier) ≡ false) × (is_shared at (earlier ++ raw ∷ []) raws ≡ false) =
    λ at lt at8. or_parts (has_byte at e && any_entry (has_byte at) earlier) (is_shared at (earlier ++ raw ∷ []) raws) (none at lt at8) in
    let here : any_entry (share_byte e) earlier ≡ false = none_shared len e earlier (aligned e t.0) le before (λ at lt at8. (split at lt at8).0) in
    let more : any_entry is_misaligned (earlier ++ raw ∷ []) ≡ false = list_any-append (λ (r : List ℕ). is_misaligned (info_buffer r)) earlier (raw ∷ []) ∙ or_from _ _ before (or_from _ _ t.0 refl) in
    or_from _ _ here (none_overlap len (earlier ++ raw ∷ []) raws w.1 more t.1 (λ at lt at8. (split at lt at8).1))
