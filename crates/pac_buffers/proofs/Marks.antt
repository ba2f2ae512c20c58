-- Marks of bytes.
use Rattle.std.proofs.Common.{◌≡◌, ℕ, suc, ◌+◌, ◌*◌, ◌<◌, ◌≤◌, ◌⊎◌, inl, inr, Bool, true, false, not, ◌&&◌, ◌||◌, List, [], ◌∷◌, ◌++◌, length, take, drop, get_or, refl, sym, ap, ◌∙◌, arith}
use Rattle.std.specs.Prelude.{nat_le, nat_lt}
use Rattle.std.proofs.lemmas.Bool.{ltb-true, ltb-false, lt-ltb, le-ltb, le-leb, lt-leb, cases_lt, and_from, and_parts, leb-true, or_right}
use Rattle.std.proofs.lemmas.List.{drop_more, take_more}
use Rattle.std.proofs.lemmas.List.Folds.{list_any_more}
use Rattle.pac_buffers.specs.declared.info_buffer.InfoBuffer.{InfoBuffer}
use Rattle.pac_buffers.specs.InfoBuffers.{info_buffer, end_of, share_byte}
use Rattle.pac_buffers.specs.Container.{any_entry, overlap}
use Rattle.pac_buffers.specs.SharedBytes.{has_byte, is_shared}
use Rattle.pac_buffers.proofs.Shared.{overlaps}

at_least : (a b : ℕ) → nat_le a b ≡ not (nat_lt b a)
at_least a b =
    elim (cases_lt b a) [
      | inl lt ↦ let x = lt-leb a b lt in let y = lt-ltb b a lt in rw (x, y) refl
      | inr ge ↦ let x = le-leb a b ge in let y = le-ltb b a ge in rw (x, y) refl
    ]

-- the marks of a buffer are those of its bytes
pub marks_are : (e : InfoBuffer) (place from to k : ℕ) → nat_lt k from ≡ nat_lt place e.offset → nat_lt k to ≡ nat_lt place (end_of e) → (nat_le from k && nat_lt k to) ≡ has_byte place e
marks_are e place from to k first second =
    ap (λ (t : Bool). t && nat_lt k to) (at_least from k ∙ ap not first ∙ sym (at_least e.offset place)) ∙ ap (λ (t : Bool). nat_le e.offset place && t) second

-- one more entry is marked
pub marked_more : (place i : ℕ) (d : List ℕ) (list : List (List ℕ)) (old new own : Bool) → i < length list → old ≡ any_entry (has_byte place) (take i list) → own ≡ has_byte place (info_buffer (get_or list i d)) → new ≡ (old || own)
    → new ≡ any_entry (has_byte place) (take (i + 1) list)
marked_more place i d list old new own lt was is both =
    both ∙ ap (λ (t : Bool). t || own) was ∙ ap (λ (t : Bool). any_entry (has_byte place) (take i list) || t) is ∙ sym (list_any_more (λ (raw : List ℕ). has_byte place (info_buffer raw)) list i d lt)

-- no earlier entry has a byte of this one
pub shared_more : (place i : ℕ) (d : List ℕ) (list : List (List ℕ)) → i < length list → (has_byte place (info_buffer (get_or list i d)) && any_entry (has_byte place) (take i list)) ≡ false
    → is_shared place (take i list) (drop i list) ≡ is_shared place (take (i + 1) list) (drop (i + 1) list)
shared_more place i d list lt none =
    let raw : List ℕ = get_or list i d in
    ap (is_shared place (take i list)) (drop_more list i d lt) ∙ ap (λ (t : Bool). t || is_shared place (take i list ++ raw ∷ []) (drop (i + 1) list)) none
    ∙ ap (λ (l : List (List ℕ)). is_shared place l (drop (i + 1) list)) (sym (take_more list i d lt))

pub found_overlap : (place i : ℕ) (d : List ℕ) (list : List (List ℕ)) → i < length list → has_byte place (info_buffer (get_or list i d)) ≡ true → any_entry (has_byte place) (take i list) ≡ true → overlap (take i list) (drop i list) ≡ true
found_overlap place i d list lt own there = ap (overlap (take i list)) (drop_more list i d lt) ∙ overlaps place (get_or list i d) (take i list) (drop (i + 1) list) own there

not_both : (own was : Bool) → (own ≡ true → was ≡ false) → (own && was) ≡ false
not_both true was says = says refl
not_both false was says = refl

-- a byte of the buffer that was not marked is in no earlier entry
pub not_earlier : (e : InfoBuffer) (place from to k : ℕ) (old was : Bool) → nat_lt k from ≡ nat_lt place e.offset → nat_lt k to ≡ nat_lt place (end_of e) → (from ≤ k → k < to → old ≡ false) → old ≡ was → (has_byte place e && was) ≡ false
not_earlier e place from to k old was first second apart is =
    not_both (has_byte place e) was (λ own.
    let t = and_parts (nat_le from k) (nat_lt k to) (marks_are e place from to k first second ∙ own) in
    sym is ∙ apart (leb-true _ _ t.0) (ltb-true _ _ t.1))

-- later pairs are pairs
pub pairs_more : (i : ℕ) (d : List ℕ) (list : List (List ℕ)) → i < length list → overlap (take (i + 1) list) (drop (i + 1) list) ≡ true → overlap (take i list) (drop i list) ≡ true
pairs_more i d list lt more =
    ap (overlap (take i list)) (drop_more list i d lt) ∙ or_right (any_entry (share_byte (info_buffer (get_or list i d))) (take i list)) _ (ap (λ (l : List (List ℕ)). overlap l (drop (i + 1) list)) (sym (take_more list i d lt)) ∙ more)
