-- Lemmas on the front of bytes.
use Rattle.std.proofs.Common.{◌≡◌, ◌∙◌, ℕ, ◌+◌, ◌<◌, ◌≤◌, List, [], ◌∷◌, ◌++◌, take, drop, length, refl, sym, ap, append_assoc, append-nil, arith, length-append, true, false, inl, inr}
use Rattle.std.specs.Prelude.{◌⊎◌, nat_lt, nat_eq}
use Rattle.std.specs.Int.{from_be_bytes, w32}
use Rattle.std.proofs.lemmas.Bool.{cases_lt}
use Rattle.std.proofs.lemmas.List.{length-take-le, take-append-drop}
use Rattle.std.proofs.lemmas.Bool.Decides.{nat_tests}
use Rattle.std.proofs.Math.Seq.{drop-append_seam}
use lib.Seq.{take-append_seam}
use Rattle.kdc_frames.specs.Frames.{Front, End, Cut, TooLong, Whole, body_of, front_of, is_partial}

lt_true : (a b : ℕ) → a < b → nat_lt a b ≡ true
lt_true a b h = grind (arith, nat_tests)

lt_false : (a b : ℕ) → b ≤ a → nat_lt a b ≡ false
lt_false a b h = grind (arith, nat_tests)

eq_false : (a : ℕ) → 0 < a → nat_eq a 0 ≡ false
eq_false a h = grind (arith, nat_tests)

pub body_long : (said : ℕ) (bytes : List ℕ) → 131072 < said → body_of said bytes ≡ TooLong bytes
body_long said bytes h = rw (lt_true 131072 said h)

pub body_cut : (said : ℕ) (bytes : List ℕ) → said ≤ 131072 → length bytes < said → body_of said bytes ≡ Cut
body_cut said bytes h short = rw (lt_false 131072 said h, lt_true (length bytes) said short)

pub body_whole : (message bytes : List ℕ) → length message ≤ 131072 → body_of (length message) (message ++ bytes) ≡ Whole message bytes
body_whole message bytes h =
    let enough : nat_lt (length (message ++ bytes)) (length message) ≡ false = lt_false _ _ (omega (arith, length-append message bytes)) in
    rw (lt_false 131072 (length message) h, enough, take-append_seam message bytes, drop-append_seam message bytes)

pub body_empty : (bytes : List ℕ) → body_of 0 bytes ≡ Whole [] bytes
body_empty bytes = body_whole [] bytes (omega arith)

pub front_end : front_of [] ≡ End
unfolding front_of
front_end = refl

pub front_cut : (bytes : List ℕ) → 0 < length bytes → length bytes < 4 → front_of bytes ≡ Cut
unfolding front_of
front_cut bytes some few = rw (eq_false (length bytes) some, lt_true (length bytes) 4 few)

pub front_body : (head bytes : List ℕ) → length head ≡ 4 → front_of (head ++ bytes) ≡ body_of (from_be_bytes w32 head) bytes
unfolding front_of
front_body head bytes four =
    let all : length (head ++ bytes) ≡ 4 + length bytes = omega (arith, length-append head bytes) in
    let some : nat_eq (length (head ++ bytes)) 0 ≡ false = eq_false _ (omega arith) in
    let enough : nat_lt (length (head ++ bytes)) 4 ≡ false = lt_false _ _ (omega arith) in
    let front : take 4 (head ++ bytes) ≡ head = ap (λ n. take n (head ++ bytes)) (sym four) ∙ take-append_seam head bytes in
    let rest : drop 4 (head ++ bytes) ≡ bytes = ap (λ n. drop n (head ++ bytes)) (sym four) ∙ drop-append_seam head bytes in
    rw (some, enough, front, rest)

body_split : (said : ℕ) (bytes : List ℕ) → said ≤ 131072 → said ≤ length bytes → body_of said bytes ≡ Whole (take said bytes) (drop said bytes)
body_split said bytes fits enough = rw (lt_false 131072 said fits, lt_false (length bytes) said enough)

-- bytes that begin with a whole frame, or with a head that says too much: a piece of them does, whatever follows it
pub record Piece (bytes rest : List ℕ) (with_rest : List ℕ → Front) : Type 0 where
  pub piece : List ℕ
  pub whole : bytes ≡ piece ++ rest
  pub each : (more : List ℕ) → front_of (piece ++ more) ≡ with_rest more

no_front : (bytes : List ℕ) → length bytes < 4 → (front_of bytes ≡ End) ⊎ (front_of bytes ≡ Cut)
no_front bytes few =
    elim (cases_lt 0 (length bytes)) [
      | inl some ↦ inr (front_cut bytes some few)
      | inr none ↦ inl (nothing bytes none)
    ]
  where
    nothing : (bytes : List ℕ) → length bytes ≤ 0 → front_of bytes ≡ End
    nothing [] none = front_end
    nothing (b ∷ bs) none = absurd (omega arith)

head_of : (bytes : List ℕ) → 4 ≤ length bytes → length (take 4 bytes) ≡ 4
head_of bytes enough = length-take-le 4 bytes enough

front_split : (bytes : List ℕ) → 4 ≤ length bytes → front_of bytes ≡ body_of (from_be_bytes w32 (take 4 bytes)) (drop 4 bytes)
front_split bytes enough = ap front_of (sym (take-append-drop 4 bytes)) ∙ front_body (take 4 bytes) (drop 4 bytes) (head_of bytes enough)

long_piece : (head body rest : List ℕ) → length head ≡ 4 → body_of (from_be_bytes w32 head) body ≡ TooLong rest → Piece (head ++ body) rest TooLong
long_piece head body rest four is =
    elim (cases_lt 131072 (from_be_bytes w32 head)) [
      | inl long ↦ record {
        piece = head;
        whole = let same : body ≡ rest = (let e = body_long (from_be_bytes w32 head) body long in cc) in ap (λ l. head ++ l) same;
        each = λ more. front_body head more four ∙ body_long (from_be_bytes w32 head) more long;
      }
      | inr fits ↦ absurd (not_long (from_be_bytes w32 head) body rest fits is)
    ]
  where
    not_long : (said : ℕ) (body rest : List ℕ) → said ≤ 131072 → body_of said body ≡ TooLong rest → ⊥
    not_long said body rest fits is =
        elim (cases_lt (length body) said) [
          | inl few ↦ (let e = body_cut said body fits few in cc)
          | inr enough ↦ (let e = body_split said body fits enough in cc)
        ]

pub piece_long : (bytes rest : List ℕ) → front_of bytes ≡ TooLong rest → Piece bytes rest TooLong
piece_long bytes rest is =
    elim (cases_lt (length bytes) 4) [
      | inl few ↦ absurd (elim (no_front bytes few) [ inl e ↦ (cc) | inr e ↦ (cc) ])
      | inr enough ↦
          rw (take-append-drop 4 bytes) at (long_piece (take 4 bytes) (drop 4 bytes) rest (head_of bytes enough) (sym (front_split bytes enough) ∙ is))
    ]

whole_piece : (head body message rest : List ℕ) → length head ≡ 4 → body_of (from_be_bytes w32 head) body ≡ Whole message rest → Piece (head ++ body) rest (Whole message)
whole_piece head body message rest four is =
    elim (cases_lt 131072 (from_be_bytes w32 head)) [
      | inl long ↦ absurd (let e = body_long (from_be_bytes w32 head) body long in cc)
      | inr fits ↦ elim (cases_lt (length body) (from_be_bytes w32 head)) [
        | inl few ↦ absurd (let e = body_cut (from_be_bytes w32 head) body fits few in cc)
        | inr enough ↦ whole_so head body message rest four fits enough (sym (body_split (from_be_bytes w32 head) body fits enough) ∙ is)
      ]
    ]
  where
    whole_so : (head body message rest : List ℕ) → length head ≡ 4 → from_be_bytes w32 head ≤ 131072 → from_be_bytes w32 head ≤ length body
        → Whole (take (from_be_bytes w32 head) body) (drop (from_be_bytes w32 head) body) ≡ Whole message rest → Piece (head ++ body) rest (Whole message)
    whole_so head body message rest four fits enough is =
        let said = from_be_bytes w32 head in
        let front : take said body ≡ message = cc in
        let back : drop said body ≡ rest = cc in
        let length_is : length message ≡ said = ap length (sym front) ∙ length-take-le said body enough in
        record {
          piece = head ++ message;
          whole = ap (λ l. head ++ l) (sym (take-append-drop said body) ∙ ap (λ l. l ++ drop said body) front ∙ ap (λ l. message ++ l) back) ∙ sym (append_assoc head message rest);
          each = λ more. ap front_of (append_assoc head message more) ∙ front_body head (message ++ more) four ∙ ap (λ n. body_of n (message ++ more)) (sym length_is) ∙ body_whole message more (omega arith);
        }

pub piece_whole : (bytes message rest : List ℕ) → front_of bytes ≡ Whole message rest → Piece bytes rest (Whole message)
piece_whole bytes message rest is =
    elim (cases_lt (length bytes) 4) [
      | inl few ↦ absurd (elim (no_front bytes few) [ inl e ↦ (cc) | inr e ↦ (cc) ])
      | inr enough ↦
          rw (take-append-drop 4 bytes) at (whole_piece (take 4 bytes) (drop 4 bytes) message rest (head_of bytes enough) (sym (front_split bytes enough) ∙ is))
    ]
