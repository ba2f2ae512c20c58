-- What follows parts that are joined by `/`.
use Rattle.std.proofs.Common.{◌≡◌, ◌≢◌, ◌≤◌, ◌-◌, ◌∷◌, ◌++◌, ◌∙◌, suc, List, ℕ, Bool, true, false, [], length, get_or, take, drop, sym, ap, arith, append_assoc, append-nil, Bor}
use Rattle.std.specs.Prelude.{MatchOption, Option, None, Some, ◌==◌}
use Rattle.std.specs.List.{join_with_byte}
use Rattle.std.proofs.lemmas.Bool.Decides.{Decides-at, Decides-like, same_from_decides}
use Rattle.std.proofs.lemmas.List.{append_cancel_left, take_all}
use Rattle.std.proofs.lemmas.Slice.Eq.{bytes_eq-Decides}
use Rattle.kdc_prelude.specs.Texts.{same_text}

-- the first part and a `/`, and then the others, as where the list is taken apart
joined_more : (parts : List (List ℕ)) (part : List ℕ) → 2 ≤ length parts → part ≡ get_or parts 0 part
    → join_with_byte 47 parts ≡ part ++ (47 ∷ join_with_byte 47 (take (length parts - 1) (drop 1 parts)))
joined_more [] part some e = absurd (omega arith)
joined_more (first ∷ []) part some e = absurd (omega arith)
joined_more (first ∷ second ∷ parts) part some e =
    let same : take (suc (length (second ∷ parts)) - 1) (second ∷ parts) ≡ second ∷ parts = take_all (suc (length (second ∷ parts)) - 1) (second ∷ parts) (omega arith) in
    ap (λ (v : List ℕ). v ++ (47 ∷ join_with_byte 47 (second ∷ parts))) (sym e) ∙ ap (λ (v : List (List ℕ)). part ++ (47 ∷ join_with_byte 47 v)) (sym same)

-- the parts and what follows them, cut behind the first part
joined_cut : (parts : List (List ℕ)) (part rest : List ℕ) → 2 ≤ length parts → part ≡ get_or parts 0 part
    → join_with_byte 47 parts ++ rest ≡ part ++ (47 ∷ (join_with_byte 47 (take (length parts - 1) (drop 1 parts)) ++ rest))
joined_cut parts part rest some e =
    let others = join_with_byte 47 (take (length parts - 1) (drop 1 parts)) in
    ap (λ (v : List ℕ). v ++ rest) (joined_more parts part some e) ∙ append_assoc part (47 ∷ others) rest

-- where no `/` follows the first part, the text does not begin with the parts
pub no_slash : (text part behind : List ℕ) (parts : List (List ℕ)) → 2 ≤ length parts → part ≡ get_or parts 0 part → text ≡ part ++ behind
    → ((rest : List ℕ) → behind ≢ (47 ∷ []) ++ rest) → (rest : List ℕ) → text ≢ join_with_byte 47 parts ++ rest
no_slash text part behind parts some e is none rest whole =
    let others = join_with_byte 47 (take (length parts - 1) (drop 1 parts)) in
    none (others ++ rest) (append_cancel_left part behind (47 ∷ (others ++ rest)) (sym is ∙ whole ∙ joined_cut parts part rest some e))

-- what follows the others, behind the first part and the `/`, follows the parts
pub stripped_more : (r : Option (Bor (List ℕ))) (text part behind_part behind : List ℕ) (parts : List (List ℕ)) → 2 ≤ length parts → part ≡ get_or parts 0 part
    → text ≡ part ++ behind_part → behind_part ≡ (47 ∷ []) ++ behind
    → MatchOption r ((rest : List ℕ) → behind ≢ join_with_byte 47 (take (length parts - 1) (drop 1 parts)) ++ rest)
    (λ rest. behind ≡ join_with_byte 47 (take (length parts - 1) (drop 1 parts)) ++ rest.now)
    → MatchOption r ((rest : List ℕ) → text ≢ join_with_byte 47 parts ++ rest) (λ rest. text ≡ join_with_byte 47 parts ++ rest.now)
stripped_more None text part behind_part behind parts some e is slash none = λ rest whole.
    let others = join_with_byte 47 (take (length parts - 1) (drop 1 parts)) in
    let front = append_cancel_left part behind_part (47 ∷ (others ++ rest)) (sym is ∙ whole ∙ joined_cut parts part rest some e) in
    none rest (append_cancel_left (47 ∷ []) behind (others ++ rest) (sym slash ∙ front))
stripped_more (Some rest) text part behind_part behind parts some e is slash found =
    is ∙ ap (λ (v : List ℕ). part ++ v) (slash ∙ ap (λ (v : List ℕ). 47 ∷ v) found) ∙ sym (joined_cut parts part rest.now some e)

-- ---- the test of a text

agrees : (xs ys : List ℕ) → xs ≡ ys → true ≡ same_text xs ys
agrees xs ys e = sym ((bytes_eq-Decides xs ys).1 e)

differs : (xs ys : List ℕ) → xs ≢ ys → false ≡ same_text xs ys
differs xs ys none = same_from_decides false (same_text xs ys) ((λ t. absurd (cc)), (λ e. absurd (none e))) (bytes_eq-Decides xs ys)

-- a text that is a front and a rest is the front where the rest is empty
pub front_alone : (text front rest : List ℕ) (b : Bool) → text ≡ front ++ rest → b ≡ (length rest == 0) → b ≡ same_text text front
front_alone text front [] b is e = e ∙ agrees text front (is ∙ append-nil front)
front_alone text front (x ∷ rest) b is e =
    let more : b ≡ false = grind (arith, e) in
    more ∙ differs text front (λ same. let none = append_cancel_left front [] (x ∷ rest) (append-nil front ∙ sym same ∙ is) in absurd (cc))

-- a text that does not begin with a front is not the front
pub no_front : (text front : List ℕ) → ((rest : List ℕ) → text ≢ front ++ rest) → false ≡ same_text text front
no_front text front none = differs text front (λ same. none [] (same ∙ sym (append-nil front)))

-- a text that is a front, `@` and a rest is the front, `@` and a realm where the rest is the realm
pub at_is : (text front behind rest realm : List ℕ) (b : Bool) → text ≡ front ++ behind → behind ≡ (64 ∷ []) ++ rest → b ≡ same_text rest realm
    → b ≡ same_text (front ++ (64 ∷ realm)) text
at_is text front behind rest realm b is at e =
    let same = Decides-at b (same_text rest realm) e (bytes_eq-Decides rest realm) in
    let whole = Decides-like b
    (λ (h : rest ≡ realm). ap (λ (v : List ℕ). front ++ (64 ∷ v)) (sym h) ∙ ap (λ (v : List ℕ). front ++ v) (sym at) ∙ sym is)
    (λ (h : front ++ (64 ∷ realm) ≡ text). sym (append_cancel_left (64 ∷ []) realm rest (append_cancel_left front (64 ∷ realm) behind (h ∙ is) ∙ at)))
    same in
    same_from_decides b (same_text (front ++ (64 ∷ realm)) text) whole (bytes_eq-Decides (front ++ (64 ∷ realm)) text)

pub no_at : (text front behind realm : List ℕ) → text ≡ front ++ behind → ((rest : List ℕ) → behind ≢ (64 ∷ []) ++ rest)
    → false ≡ same_text (front ++ (64 ∷ realm)) text
no_at text front behind realm is none =
    differs (front ++ (64 ∷ realm)) text (λ same. none realm (sym (append_cancel_left front (64 ∷ realm) behind (same ∙ is))))
