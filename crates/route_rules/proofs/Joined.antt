-- Parts that are joined by `/`.
use Rattle.std.proofs.Common.{◌≡◌, ◌≤◌, ◌-◌, ◌∷◌, ◌++◌, ◌∙◌, suc, List, ℕ, [], length, get_or, take, drop, sym, ap, subst, arith}
use Rattle.std.specs.Prelude.{Option, None, Some, IfSome}
use Rattle.std.specs.List.{join_with_byte}
use Rattle.std.specs.Str.{IsUtf8}
use Rattle.std.proofs.lemmas.List.{take_all}
use Rattle.std.proofs.lemmas.Str.{IsUtf8-append}

-- the first part and a `/`, and then the others, as where the list is taken apart
pub joined_more : (parts : List (List ℕ)) (part : List ℕ) → 2 ≤ length parts → part ≡ get_or parts 0 part
    → join_with_byte 47 parts ≡ part ++ (47 ∷ join_with_byte 47 (take (length parts - 1) (drop 1 parts)))
joined_more [] part some e = absurd (omega arith)
joined_more (first ∷ []) part some e = absurd (omega arith)
joined_more (first ∷ second ∷ parts) part some e =
    let same : take (suc (length (second ∷ parts)) - 1) (second ∷ parts) ≡ second ∷ parts = take_all (suc (length (second ∷ parts)) - 1) (second ∷ parts) (omega arith) in
    ap (λ (v : List ℕ). v ++ (47 ∷ join_with_byte 47 (second ∷ parts))) (sym e) ∙ ap (λ (v : List (List ℕ)). part ++ (47 ∷ join_with_byte 47 v)) (sym same)

-- they are a text where the first and the others are
joined_text : (parts : List (List ℕ)) (part : List ℕ) → 2 ≤ length parts → part ≡ get_or parts 0 part
    → IsUtf8 part → IsUtf8 (47 ∷ []) → IsUtf8 (join_with_byte 47 (take (length parts - 1) (drop 1 parts))) → IsUtf8 (join_with_byte 47 parts)
joined_text parts part some e front slash rest =
    let others = join_with_byte 47 (take (length parts - 1) (drop 1 parts)) in
    subst IsUtf8 (sym (joined_more parts part some e)) (IsUtf8-append part (47 ∷ others) front (IsUtf8-append (47 ∷ []) others slash rest))

pub joined_text_if : (r : Option ℕ) (parts : List (List ℕ)) (part : List ℕ) → 2 ≤ length parts → part ≡ get_or parts 0 part
    → IsUtf8 part → IsUtf8 (47 ∷ []) → IfSome r (λ _. IsUtf8 (join_with_byte 47 (take (length parts - 1) (drop 1 parts)))) → IfSome r (λ _. IsUtf8 (join_with_byte 47 parts))
joined_text_if None parts part some e front slash rest = tt
joined_text_if (Some n) parts part some e front slash rest = joined_text parts part some e front slash rest
