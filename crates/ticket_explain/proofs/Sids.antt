-- The text of an account's SID is the realm's, and its number.
use Rattle.std.proofs.Common.{◌≡◌, List, ℕ, [], ◌∷◌, ◌++◌, ap, sym, ◌∙◌, append_assoc, append-nil}
use Rattle.std.specs.Prelude.{codes, decimal}
use Rattle.std.specs.List.{flat_map}
use Rattle.std.proofs.lemmas.List.Concat.{flat_map-append}
use Rattle.krb_names.specs.SidValue.{SidValue, followed_by, numbers_text, sid_text}

one_more : (numbers : List ℕ) (n : ℕ) → numbers_text (numbers ++ n ∷ []) ≡ numbers_text numbers ++ 45 ∷ decimal n
one_more numbers n =
    flat_map-append (λ number. 45 ∷ decimal number) numbers (n ∷ [])
    ∙ ap (λ (v : List ℕ). numbers_text numbers ++ v) (append-nil (45 ∷ decimal n))

pub sid_followed : (sid : SidValue) (n : ℕ) → sid_text (followed_by sid n) ≡ sid_text sid ++ 45 ∷ decimal n
unfolding sid_text
sid_followed sid n =
    ap (λ (v : List ℕ). (codes "S-1-" ++ decimal sid.authority) ++ v) (one_more sid.numbers n)
    ∙ sym (append_assoc (codes "S-1-" ++ decimal sid.authority) (numbers_text sid.numbers) (45 ∷ decimal n))
