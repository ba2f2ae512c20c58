-- Lemmas on known bytes that are read and written piece by piece.
use Rattle.std.proofs.Common.{◌≡◌, ◌+◌, ◌-◌, ◌++◌, ◌∙◌, ℕ, List, length, take, drop, sym, ap, append_assoc}
use Rattle.std.specs.Prelude.{Option, None, Some}
use Rattle.std.specs.Io.KnownBytes.{Appends, Consumes}
use Rattle.std.proofs.Math.Seq.{take-add, take-length}
use Rattle.std.proofs.lemmas.List.{length-drop}

-- the whole of what follows a place
rest_slice : (xs : List ℕ) (at : ℕ) → take (length xs - at) (drop at xs) ≡ drop at xs
rest_slice xs at = ap (λ n. take n (drop at xs)) (sym (length-drop at xs)) ∙ take-length (drop at xs)

pub appends_more : (a b c : Option (List ℕ)) (piece : List ℕ) (at n : ℕ) → Appends a b (take at piece) → Appends b c (take n (take (length piece - at) (drop at piece))) → Appends a c (take (at + n) piece)
appends_more None b c piece at n p q = tt
appends_more (Some x) None c piece at n p q = absurd p
appends_more (Some x) (Some y) None piece at n p q = absurd q
appends_more (Some x) (Some y) (Some z) piece at n p q =
    q ∙ ap (λ front. front ++ take n (take (length piece - at) (drop at piece))) p
    ∙ append_assoc x (take at piece) (take n (take (length piece - at) (drop at piece)))
    ∙ ap (λ rest. x ++ (take at piece ++ take n rest)) (rest_slice piece at)
    ∙ ap (λ l. x ++ l) (sym (take-add at n piece))

-- two pieces that are read one after the other are read together
pub consumes_more : (a b c : Option (List ℕ)) (front piece : List ℕ) → Consumes a b front → Consumes b c piece → Consumes a c (front ++ piece)
consumes_more None b c front piece p q = tt
consumes_more (Some x) None c front piece p q = absurd p
consumes_more (Some x) (Some y) None front piece p q = absurd q
consumes_more (Some x) (Some y) (Some z) front piece p q = p ∙ ap (λ rest. front ++ rest) q ∙ sym (append_assoc front piece z)
