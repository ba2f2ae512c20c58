-- What calls answer.
use Rattle.std.proofs.Common.{◌≡◌, ℕ, ◌⊎◌, ℤ, pos, to_z, of_z, Bool, List, Option, sym, subst}
use Rattle.std.specs.Prelude.{Result, Ok, Err, IfOk}
use Rattle.std.specs.Int.{w32}
use Rattle.krb_names.specs.declared.etype.Etype.{Etype}
use Rattle.pac_buffers.specs.Buffers.{built}
use Rattle.pac_buffers.proofs.Built.{type_again}
use Rattle.pac_sign.specs.Sums.{sum_type}
use Rattle.ticket_parts.proofs.Contents.{type_is}

-- what holds of the one value that may be answered
pub if_ok : {X E : Type 0} (P : X → Type 0) (r : Result X E) (x : X) → IfOk r (λ y. y ≡ x) → P x → IfOk r P
if_ok P (Ok y) x e h = subst P (sym e) h
if_ok P (Err fault) x e h = tt

-- the type of a checksum as it is passed on
pub type_passed : (e : Etype) (z : ℤ) → z ≡ pos (sum_type e) → to_z w32 (of_z w32 z) ≡ pos (sum_type e)
type_passed e z is =
    let P : ℤ → Type 0 = λ y. to_z w32 (of_z w32 y) ≡ pos (sum_type e) in
    subst P (sym is) (type_again (pos (sum_type e)) (type_is e))

pub type_may_pass : (e : Etype) (z : ℤ) → z ≡ pos (sum_type e) → (to_z w32 (of_z w32 z) ≡ pos 15) ⊎ (to_z w32 (of_z w32 z) ≡ pos 16)
type_may_pass e z is = subst (λ (y : ℤ). (y ≡ pos 15) ⊎ (y ≡ pos 16)) (sym (type_passed e z is)) (type_is e)

pub built_same : (a a' b b' : List ℕ) (d d' : Option (List ℕ)) (k k' : Bool) (s s' r r' : ℤ) → a ≡ a' → b ≡ b' → d ≡ d' → k ≡ k' → s ≡ s' → r ≡ r' → built a b d k s r ≡ built a' b' d' k' s' r'
built_same a a' b b' d d' k k' s s' r r' one two three four five six = cc
