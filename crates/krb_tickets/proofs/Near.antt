-- What is read is written in few more bytes.
use Rattle.std.proofs.Common.{ℕ, ◌+◌, ◌≤◌, List, length, Result, Ok, Err, arith}
use Rattle.std.specs.Prelude.{IfOk}
use Rattle.der_core.specs.Codec.{Codec}
use Rattle.der_core.specs.Laws.{IsBytes}
use Rattle.der_forms.specs.Growths.{Grows}

pub is_near : {X E : Type 0} (k : ℕ) (c : Codec X) (bytes : List ℕ) (r : Result X E) → Grows k c → IsBytes bytes → IfOk r (λ x. c.IsDer bytes x)
    → IfOk r (λ x. length (c.spelling x) ≤ length bytes + k)
is_near k c bytes (Ok x) grows are_bytes d = grows.at_most bytes x are_bytes d
is_near k c bytes (Err fault) grows are_bytes d = tt

pub is_no_longer : {X E : Type 0} (c : Codec X) (bytes : List ℕ) (r : Result X E) → Grows 0 c → IsBytes bytes → IfOk r (λ x. c.IsDer bytes x)
    → IfOk r (λ x. length (c.spelling x) ≤ length bytes)
is_no_longer c bytes (Ok x) grows are_bytes d = let same = grows.at_most bytes x are_bytes d in omega (arith, same)
is_no_longer c bytes (Err fault) grows are_bytes d = tt
