use Rattle.std.proofs.Common.{◌≡◌, ℕ, ◌*◌, ◌%◌, nat_eq, true, arith, ap, sym, unwrap_or}
use native.Mathlib.Nat.{mul-mod_right}
use Rattle.krb_crypto.specs.Folding.{common_multiple}
use Rattle.krb_crypto.proofs.Copies.{find_first}
use Rattle.krb_crypto.proofs.n_fold.common_multiple.Goals as goal

pub returns-then-k-n-eq0-clause-value : goal.returns-then-k-n-eq0-clause-value
unfolding common_multiple
returns-then-k-n-eq0-clause-value c =
    let m : ℕ = c.args.m in
    let n : ℕ = c.args.n in
    let k : ℕ = c.loop-k.k in
    let here : nat_eq (k * n % m) 0 ≡ true = ap (λ r. nat_eq r 0) c.if-k-n-eq0.true in
    sym (ap (λ o. unwrap_or o 0) (find_first (λ l. nat_eq (l % m) 0) (λ j. j * n) 1 m k (omega arith) (omega arith) c.loop-k.invariant here))

pub returns-clause-value : goal.returns-clause-value
unfolding common_multiple
returns-clause-value c =
    let m : ℕ = c.args.m in
    let n : ℕ = c.args.n in
    let here : nat_eq (m * n % m) 0 ≡ true = ap (λ r. nat_eq r 0) (mul-mod_right m n) in
    sym (ap (λ o. unwrap_or o 0) (find_first (λ l. nat_eq (l % m) 0) (λ j. j * n) 1 m m (omega arith) (omega arith) (λ j a b. c.loop-k.invariant j a (omega arith)) here))
