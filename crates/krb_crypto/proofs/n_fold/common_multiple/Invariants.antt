use Rattle.std.proofs.Common.{◌≡◌, ℕ, ◌*◌, ◌%◌, ◌<◌, ◌≤◌, nat_eq, false}
use Rattle.krb_crypto.proofs.n_fold.common_multiple.Given as goal

abbrev pub invariant-loop-k : goal.invariant-loop-k
invariant-loop-k l = (j : ℕ) → 1 ≤ j → j < l.k → nat_eq (j * l.n % l.m) 0 ≡ false
