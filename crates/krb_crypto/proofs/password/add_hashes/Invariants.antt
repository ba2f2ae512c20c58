use Rattle.std.proofs.Common.{◌≡◌, ℕ, ◌<◌, length, get_or, bit_xor}
use Rattle.krb_crypto.proofs.password.add_hashes.Given as goal

abbrev pub invariant-loop-k : goal.invariant-loop-k
invariant-loop-k l = (length l.sum ≡ 20) × ((i : ℕ) → i < l.k → get_or l.sum i 0 ≡ bit_xor (get_or l.a i 0) (get_or l.b i 0))
