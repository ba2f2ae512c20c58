use Rattle.std.proofs.Common.{◌≡◌, ℕ, ◌<◌, length, get_or, bit_xor}
use Rattle.krb_crypto.proofs.hmac.padded.Given as goal

abbrev pub invariant-loop-k : goal.invariant-loop-k
invariant-loop-k l = (length l.sums ≡ 64) × ((i : ℕ) → i < l.k → get_or l.sums i 0 ≡ bit_xor (get_or l.block i 0) l.byte)
