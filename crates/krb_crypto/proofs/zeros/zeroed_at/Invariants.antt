use Rattle.std.proofs.Common.{◌≡◌, ℕ, ◌+◌, ◌<◌, length, get_or}
use Rattle.krb_crypto.specs.Checksums.{zeroed}
use Rattle.krb_crypto.proofs.zeros.zeroed_at.Given as goal

abbrev pub invariant-loop-k : goal.invariant-loop-k
invariant-loop-k l = (length l.block ≡ 64)
    × ((j : ℕ) → j < l.k → get_or l.block j 0 ≡ get_or (zeroed l.second.start l.second.end (zeroed l.first.start l.first.end l.text)) (l.at + j) 0)
