use Rattle.std.proofs.Common.{◌≡◌, ℕ, ◌+◌, ◌*◌, ◌<◌, ◌≤◌, length, take, drop, get_or}
use Rattle.krb_crypto.specs.Folding.{bits, binary, copies}
use Rattle.krb_crypto.proofs.n_fold.piece_at.Given as goal

abbrev pub invariant-loop-k : goal.invariant-loop-k
invariant-loop-k l = (length l.piece ≡ 64) × ((count k : ℕ) → l.from + l.n ≤ count * length l.text → k < l.k
    → get_or l.piece k 0 ≡ binary (take 8 (drop (8 * (l.from + k)) (copies count (bits l.text)))))
