use Rattle.std.proofs.Common.{ℕ, ◌-◌, ◌≤◌, List, ◌++◌, length, take}
use Rattle.sha1.specs.Sha1.{Holds}
use Rattle.krb_crypto.specs.Checksums.{zeroed}
use Rattle.krb_crypto.proofs.zeros.hash_zeroed.Given as goal

abbrev pub invariant-pieces : goal.invariant-pieces
invariant-pieces l = (l.at ≤ length l.text)
    × ((m : List ℕ) → Holds l.fn.inner m → Holds l.inner (m ++ take l.at (zeroed l.second.start l.second.end (zeroed l.first.start l.first.end l.text))))

abbrev pub decreases-pieces : goal.decreases-pieces
decreases-pieces l = length l.text - l.at
