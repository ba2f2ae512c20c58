use Rattle.std.proofs.Common.{◌≡◌, ◌-◌, ◌++◌}
use Rattle.std.specs.Int.{w32, to_be_bytes}
use Rattle.krb_crypto.specs.KeyedHash.{hmac_sha1}
use Rattle.krb_crypto.specs.Passwords.{nth_hash, sum_of_hashes}
use Rattle.krb_crypto.proofs.password.pbkdf2_block.Given as goal

abbrev pub invariant-rounds : goal.invariant-rounds
invariant-rounds l =
    (l.hash ≡ nth_hash l.password (hmac_sha1 l.password (l.salt ++ to_be_bytes w32 l.i)) (l.counter - 1))
    × (l.sum ≡ sum_of_hashes l.password (hmac_sha1 l.password (l.salt ++ to_be_bytes w32 l.i)) (l.counter - 1))
