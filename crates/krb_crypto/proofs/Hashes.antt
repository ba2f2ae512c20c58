-- One more round of PBKDF2.
use Rattle.std.proofs.Common.{◌≡◌, ℕ, suc, ◌+◌, ◌-◌, ◌≤◌, List, ap, sym, ◌∙◌, arith}
use Rattle.aes_core.specs.Aes.{add}
use Rattle.krb_crypto.specs.KeyedHash.{hmac_sha1}
use Rattle.krb_crypto.specs.Passwords.{nth_hash, sum_of_hashes}

pub hash_more : (password first hash next : List ℕ) (k : ℕ) → 1 ≤ k → hash ≡ nth_hash password first (k - 1) → next ≡ hmac_sha1 password hash
    → next ≡ nth_hash password first (k + 1 - 1)
unfolding nth_hash
hash_more password first hash next k h eh en =
    let more : suc (k - 1) ≡ k + 1 - 1 = omega arith in
    en ∙ ap (hmac_sha1 password) eh ∙ (λ i. nth_hash password first (more i))

pub sum_more : (password first sum next total : List ℕ) (k : ℕ) → 1 ≤ k → sum ≡ sum_of_hashes password first (k - 1) → next ≡ nth_hash password first (k + 1 - 1)
    → total ≡ add sum next → total ≡ sum_of_hashes password first (k + 1 - 1)
unfolding sum_of_hashes
sum_more password first sum next total k h es en et =
    let more : suc (k - 1) ≡ k + 1 - 1 = omega arith in
    et ∙ (λ i. add (es i) ((en ∙ (λ j. nth_hash password first (sym more j))) i)) ∙ (λ i. sum_of_hashes password first (more i))
