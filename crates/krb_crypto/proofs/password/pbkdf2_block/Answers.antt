use Rattle.std.proofs.Common.{◌≡◌, ℕ, ◌-◌, List, ◌++◌, ap, ◌∙◌, arith, subst, append_assoc}
use Rattle.std.specs.Int.{w32, to_be_bytes}
use Rattle.sha1.specs.Sha1.{Holds, sha1}
use Rattle.krb_crypto.specs.KeyedHash.{pad, hmac_sha1}
use Rattle.krb_crypto.specs.Passwords.{nth_hash, sum_of_hashes}
use Rattle.krb_crypto.proofs.Hashes.{hash_more, sum_more}
use Rattle.krb_crypto.proofs.password.pbkdf2_block.Goals as goal

pub rounds-init : goal.rounds-init
unfolding nth_hash sum_of_hashes
rounds-init c =
    let password : List ℕ = c.args.password.now in
    let salt : List ℕ = c.args.salt.now in
    let start : List ℕ = pad sha1 0x36 password in
    let number : List ℕ = c.to_be_bytes.result in
    let held : Holds c.update-2.new.self (start ++ (salt ++ number)) =
    subst (Holds c.update-2.new.self) (append_assoc start salt number) (c.update-2.ensures (start ++ salt) (c.update.ensures start c.start_hmac-inner.ensures)) in
    let first : c.finish_hmac-hash.result ≡ hmac_sha1 password (salt ++ to_be_bytes w32 c.args.i) =
    c.finish_hmac-hash.ensures (salt ++ number) held ∙ ap (λ t. hmac_sha1 password (salt ++ t)) c.to_be_bytes.ensures in
    (first, first)

pub rounds-preserved : goal.rounds-preserved
rounds-preserved c =
    let password : List ℕ = c.args.password.now in
    let next = hash_more password (hmac_sha1 password (c.args.salt.now ++ to_be_bytes w32 c.args.i)) c.rounds.hash c.hmac_sha1-next.result c.rounds.counter (omega arith) c.rounds.invariant.0 c.hmac_sha1-next.ensures in
    (next, sum_more password (hmac_sha1 password (c.args.salt.now ++ to_be_bytes w32 c.args.i)) c.rounds.sum c.hmac_sha1-next.result c.add_hashes-sum.result c.rounds.counter (omega arith) c.rounds.invariant.1 next c.add_hashes-sum.ensures)

pub returns : goal.returns
returns c =
    let last : c.rounds.counter - 1 ≡ c.args.rounds - 1 = omega arith in
    c.rounds.invariant.1 ∙ (λ t. sum_of_hashes c.args.password.now (hmac_sha1 c.args.password.now (c.args.salt.now ++ to_be_bytes w32 c.args.i)) (last t))
