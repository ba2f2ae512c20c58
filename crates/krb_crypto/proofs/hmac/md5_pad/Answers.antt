use Rattle.std.proofs.Common.{◌≡◌, ◌-◌, ◌++◌, ◌∙◌, length, map, replicate, nat_lt, true, false, bit_xor}
use Rattle.std.proofs.lemmas.Bool.{lt-ltb, le-ltb}
use Rattle.krb_crypto.specs.KeyedHash.{pad}
use Rattle.krb_crypto.proofs.hmac.md5_pad.Goals as goal

pub returns-then-key-gt64 : goal.returns-then-key-gt64
unfolding pad
returns-then-key-gt64 c =
    let long : nat_lt 64 (length c.args.key.now) ≡ true = lt-ltb 64 (length c.args.key.now) c.if-key-gt64.true in
    rw long (c.padded.ensures ∙ (λ i. map (λ x. bit_xor x c.args.byte) (c.digest.ensures i ++ replicate (64 - length (c.digest.ensures i)) 0)))

pub returns-else-key-gt64 : goal.returns-else-key-gt64
unfolding pad
returns-else-key-gt64 c =
    let short : nat_lt 64 (length c.args.key.now) ≡ false = le-ltb 64 (length c.args.key.now) c.if-key-gt64.false in
    rw short c.padded-else-key-gt64.ensures
