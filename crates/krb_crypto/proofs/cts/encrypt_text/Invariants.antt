use Rattle.std.proofs.Common.{◌≡◌, ◌-◌, ◌*◌, ◌++◌, length, take, drop, replicate}
use Rattle.aes_core.specs.Cipher.{cipher}
use Rattle.krb_crypto.specs.CiphertextStealing.{encrypt_chain, front_blocks}
use Rattle.krb_crypto.proofs.cts.encrypt_text.Given as goal

abbrev pub invariant-front : goal.invariant-front
invariant-front l =
    take (16 * l.i) l.bytes ++ encrypt_chain (cipher l.schedule) (l.front - l.i) l.before (drop (16 * l.i) l.bytes)
    ≡ encrypt_chain (cipher l.schedule) (front_blocks (length l.fn.bytes)) (replicate 16 0) l.fn.bytes
