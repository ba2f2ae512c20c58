use Rattle.std.proofs.Common.{◌≡◌, ◌-◌, ◌*◌, ◌++◌, length, take, drop, replicate}
use Rattle.aes_core.specs.Cipher.{inv_cipher}
use Rattle.krb_crypto.specs.CiphertextStealing.{decrypt_chain, front_blocks}
use Rattle.krb_crypto.proofs.cts.decrypt_text.Given as goal

abbrev pub invariant-front : goal.invariant-front
invariant-front l =
    take (16 * l.i) l.bytes ++ decrypt_chain (inv_cipher l.schedule) (l.front - l.i) l.before (drop (16 * l.i) l.bytes)
    ≡ decrypt_chain (inv_cipher l.schedule) (front_blocks (length l.fn.bytes)) (replicate 16 0) l.fn.bytes
