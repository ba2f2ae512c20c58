use Rattle.std.proofs.Common.{◌≡◌, ℕ, List, ◌∙◌, length, arith, bit_xor, replicate, refl}
use Rattle.aes_core.specs.Cipher.{inv_cipher}
use Rattle.std.proofs.lemmas.Simd.{length-zip2}
use Rattle.aes_core.specs.Aes.{add}
use Rattle.krb_crypto.specs.CiphertextStealing.{front_blocks}
use Rattle.krb_crypto.proofs.CtsSteps.{decrypt_step, decrypt_one, decrypt_more, decrypt_start, decrypt_end}
use Rattle.krb_crypto.proofs.cts.decrypt_text.Goals as goal

pub returns-then-bytes-eq16 : goal.returns-then-bytes-eq16
returns-then-bytes-eq16 c =
    let d : List ℕ → List ℕ = inv_cipher c.args.schedule.now in
    let next : List ℕ = c.decrypt_next.new.before in
    let block : List ℕ = add (d next) (replicate 16 0) in
    let len : length block ≡ 16 = length-zip2 bit_xor (d next) (replicate 16 0) c.decrypt_next.ensures.length ∙ c.decrypt_next.ensures.length in
    decrypt_one d c.args.bytes.now next block _ c.if-bytes-eq16.true len c.decrypt_next.ensures.block refl c.decrypt_next.ensures.length c.decrypt_next.ensures.text

pub front-init : goal.front-init
front-init c = decrypt_start (inv_cipher c.args.schedule.now) (front_blocks (length c.args.bytes.now)) _ c.args.bytes.now

pub front-preserved : goal.front-preserved
front-preserved c =
    let d : List ℕ → List ℕ = inv_cipher c.args.schedule.now in
    let next : List ℕ = c.decrypt_next-in-front.new.before in
    let block : List ℕ = add (d next) c.front.before in
    decrypt_step d (front_blocks (length c.args.bytes.now)) c.front.i c.front.before c.front.bytes block next _
    c.front-test.true (omega arith) c.decrypt_next-in-front.ensures.whole c.decrypt_next-in-front.ensures.block refl c.decrypt_next-in-front.ensures.text
    ∙ c.front.invariant

pub returns : goal.returns
returns c =
    decrypt_more (inv_cipher c.args.schedule.now) c.args.bytes.now _ c.if-bytes-eq16.false
    (decrypt_end (inv_cipher c.args.schedule.now) (front_blocks (length c.args.bytes.now)) c.front.i c.front.before c.front.bytes c.decrypt_last.new.last _
    (omega arith) (omega arith) c.decrypt_last.ensures c.front.invariant)
