use Rattle.std.proofs.Common.{◌∙◌, length, arith}
use Rattle.aes_core.specs.Cipher.{cipher}
use Rattle.krb_crypto.specs.CiphertextStealing.{front_blocks}
use Rattle.krb_crypto.proofs.CtsSteps.{encrypt_step, encrypt_one, encrypt_more, encrypt_start, encrypt_end}
use Rattle.krb_crypto.proofs.cts.encrypt_text.Goals as goal

pub returns-then-bytes-eq16 : goal.returns-then-bytes-eq16
returns-then-bytes-eq16 c =
    encrypt_one (cipher c.args.schedule.now) c.args.bytes.now c.encrypt_next.new.before _ c.if-bytes-eq16.true c.encrypt_next.ensures.block c.encrypt_next.ensures.text

pub front-init : goal.front-init
front-init c = encrypt_start (cipher c.args.schedule.now) (front_blocks (length c.args.bytes.now)) _ c.args.bytes.now

pub front-preserved : goal.front-preserved
front-preserved c =
    encrypt_step (cipher c.args.schedule.now) (front_blocks (length c.args.bytes.now)) c.front.i c.front.before c.front.bytes c.encrypt_next-in-front.new.before _
    c.front-test.true (omega arith) c.encrypt_next-in-front.array_long c.encrypt_next-in-front.ensures.block c.encrypt_next-in-front.ensures.text
    ∙ c.front.invariant

pub returns : goal.returns
returns c =
    encrypt_more (cipher c.args.schedule.now) c.args.bytes.now _ c.if-bytes-eq16.false
    (encrypt_end (cipher c.args.schedule.now) (front_blocks (length c.args.bytes.now)) c.front.i c.front.before c.front.bytes c.encrypt_last.new.last _
    (omega arith) (omega arith) c.encrypt_last.ensures c.front.invariant)
