use Rattle.std.proofs.Common.{◌≡◌, ◌∙◌, ℕ, ap, sym}
use Rattle.der_core.specs.Codec.{whole}
use Rattle.krb_messages.specs.PaEncTsEnc.{pa_enc_ts_enc}
use Rattle.as_core.specs.Stamps.{At, stamp_told}
use Rattle.as_core.proofs.Told.{told_refused, told_whole}
use Rattle.as_core.proofs.timestamp.read_text.Goals as goal

pub returns-in-Ok : goal.returns-in-Ok
returns-in-Ok c = ap At c.made_at.ensures ∙ sym (ap stamp_told (told_whole (whole pa_enc_ts_enc c.args.text.now) c.in-Ok.stamp c.in-Ok.ensures.exact))

pub returns-in-Err-Malformed : goal.returns-in-Err-Malformed
returns-in-Err-Malformed c =
    let refused = told_refused (whole pa_enc_ts_enc c.args.text.now) c.in-Err-Malformed.field-0-0 (rw c.in-Err-Malformed.field-0-is at c.in-Err-Malformed.ensures.exact) in
    sym (ap stamp_told refused.is)
