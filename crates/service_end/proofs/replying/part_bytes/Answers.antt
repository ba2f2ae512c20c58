use Rattle.std.proofs.Common.{◌≡◌, ◌<◌, ◌^◌, length, subst, sym, arith}
use Rattle.std.specs.Prelude.{IfOk}
use Rattle.krb_messages.specs.declared.enc_ap_rep.EncApRep.{EncApRep}
use Rattle.krb_messages.specs.EncApRep.{enc_ap_rep}
use Rattle.service_end.proofs.ReplyForms.{part_fits, part_short, short_part}
use Rattle.service_end.proofs.replying.part_bytes.Goals as goal

pub write-requires-clause-fits : goal.write-requires-clause-fits
write-requires-clause-fits c = subst enc_ap_rep.Fits (sym c.reply_part-part.ensures) (part_fits c.args.auth.now c.requires)

pub write-requires-clause-short : goal.write-requires-clause-short
write-requires-clause-short c =
    let few = part_short c.args.auth.now c.requires in
    subst (λ (part : EncApRep). length (enc_ap_rep.spelling part) < 2 ^ 32) (sym c.reply_part-part.ensures) (omega (arith, few))

pub returns-clause-short : goal.returns-clause-short
returns-clause-short c =
    let ok = subst (λ (part : EncApRep). IfOk c.write.result (λ bytes. bytes ≡ enc_ap_rep.spelling part)) c.reply_part-part.ensures c.write.ensures.ok in
    short_part c.write.result c.args.auth.now c.requires ok
