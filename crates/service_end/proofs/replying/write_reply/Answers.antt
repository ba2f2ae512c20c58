use Rattle.std.proofs.Common.{◌<◌, ◌^◌, length, subst, sym}
use Rattle.krb_messages.specs.declared.ap_rep.ApRep.{ApRep}
use Rattle.krb_messages.specs.ApRep.{ap_rep}
use Rattle.service_end.proofs.ReplyForms.{reply_fits, reply_short}
use Rattle.service_end.proofs.replying.write_reply.Goals as goal

pub write-requires-clause-fits : goal.write-requires-clause-fits
write-requires-clause-fits c = subst ap_rep.Fits (sym c.reply_with-reply.ensures) (reply_fits c.args.key.now c.args.cipher)

pub write-requires-clause-short : goal.write-requires-clause-short
write-requires-clause-short c =
    subst (λ (reply : ApRep). length (ap_rep.spelling reply) < 2 ^ 32) (sym c.reply_with-reply.ensures) (reply_short c.args.key.now c.args.cipher c.requires)
