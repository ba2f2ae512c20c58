use Rattle.std.proofs.Common.{ℕ, ◌<◌, ◌≤◌, ◌^◌, List, length, sym, subst, arith}
use Rattle.krb_messages.specs.declared.enc_kdc_rep.EncKdcRep.{EncKdcRep}
use Rattle.krb_messages.specs.EncKdcRep.{enc_kdc_rep}
use Rattle.ticket_parts.proofs.Calls.{if_ok}
use Rattle.tgs_core.proofs.WrittenReplies.{reply_part_fits, reply_part_short}
use Rattle.tgs_core.proofs.grant.GrantView.part_bytes.Goals as goal

pub write-requires-clause-fits : goal.write-requires-clause-fits
write-requires-clause-fits c = subst enc_kdc_rep.Fits (sym c.in_ok-part.ensures) (reply_part_fits c.args.self.now c.args.rec.now c.keeps_grant.ensures c.requires)

pub write-requires-clause-short : goal.write-requires-clause-short
write-requires-clause-short c =
    let few = reply_part_short c.args.self.now c.args.rec.now c.keeps_grant.ensures c.requires in
    subst (λ (p : EncKdcRep). length (enc_kdc_rep.spelling p) < 2 ^ 32) (sym c.in_ok-part.ensures) (omega (arith, few))

pub returns-clause-short : goal.returns-clause-short
returns-clause-short c =
    let few = reply_part_short c.args.self.now c.args.rec.now c.keeps_grant.ensures c.requires in
    if_ok (λ (bytes : List ℕ). length bytes ≤ 4096) c.write.result (enc_kdc_rep.spelling c.in_ok-part.part) c.write.ensures.ok
    (subst (λ (p : EncKdcRep). length (enc_kdc_rep.spelling p) ≤ 4096) (sym c.in_ok-part.ensures) few)
