use Rattle.std.proofs.Common.{◌≡◌, ℤ, ◌<◌, ◌≤◌, ◌^◌, length, to_z, of_z, sym, ap, ◌∙◌, subst}
use Rattle.std.specs.Int.{w32}
use Rattle.krb_tickets.specs.declared.encrypted_data.EncryptedData.{EncryptedData}
use Rattle.krb_tickets.specs.declared.ticket.Ticket.{Ticket}
use Rattle.krb_tickets.specs.Ticket.{ticket}
use Rattle.krb_messages.specs.declared.kdc_rep.KdcRep.{KdcRep}
use Rattle.krb_messages.specs.KdcRep.{kdc_rep}
use Rattle.kdc_records.specs.declared.ticket_rec.TicketRec.{TicketRec}
use Rattle.ticket_parts.specs.Sound.{IsSound}
use Rattle.tgs_core.specs.Grants.{Grant, reply_confounder}
use Rattle.tgs_core.specs.Replies.{reply_key, reply_part, reply_type, sealed_with}
use Rattle.tgs_core.proofs.WrittenReplies.{IsMadeReply, made_reply_fits, made_reply_short, reply_is, type_passed}
use Rattle.tgs_core.proofs.grant.GrantView.make_reply.Goals as goal

pub returns-clause-ok : goal.returns-clause-ok
returns-clause-ok c =
    let g : Grant = c.args.self.now in
    let type : to_z w32 (of_z w32 c.reply_type.result) ≡ reply_type g.grounds =
    ap (λ (z : ℤ). to_z w32 (of_z w32 z)) (c.reply_type.ensures ∙ ap (λ (g : Grant). reply_type g.grounds) c.self.view_is) ∙ type_passed g.grounds in
    reply_is g c.args.random.now c.in_ok-rec.rec _ c.in_ok-reply_padata.field-0 c.in_ok-try_clone.field-0 c.in_ok-ticket.ticket c.in_ok-enc_part.enc_part c.in_ok-rec.ensures.value type
    c.in_ok-reply_padata.ensures c.in_ok-try_clone.ensures.value c.in_ok-ticket.ensures.ok c.in_ok-enc_part.ensures.ok

pub returns-clause-fits : goal.returns-clause-fits
returns-clause-fits c =
    let g : Grant = c.args.self.now in
    let whole = c.in_ok-enc_part.ensures.ok ∙ ap (λ (t : TicketRec). sealed_with (reply_key g.grounds) (reply_confounder c.args.random.now) (reply_part g t)) c.in_ok-rec.ensures.value in
    let made : IsMadeReply g c.args.random.now = record {
      given = c.keeps_grant.ensures;
      record_is = subst IsSound c.in_ok-rec.ensures.value c.in_ok-rec.ensures.sound;
      ticket_fits = subst ticket.Fits c.in_ok-ticket.ensures.ok c.in_ok-ticket.ensures.fits;
      ticket_short = subst (λ (t : Ticket). length (ticket.spelling t) < 2 ^ 25) c.in_ok-ticket.ensures.ok c.in_ok-ticket.ensures.short;
      cipher = subst (λ (x : EncryptedData). length x.cipher ≤ 4124) whole c.in_ok-enc_part.ensures.short;
    } in
    let type : to_z w32 (of_z w32 c.reply_type.result) ≡ reply_type g.grounds =
    ap (λ (z : ℤ). to_z w32 (of_z w32 z)) (c.reply_type.ensures ∙ ap (λ (g : Grant). reply_type g.grounds) c.self.view_is) ∙ type_passed g.grounds in
    let is = reply_is g c.args.random.now c.in_ok-rec.rec _ c.in_ok-reply_padata.field-0 c.in_ok-try_clone.field-0 c.in_ok-ticket.ticket c.in_ok-enc_part.enc_part c.in_ok-rec.ensures.value type
    c.in_ok-reply_padata.ensures c.in_ok-try_clone.ensures.value c.in_ok-ticket.ensures.ok c.in_ok-enc_part.ensures.ok in
    subst kdc_rep.Fits (sym is) (made_reply_fits g c.args.random.now made)

pub returns-clause-short : goal.returns-clause-short
returns-clause-short c =
    let g : Grant = c.args.self.now in
    let whole = c.in_ok-enc_part.ensures.ok ∙ ap (λ (t : TicketRec). sealed_with (reply_key g.grounds) (reply_confounder c.args.random.now) (reply_part g t)) c.in_ok-rec.ensures.value in
    let made : IsMadeReply g c.args.random.now = record {
      given = c.keeps_grant.ensures;
      record_is = subst IsSound c.in_ok-rec.ensures.value c.in_ok-rec.ensures.sound;
      ticket_fits = subst ticket.Fits c.in_ok-ticket.ensures.ok c.in_ok-ticket.ensures.fits;
      ticket_short = subst (λ (t : Ticket). length (ticket.spelling t) < 2 ^ 25) c.in_ok-ticket.ensures.ok c.in_ok-ticket.ensures.short;
      cipher = subst (λ (x : EncryptedData). length x.cipher ≤ 4124) whole c.in_ok-enc_part.ensures.short;
    } in
    let type : to_z w32 (of_z w32 c.reply_type.result) ≡ reply_type g.grounds =
    ap (λ (z : ℤ). to_z w32 (of_z w32 z)) (c.reply_type.ensures ∙ ap (λ (g : Grant). reply_type g.grounds) c.self.view_is) ∙ type_passed g.grounds in
    let is = reply_is g c.args.random.now c.in_ok-rec.rec _ c.in_ok-reply_padata.field-0 c.in_ok-try_clone.field-0 c.in_ok-ticket.ticket c.in_ok-enc_part.enc_part c.in_ok-rec.ensures.value type
    c.in_ok-reply_padata.ensures c.in_ok-try_clone.ensures.value c.in_ok-ticket.ensures.ok c.in_ok-enc_part.ensures.ok in
    subst (λ (x : KdcRep). length (kdc_rep.spelling x) < 2 ^ 31) (sym is) (made_reply_short g c.args.random.now made)
