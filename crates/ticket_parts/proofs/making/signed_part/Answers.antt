use Rattle.std.proofs.Common.{◌≡◌, ℕ, ◌<◌, ◌^◌, Bool, true, cond, List, [], ◌∷◌, length, Option, Some, None, sym, ap, subst, ◌∙◌}
use Rattle.krb_tickets.specs.declared.enc_ticket_part.EncTicketPart.{EncTicketPart}
use Rattle.krb_tickets.specs.EncTicketPart.{enc_ticket_part}
use Rattle.ticket_parts.specs.Parts.{is_service, part_with}
use Rattle.ticket_parts.proofs.Written.{zeroed_few, zeroed_written}
use Rattle.ticket_parts.proofs.making.signed_part.Goals as goal

pub write_part-requires-clause-fits : goal.write_part-requires-clause-fits
write_part-requires-clause-fits c = subst enc_ticket_part.Fits (sym c.in_ok-zeroed.ensures) (zeroed_written c.args.rec.now c.requires)

pub write_part-requires-clause-short : goal.write_part-requires-clause-short
write_part-requires-clause-short c =
    let short : length (enc_ticket_part.spelling (part_with (0 ∷ []) c.args.rec.now)) < 2 ^ 31 = zeroed_few c.args.rec.now c.requires in
    subst (λ (p : EncTicketPart). length (enc_ticket_part.spelling p) < 2 ^ 31) (sym c.in_ok-zeroed.ensures) short

pub returns : goal.returns
returns c =
    let service : is_service c.args.rec.now.holder ≡ true = sym c.is_service.ensures ∙ c.if-not-is_service.false in
    let text : Option (List ℕ) = Some (enc_ticket_part.spelling (part_with (0 ∷ []) c.args.rec.now)) in
    ap (λ (bytes : List ℕ). let over : Option (List ℕ) = Some bytes in over) (c.in_ok-write_part.ensures.ok ∙ ap enc_ticket_part.spelling c.in_ok-zeroed.ensures)
    ∙ sym (ap (λ (b : Bool). cond b text None) service)
