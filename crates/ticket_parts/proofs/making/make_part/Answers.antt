use Rattle.std.proofs.Common.{◌≡◌, ℕ, ◌<◌, ◌^◌, List, length, Option, sym, ap, subst, ◌∙◌}
use Rattle.std.specs.Prelude.{IfOk}
use Rattle.krb_names.specs.declared.key.Key.{Key}
use Rattle.krb_tickets.specs.declared.enc_ticket_part.EncTicketPart.{EncTicketPart}
use Rattle.krb_tickets.specs.EncTicketPart.{enc_ticket_part}
use Rattle.pac_buffers.specs.Buffers.{Buffer, pac}
use Rattle.pac_sign.specs.Signed.{signed}
use Rattle.kdc_records.specs.declared.ticket_rec.TicketRec.{TicketRec}
use Rattle.ticket_parts.specs.Parts.{part, part_with, signed_pac, signed_part, unsigned_pac}
use Rattle.ticket_parts.proofs.Calls.{if_ok}
use Rattle.ticket_parts.proofs.Written.{part_short, part_written, signed_pac_few}
use Rattle.ticket_parts.proofs.making.make_part.Goals as goal

signed_is : (t : TicketRec) (holder realm : Key) (over : Option (List ℕ)) (before after : List Buffer) (bytes : List ℕ) → bytes ≡ pac after → after ≡ signed holder realm over before → over ≡ signed_part t → before ≡ unsigned_pac t holder realm
    → bytes ≡ pac (signed_pac t holder realm)
unfolding signed_pac
signed_is t holder realm over before after bytes one two three four =
    one ∙ ap pac (two ∙ ap (λ (o : Option (List ℕ)). signed holder realm o before) three ∙ ap (signed holder realm (signed_part t)) four)

pub part_with-requires : goal.part_with-requires
part_with-requires c =
    let t = c.args.rec.now in
    let holder = c.args.holder_key.now in
    let realm = c.args.realm_key.now in
    let is = signed_is t holder realm _ c.in_ok-pac.pac c.sign.new.pac c.as_slice.result.now c.as_slice.ensures.value c.sign.ensures.value (c.lent.ensures ∙ c.in_ok-signed.ensures) c.in_ok-pac.ensures in
    subst (λ (bytes : List ℕ). length bytes < 2 ^ 31) (sym is) (signed_pac_few t holder realm c.requires)

pub returns-clause-ok : goal.returns-clause-ok
unfolding part
returns-clause-ok c =
    let t = c.args.rec.now in
    let holder = c.args.holder_key.now in
    let realm = c.args.realm_key.now in
    let is = signed_is t holder realm _ c.in_ok-pac.pac c.sign.new.pac c.as_slice.result.now c.as_slice.ensures.value c.sign.ensures.value (c.lent.ensures ∙ c.in_ok-signed.ensures) c.in_ok-pac.ensures in
    subst (λ (bytes : List ℕ). IfOk c.part_with.result (λ made. made ≡ part_with bytes t)) is c.part_with.ensures

pub returns-clause-fits : goal.returns-clause-fits
returns-clause-fits c =
    let t = c.args.rec.now in
    let holder = c.args.holder_key.now in
    let realm = c.args.realm_key.now in
    if_ok enc_ticket_part.Fits c.part_with.result (part t holder realm) (returns-clause-ok c) (part_written t holder realm c.requires)

pub returns-clause-short : goal.returns-clause-short
returns-clause-short c =
    let t = c.args.rec.now in
    let holder = c.args.holder_key.now in
    let realm = c.args.realm_key.now in
    if_ok (λ (p : EncTicketPart). length (enc_ticket_part.spelling p) < 2 ^ 24) c.part_with.result (part t holder realm) (returns-clause-ok c) (part_short t holder realm c.requires)
