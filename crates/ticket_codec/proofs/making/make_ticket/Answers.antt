use Rattle.std.proofs.Common.{◌≡◌, ℕ, ◌+◌, ◌<◌, ◌^◌, List, length, ap, ◌∙◌, subst, arith}
use Rattle.std.specs.Prelude.{IfOk}
use Rattle.krb_crypto.specs.Encryption.{seal}
use Rattle.krb_tickets.specs.declared.ticket.Ticket.{Ticket}
use Rattle.krb_tickets.specs.EncTicketPart.{enc_ticket_part}
use Rattle.krb_tickets.specs.Ticket.{ticket}
use Rattle.ticket_parts.proofs.Calls.{if_ok}
use Rattle.ticket_parts.proofs.Written.{part_short}
use Rattle.ticket_codec.specs.Made.{ticket_with}
use Rattle.ticket_codec.proofs.Makes.{with_fits, with_short}
use Rattle.ticket_codec.proofs.making.make_ticket.Goals as goal

pub returns-clause-ok : goal.returns-clause-ok
returns-clause-ok c =
    let holder = c.args.holder_key.now in
    let conf : List ℕ = c.args.conf.now in
    let bytes = c.as_slice.ensures ∙ c.in_ok-text.ensures.ok ∙ ap enc_ticket_part.spelling c.in_ok-part.ensures.ok in
    let sealed = c.in_ok-cipher.ensures.value ∙ ap (seal holder 2 conf) bytes in
    subst (λ (cipher : List ℕ). IfOk c.ticket_with.result (λ made. made ≡ ticket_with c.args.rec.now.holder c.args.sname.now c.args.issuer.now holder cipher)) sealed c.ticket_with.ensures.value

pub returns-clause-fits : goal.returns-clause-fits
returns-clause-fits c =
    let holder = c.args.holder_key.now in
    if_ok ticket.Fits c.ticket_with.result (ticket_with c.args.rec.now.holder c.args.sname.now c.args.issuer.now holder c.in_ok-cipher.cipher) c.ticket_with.ensures.value
    (with_fits c.args.rec.now.holder c.args.sname.now c.args.issuer.now holder c.in_ok-cipher.cipher c.requires.name c.ticket_with.ensures.few c.in_ok-cipher.ensures.well)

pub returns-clause-short : goal.returns-clause-short
returns-clause-short c =
    let holder = c.args.holder_key.now in
    let bytes = c.as_slice.ensures ∙ c.in_ok-text.ensures.ok ∙ ap enc_ticket_part.spelling c.in_ok-part.ensures.ok in
    let few = part_short c.args.rec.now holder c.args.realm_key.now c.requires.sound in
    let short : length c.in_ok-cipher.cipher < 2 ^ 24 + 28 = omega (arith, c.in_ok-cipher.ensures.size, ap length bytes, few) in
    if_ok (λ (made : Ticket). length (ticket.spelling made) < 2 ^ 25) c.ticket_with.result (ticket_with c.args.rec.now.holder c.args.sname.now c.args.issuer.now holder c.in_ok-cipher.cipher) c.ticket_with.ensures.value
    (with_short c.args.rec.now.holder c.args.sname.now c.args.issuer.now holder c.in_ok-cipher.cipher c.requires.name c.ticket_with.ensures.few c.in_ok-cipher.ensures.well short)
