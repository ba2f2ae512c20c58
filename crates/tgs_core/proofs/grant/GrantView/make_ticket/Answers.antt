use Rattle.std.proofs.Common.{◌≡◌, sym}
use Rattle.krb_tickets.specs.declared.ticket.Ticket.{Ticket}
use Rattle.ticket_codec.specs.Made.{ticket_of}
use Rattle.ticket_parts.proofs.Calls.{if_ok}
use Rattle.tgs_core.specs.Replies.{ticket_made}
use Rattle.tgs_core.proofs.grant.GrantView.make_ticket.Goals as goal

pub returns-clause-ok : goal.returns-clause-ok
returns-clause-ok c =
    let g = c.args.self.now in
    if_ok (λ (made : Ticket). made ≡ ticket_made g c.args.random.now) c.make_ticket.result
    (ticket_of c.args.rec.now g.server g.realm.name g.holding.key.key g.realm.krbtgt.key c.ticket_confounder.result) (rw (sym c.self.view_is) c.make_ticket.ensures.ok)
    (λ i. ticket_of (c.requires.value i) g.server g.realm.name g.holding.key.key g.realm.krbtgt.key (c.ticket_confounder.ensures i))
