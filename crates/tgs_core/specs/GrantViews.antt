-- A grant as the records of a directory, a request and its header have it.
use Rattle.std.specs.Option.{option_copied}
use Rattle.tgs_core.specs.declared.grant.GrantView.TheInside.{Inside}
use Rattle.tgs_core.specs.declared.grounds.GroundsView.{GroundsView}
use Rattle.tgs_core.specs.declared.grounds.GroundsView.TheVariants as views
use Rattle.tgs_core.specs.declared.grounds.ShownTicketView.{ShownTicketView}
use Rattle.tgs_core.specs.declared.grounds.PresentedView.{PresentedView}
use Rattle.tgs_core.specs.Grants.{ByAccount, ByEvidence, ByHeader, ForHeadersUser, ForUser, Grant, Grounds, Presented, ShownTicket}
use Rattle.tgs_core.specs.Requests.{request_to}

abbrev pub presented_seen : PresentedView → Presented
presented_seen shown = record { rec = shown.rec.now; part = shown.part.now; subkey = shown.subkey }

abbrev pub ticket_seen : ShownTicketView → ShownTicket
ticket_seen evidence = record { rec = evidence.rec.now; part = evidence.part.now }

abbrev pub grounds_seen : GroundsView → Grounds
grounds_seen (views.ByAccount account) = ByAccount account.now
grounds_seen (views.ByHeader shown) = ByHeader (presented_seen shown)
grounds_seen (views.ForUser shown account asked) = ForUser (presented_seen shown) account.now (option_copied asked)
grounds_seen (views.ForHeadersUser shown asked) = ForHeadersUser (presented_seen shown) (option_copied asked)
grounds_seen (views.ByEvidence shown evidence) = ByEvidence (presented_seen shown) (ticket_seen evidence)

abbrev pub grant_seen : Inside → Grant
grant_seen g = record {
  realm = g.realm.now;
  request = request_to g.req.now g.at;
  asked = g.asked.now;
  server = g.server;
  terms = g.terms;
  holding = g.held;
  grounds = grounds_seen g.grounds;
}
