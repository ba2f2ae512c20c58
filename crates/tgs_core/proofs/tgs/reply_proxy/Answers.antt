use Rattle.std.proofs.Common.{subst, sym}
use Rattle.tgs_core.specs.GrantViews.{presented_seen}
use Rattle.tgs_core.specs.Grants.{ByEvidence, Grounds, IsGrantable, IsGrounds, ShownTicket, ticket_shown_by}
use Rattle.tgs_core.proofs.GrantableRequests.{granted_is_grantable}
use Rattle.tgs_core.proofs.GrantedRequests.{grounds_are}
use Rattle.tgs_core.proofs.tgs.reply_proxy.Goals as goal

pub find_grant-requires-clause-grounds : goal.find_grant-requires-clause-grounds
find_grant-requires-clause-grounds c =
    let a = c.args in
    let grounds : Grounds = ByEvidence (presented_seen a.kept.shown) (ticket_shown_by a.evidence.now) in
    subst (λ (shown : ShownTicket). IsGrounds (ByEvidence (presented_seen a.kept.shown) shown)) (sym c.shown_of.ensures)
    (grounds_are a.dir.now a.message.now a.realm grounds c.keeps_directory.ensures c.requires.received c.requires.stands)

pub find_grant-requires-clause-grantable : goal.find_grant-requires-clause-grantable
find_grant-requires-clause-grantable c of server at named =
    let a = c.args in
    let grounds : Grounds = ByEvidence (presented_seen a.kept.shown) (ticket_shown_by a.evidence.now) in
    subst (λ (shown : ShownTicket). IsGrantable of server a.terms (ByEvidence (presented_seen a.kept.shown) shown)) (sym c.shown_of.ensures)
    (granted_is_grantable a.dir.now a.now a.message.now a.realm of server grounds a.terms c.keeps_directory.ensures c.requires.received c.requires.known at named c.requires.allowed c.requires.stands)
