use Rattle.std.proofs.Common.{◌≡◌, ◌∙◌, true, Option, Some, None, sym, ap}
use Rattle.std.specs.Prelude.{is_some}
use Rattle.tgs_requests.specs.Askings.{tgs_branch}
use Rattle.tgs_core.specs.GrantViews.{grounds_seen, presented_seen}
use Rattle.tgs_core.specs.Grants.{Grounds, Presented, grounds_on}
use Rattle.tgs_core.specs.Requests.{request_to}
use Rattle.tgs_core.proofs.JudgedRequests.{decision_denies, decision_grants, grounds_there}
use Rattle.tgs_core.proofs.tgs.judge.Goals as goal

pub returns-in-Deny-clause-err : goal.returns-in-Deny-clause-err
returns-in-Deny-clause-err c =
    let a = c.args in
    decision_denies a.dir.now a.now a.message.now a.realm a.read.now.header (presented_seen a.kept.shown) a.kept.aim c.in-Deny.rule c.requires.kept c.requires.kind (sym c.in-Deny.is ∙ c.in_ok-decision.ensures)

pub unreachable-requires : goal.unreachable-requires
unreachable-requires c =
    let a = c.args in
    let shown : Presented = presented_seen a.kept.shown in
    let some = grounds_there a.dir.now a.now a.message.now a.realm a.read.now.header shown a.kept.aim c.in-Grant.terms c.requires.kept c.requires.kind (sym c.in-Grant.is ∙ c.in_ok-decision.ensures) in
    let none : None ≡ grounds_on a.dir.now (request_to a.message.now a.realm) shown (tgs_branch a.message.now) = c.in-None.ensures in
    let nothing : Option Grounds = None in
    let no : is_some nothing ≡ true = ap (λ (found : Option Grounds). is_some found) none ∙ some in
    cc

pub returns-clause-ok : goal.returns-clause-ok
returns-clause-ok c =
    let a = c.args in
    let shown : Presented = presented_seen a.kept.shown in
    let on : Some (grounds_seen c.in-Some.grounds) ≡ grounds_on a.dir.now (request_to a.message.now a.realm) shown (tgs_branch a.message.now) = c.in-Some.ensures in
    decision_grants a.dir.now a.now a.message.now a.realm a.read.now.header shown a.kept.aim c.in-Grant.terms (grounds_seen c.in-Some.grounds) c.requires.kept c.requires.kind
    (sym c.in-Grant.is ∙ c.in_ok-decision.ensures) on
