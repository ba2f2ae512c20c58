use Rattle.std.proofs.Common.{ap, ◌∙◌}
use Rattle.tgs_core.specs.GrantViews.{grounds_seen}
use Rattle.tgs_core.specs.Grants.{grounds_of}
use Rattle.tgs_core.specs.Requests.{request_to}
use Rattle.tgs_core.proofs.GrantableRequests.{granted_is_grantable}
use Rattle.tgs_core.proofs.GrantedRequests.{grounds_are}
use Rattle.tgs_core.proofs.JudgedRequests.{branch_allowed}
use Rattle.tgs_core.proofs.tgs.reply_kept.Goals as goal

pub find_grant-requires-clause-grounds : goal.find_grant-requires-clause-grounds
find_grant-requires-clause-grounds c =
    let a = c.args in
    let stands = ap (grounds_of a.dir.now (request_to a.message.now a.realm)) c.requires.kind ∙ c.in-Ok.ensures.ok.stands in
    grounds_are a.dir.now a.message.now a.realm (grounds_seen c.in-Ok.granted.grounds) c.keeps_directory.ensures c.requires.received stands

pub find_grant-requires-clause-grantable : goal.find_grant-requires-clause-grantable
find_grant-requires-clause-grantable c of server at named =
    let a = c.args in
    let stands = ap (grounds_of a.dir.now (request_to a.message.now a.realm)) c.requires.kind ∙ c.in-Ok.ensures.ok.stands in
    let allowed = branch_allowed a.dir.now a.now a.message.now a.realm a.read.now.header c.requires.kind c.requires.read.ruled c.requires.read.header c.in-Ok.ensures.ok.allowed in
    granted_is_grantable a.dir.now a.now a.message.now a.realm of server (grounds_seen c.in-Ok.granted.grounds) c.in-Ok.granted.terms c.keeps_directory.ensures c.requires.received c.requires.known at named allowed stands
