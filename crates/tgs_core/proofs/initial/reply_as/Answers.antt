use Rattle.std.proofs.Common.{sym, ap, ◌∙◌}
use Rattle.as_core.specs.AsRules.{client_account}
use Rattle.tgs_core.proofs.GrantedRequests.{client_is_member}
use Rattle.tgs_core.proofs.initial.reply_as.Goals as goal

pub find_grant-requires-clause-grounds : goal.find_grant-requires-clause-grounds
find_grant-requires-clause-grounds c =
    let dir = c.args.dir.now in
    let client = c.args.message.now.req_body.cname in
    let asks = sym (c.in-Some.ensures ∙ ap (client_account dir c.args.realm) c.as_ref.ensures.value) in
    let member = client_is_member dir c.args.realm client c.in-Some.account.now c.keeps_directory.ensures asks in
    (member.form, member.range)
