use Rattle.proxy_requests.proofs.EvidenceTold.{evidence_is_found, first_rule_denies, no_rule_fails}
use Rattle.proxy_requests.proofs.reading.read_evidence.Goals as goal

pub returns-clause-ok : goal.returns-clause-ok
returns-clause-ok c = no_rule_fails c.args.dir.now c.args.realm c.args.message.now c.args.header.now c.read_steps.result c.read_steps.ensures.exact

pub returns-clause-found : goal.returns-clause-found
returns-clause-found c = evidence_is_found c.args.dir.now c.args.realm c.args.message.now c.args.header.now c.read_steps.result c.read_steps.ensures.exact

pub returns-clause-err : goal.returns-clause-err
returns-clause-err c = first_rule_denies c.args.dir.now c.args.realm c.args.message.now c.args.header.now c.read_steps.result c.read_steps.ensures.exact
