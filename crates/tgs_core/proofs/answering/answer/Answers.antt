use Rattle.tgs_core.proofs.Openings.{verdict_denied}
use Rattle.tgs_core.proofs.answering.answer.Goals as goal

pub deny-requires-clause-rule : goal.deny-requires-clause-rule
deny-requires-clause-rule c = verdict_denied c.args.dir.now c.args.now c.args.request.now c.in-Err.rule c.in-Err.ensures.first
