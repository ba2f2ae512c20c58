use Rattle.s4u_rules.proofs.Agreement.{answers_agree, rules_agree}
use Rattle.s4u_rules.proofs.laws.questions_tell_requests.Goals as goal

pub returns-clause-rules : goal.returns-clause-rules
returns-clause-rules c = rules_agree

pub returns-clause-answers : goal.returns-clause-answers
returns-clause-answers c = answers_agree
