use Rattle.dir_core.proofs.ChangeSteps.{keys_after, numbers_after, realms_after}
use Rattle.dir_core.proofs.laws.edits_by_parts.Goals as goal

pub returns-clause-realms : goal.returns-clause-realms
returns-clause-realms c = realms_after

pub returns-clause-spent_keys : goal.returns-clause-spent_keys
returns-clause-spent_keys c = keys_after

pub returns-clause-spent_numbers : goal.returns-clause-spent_numbers
returns-clause-spent_numbers c = numbers_after
