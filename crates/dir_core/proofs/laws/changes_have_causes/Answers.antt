use Rattle.dir_core.proofs.ChangeSteps.{changed_err, changed_ok, changed_only, changed_own}
use Rattle.dir_core.proofs.laws.changes_have_causes.Goals as goal

pub returns-clause-ok : goal.returns-clause-ok
returns-clause-ok c = changed_ok

pub returns-clause-err : goal.returns-clause-err
returns-clause-err c = changed_err

pub returns-clause-own : goal.returns-clause-own
returns-clause-own c = changed_own

pub returns-clause-only : goal.returns-clause-only
returns-clause-only c = changed_only
