use Rattle.std.proofs.Common.{refl, arith}
use Rattle.std.proofs.lemmas.Grind.{common_steps}
use Rattle.std.proofs.lemmas.Result.{err_from_is_err_and}
use Rattle.dir_indexes.specs.Places.{place_of_number}
use Rattle.dir_indexes.proofs.number_index.NumberIndex.insert.Goals as goal

pub returns-in_err-insert-clause-err : goal.returns-in_err-insert-clause-err
unfolding place_of_number
returns-in_err-insert-clause-err c = let p = err_from_is_err_and c.from_residual.result c.from_residual.ensures.1 in rw (p.1) (λ number. rw c.in_err-insert.ensures.err refl)

pub returns-clause-ok : goal.returns-clause-ok
unfolding place_of_number
returns-clause-ok c = λ number. grind (arith, common_steps)
