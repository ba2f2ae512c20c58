use Rattle.std.proofs.Common.{◌++◌}
use Rattle.aes_core.specs.Aes.{inv_last_round}
use Rattle.aes_core.proofs.columns.inv_last_round.Goals as goal

pub returns : goal.returns
unfolding inv_last_round
returns c = λ i. c.inv_last_column.ensures i ++ c.inv_last_column-2.ensures i ++ c.inv_last_column-3.ensures i ++ c.inv_last_column-4.ensures i
