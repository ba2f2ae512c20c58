use Rattle.std.proofs.Common.{rules}
use Rattle.dir_text.proofs.Entries.{some_of_values}
use Rattle.dir_text.proofs.read.some_of.Goals as goal

pub returns-clause-value : goal.returns-clause-value
returns-clause-value c = some_of_values c.args.values.now (search rules)
