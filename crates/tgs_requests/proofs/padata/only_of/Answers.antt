use Rattle.tgs_requests.specs.Askings.{is_of_type}
use Rattle.tgs_requests.proofs.OfType.{only_found, only_none}
use Rattle.tgs_requests.proofs.padata.only_of.Goals as goal

pub returns-then-count_of-eq1 : goal.returns-then-count_of-eq1
returns-then-count_of-eq1 c = only_found (is_of_type c.args.number) c.args.items.now c.count_of.result _ c.count_of.ensures c.if-count_of-eq1.true c.first_of.ensures

pub returns-else-count_of-eq1 : goal.returns-else-count_of-eq1
returns-else-count_of-eq1 c = only_none (is_of_type c.args.number) c.args.items.now c.count_of.result c.count_of.ensures c.if-count_of-eq1.false
