use Rattle.std.proofs.Common.{nat_eq}
use Rattle.dir_indexes.specs.Places.{place_of_number}
use Rattle.dir_core.proofs.Places.{added_next}
use Rattle.dir_core.proofs.indexes.index_numbers.Goals as goal

pub loop-i-preserved : goal.loop-i-preserved
loop-i-preserved c =
    added_next nat_eq (λ account. account.number) (place_of_number c.loop-i.index) (place_of_number c.add.new.self) c.args.accounts.now c.loop-i.i c.index-accounts-i.result
    c.loop-i-test.true c.index-accounts-i.is c.loop-i.invariant c.in_ok-add.ensures.ok
