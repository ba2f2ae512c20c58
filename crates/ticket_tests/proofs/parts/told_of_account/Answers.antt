use Rattle.ticket_tests.proofs.parts.told_of_account.Goals as goal

pub record-requires : goal.record-requires
record-requires c = c.in_ok-delegation.ensures

pub told-requires : goal.told-requires
told-requires c = c.in_ok-rec.ensures
