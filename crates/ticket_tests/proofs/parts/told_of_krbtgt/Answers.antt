use Rattle.ticket_tests.proofs.parts.told_of_krbtgt.Goals as goal

pub told-requires : goal.told-requires
told-requires c = c.in_ok-rec.ensures
