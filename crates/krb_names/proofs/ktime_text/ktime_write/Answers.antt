use Rattle.std.proofs.Common.{Ok, ◌∙◌, ap, arith}
use Rattle.krb_names.specs.Times.{ktime_reading}
use Rattle.krb_names.proofs.Times.{written}
use Rattle.krb_names.proofs.ktime_text.ktime_write.Goals as goal

pub returns-clause-exact : goal.returns-clause-exact
returns-clause-exact c =
    let civil = c.after.result in
    let found = c.after.ensures.found in
    ap ktime_reading c.write_civil.ensures
    ∙ written civil c.secs.result found.0 (omega arith) (omega arith) (omega arith) (omega arith) (omega arith) c.after.ensures.exact.0 c.after.ensures.exact.1
    ∙ ap Ok c.secs.ensures.value
