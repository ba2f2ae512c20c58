use Rattle.krb_names.specs.Moments.{in_micros}
use Rattle.service_end.proofs.Remembered.{carried, refused}
use Rattle.service_end.proofs.accepting.accept.Goals as goal

pub returns-in_err-check_new-clause-err : goal.returns-in_err-check_new-clause-err
returns-in_err-check_new-clause-err c =
    let a = c.args in
    let moment = in_micros c.moment_used-moment.result in
    carried c.from_residual-in_err-check_new.result c.in_err-check_new.field-0.0 _ c.from_residual-in_err-check_new.ensures
    (λ other. refused a.keys.now (in_micros a.now) moment a.conf.now a.seen.now a.bytes.now c.in_ok-judged.judged _ c.in_err-check_new.field-0.0 c.moment_used-moment.ensures c.in_ok-judged.ensures.exact
    c.in_ok-entry.ensures (c.in_err-check_new.ensures other))
