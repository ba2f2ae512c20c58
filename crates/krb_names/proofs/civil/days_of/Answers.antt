use Rattle.std.proofs.Common.{arith, ◌≤ℤ◌, pos}
use Rattle.std.proofs.lemmas.Int.{ints}
use Rattle.krb_names.proofs.Calendar.{not_negative}
use Rattle.krb_names.proofs.civil.days_of.Goals as goal

pub overflow_cast-result : goal.overflow_cast-result
overflow_cast-result c =
    let low : pos 0 ≤ℤ c.to_unix_epoch_day.result = omega (arith, ints, not_negative c.args.date c.requires, c.to_unix_epoch_day.ensures.value) in
    search (arith, ints)

pub returns-clause-value : goal.returns-clause-value
returns-clause-value c = omega (arith, ints, not_negative c.args.date c.requires, c.to_unix_epoch_day.ensures.value)

pub returns-clause-found : goal.returns-clause-found
returns-clause-found c = omega (arith, ints, not_negative c.args.date c.requires, c.to_unix_epoch_day.ensures.value, c.to_unix_epoch_day.ensures.bound.1)
