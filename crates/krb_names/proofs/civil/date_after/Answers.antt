use Rattle.std.proofs.Common.{◌≡◌, pos, arith}
use Rattle.std.proofs.lemmas.Int.{ints}
use Rattle.jiff_core.specs.Date.{epoch_day}
use Rattle.krb_names.proofs.Calendar.{late_year}
use Rattle.krb_names.proofs.civil.date_after.Goals as goal

pub returns-clause-found : goal.returns-clause-found
returns-clause-found c =
    let day : epoch_day c.in-Ok.date ≡ pos c.args.days = omega (arith, ints, c.in-Ok.ensures.value, c.requires) in
    late_year c.in-Ok.date c.args.days day
