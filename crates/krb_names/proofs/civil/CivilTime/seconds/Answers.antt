use Rattle.std.proofs.Common.{◌≡◌, pos, arith}
use Rattle.std.proofs.lemmas.Int.{ints}
use Rattle.krb_names.proofs.Calendar.{seconds_are}
use Rattle.krb_names.proofs.civil.CivilTime.seconds.Goals as goal

pub returns-clause-value : goal.returns-clause-value
returns-clause-value c =
    let t = c.args.self in
    let date = c.in-Ok.date in
    let year : date.year ≡ pos t.year = omega (arith, ints, c.in-Ok.ensures.value.0, c.requires.year) in
    let month : date.month ≡ t.month = omega (arith, ints, c.in-Ok.ensures.value.1, c.requires.month) in
    let day : date.day ≡ t.day = omega (arith, ints, c.in-Ok.ensures.value.2, c.requires.day) in
    seconds_are t date c.days_of.result year month day c.days_of.ensures.value c.if-self-lt1970.false c.requires.year c.if-self-gt23.false c.if-self-gt59.false c.if-self-gt59-2.false
