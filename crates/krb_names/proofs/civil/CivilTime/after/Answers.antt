use Rattle.std.proofs.Common.{◌≤◌, arith, sym}
use Rattle.jiff_core.proofs.SignedLemmas.{signed_arith}
use Rattle.krb_names.proofs.Calendar.{date_found, seconds_found, shown_after}
use Rattle.krb_names.proofs.civil.CivilTime.after.Goals as goal

pub returns-clause-value : goal.returns-clause-value
returns-clause-value c =
    let late : 1970 ≤ c.year_of.result = omega (arith, signed_arith, c.year_of.ensures, c.date_after-date.ensures.found) in
    sym (date_found c.date_after-date.result c.year_of.result c.args.seconds c.year_of.ensures c.date_after-date.ensures.value late)

pub returns-clause-exact : goal.returns-clause-exact
returns-clause-exact c =
    let date = c.date_after-date.result in
    let year = c.year_of.result in
    let late : 1970 ≤ year = omega (arith, signed_arith, c.year_of.ensures, c.date_after-date.ensures.found) in
    let early : year ≤ 9999 = omega (arith, signed_arith, c.year_of.ensures, date.year_in) in
    (shown_after date year c.args.seconds c.year_of.ensures late early, seconds_found date year c.args.seconds c.year_of.ensures c.date_after-date.ensures.value late)
