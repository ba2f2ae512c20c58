use Rattle.std.proofs.lemmas.Result.{err_from_is_err_and}
use Rattle.s4u_rules.proofs.Tables.{party_fails}
use Rattle.s4u_rules.proofs.header_verdict.check_shown.Goals as goal

pub returns-in_err-check_parties-clause-first : goal.returns-in_err-check_parties-clause-first
returns-in_err-check_parties-clause-first c =
    let fails = party_fails c.args.dir.now c.args.at c.args.now c.args.wish.now c.args.header.now c.in_ok-rec.rec.now _ c.in_ok-rec.ensures.first.0 c.in_ok-rec.ensures.first.1 c.in_err-check_parties.ensures.first in
    let p = err_from_is_err_and c.from_residual-in_err-check_parties.result c.from_residual-in_err-check_parties.ensures.1 in
    rw (p.1, p.2) fails
