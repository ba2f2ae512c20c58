use Rattle.std.proofs.lemmas.Result.{err_from_is_err_and}
use Rattle.proxy_rules.specs.ProxyRules.{delegation_rules, evidence_rules}
use Rattle.kdc_prelude.proofs.Verdicts.{fails_first, judged_later}
use Rattle.proxy_rules.proofs.decide.judge.Goals as goal

pub returns-in_err-judge_evidence : goal.returns-in_err-judge_evidence
returns-in_err-judge_evidence c =
    let evidence = c.args.evidence.now in
    let rows = evidence_rules c.args.dir.now c.args.realm c.args.now c.args.wish.now c.args.header.now evidence in
    let later = delegation_rules c.args.dir.now c.args.realm c.args.now c.args.wish.now c.args.header.now evidence.rec c.args.aim in
    let p = err_from_is_err_and c.from_residual.result c.from_residual.ensures.1 in
    rw (p.1, p.2) (record { first = fails_first rows later c.in_err-judge_evidence.field-0.0 c.in_err-judge_evidence.ensures.first })

pub returns : goal.returns
returns c =
    let evidence = c.args.evidence.now in
    let rows = evidence_rules c.args.dir.now c.args.realm c.args.now c.args.wish.now c.args.header.now evidence in
    let later = delegation_rules c.args.dir.now c.args.realm c.args.now c.args.wish.now c.args.header.now evidence.rec c.args.aim in
    record { first = judged_later rows later c.judge_delegation.result c.in_ok-judge_evidence.ensures.first c.judge_delegation.ensures.first }
