-- What a request that no rule denies is known to be.
use Rattle.std.proofs.Common.{◌≡◌, ℕ, drop}
use Rattle.std.specs.Prelude.{None}
use Rattle.kdc_prelude.proofs.Verdicts.{passes}
use Rattle.kdc_records.specs.Wishes.{end_is_later}
use Rattle.krb_names.specs.declared.moment.Moment.{Moment}
use Rattle.kdc_records.specs.declared.decision.Aim.{Aim}
use Rattle.kdc_records.specs.declared.rule.Rule.TheVariants.{P6, P7, P8, P9, P10, P11, P12, T1}
use Rattle.kdc_records.specs.declared.ticket_rec.TicketRec.{TicketRec}
use Rattle.kdc_records.specs.declared.wish.Wish.{Wish}
use Rattle.dir_records.specs.DirectoryValue.{DirectoryValue}
use Rattle.proxy_rules.specs.ProxyRules.{ProxyGrants, Shown, ShownEvidence, chain_is_short, delegation_is_allowed, evidence_agrees, evidence_is_reached, evidence_lasts, evidence_may_be_used, proxy_end, proxy_rules, proxy_verdict, user_is_delegable}

pub granted : (dir : DirectoryValue) (at : ℕ) (now : Moment) (wish : Wish) (header : TicketRec) (aim : Aim) (evidence : ShownEvidence)
    → proxy_verdict dir at now wish header aim (Shown evidence) ≡ None → ProxyGrants dir at now wish header aim evidence
granted dir at now wish header aim evidence h =
    let rows = proxy_rules dir at now wish header aim evidence in
    let p6 = passes P6 (evidence_agrees wish header evidence) (drop 1 rows) h in
    let p7 = passes P7 (evidence_lasts now evidence) (drop 2 rows) p6.1 in
    let p8 = passes P8 (evidence_is_reached dir at evidence.rec) (drop 3 rows) p7.1 in
    let p9 = passes P9 (evidence_may_be_used wish evidence.rec) (drop 4 rows) p8.1 in
    let p10 = passes P10 (user_is_delegable evidence.rec) (drop 5 rows) p9.1 in
    let p11 = passes P11 (delegation_is_allowed dir at wish header evidence.rec aim) (drop 6 rows) p10.1 in
    let p12 = passes P12 (chain_is_short dir at header evidence.rec) (drop 7 rows) p11.1 in
    let t1 = passes T1 (end_is_later now (proxy_end dir at now wish header evidence.rec)) (drop 8 rows) p12.1 in
    record {
      agrees = p6.0;
      lasts = p7.0;
      reached = p8.0;
      usable = p9.0;
      delegable = p10.0;
      allowed = p11.0;
      short = p12.0;
      lasting = t1.0;
    }
