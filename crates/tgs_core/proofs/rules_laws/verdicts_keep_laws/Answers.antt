use Rattle.kdc_records.specs.declared.wish.Branch.TheVariants.{Ordinary, Proxy, SelfTicket}
use Rattle.tgs_core.proofs.Openings.{answered_too_long, branch_known, initial_known, opening_known}
use Rattle.tgs_core.proofs.TgsVerdicts.{ordinary_kept, proxy_kept, self_kept}
use Rattle.tgs_core.proofs.rules_laws.verdicts_keep_laws.Goals as goal

pub returns : goal.returns
returns c = record {
  opening = opening_known;
  initial = initial_known;
  ordinary = λ dir now bytes request h e asked. ordinary_kept dir now request (branch_known dir now bytes request Ordinary h e asked);
  self_ticket = λ dir now bytes request h e asked. self_kept dir now request (branch_known dir now bytes request SelfTicket h e asked);
  proxy = λ dir now bytes request h e asked. proxy_kept dir now request (branch_known dir now bytes request Proxy h e asked);
  long = answered_too_long;
}
