use Rattle.ticket_codec.proofs.FirstRules.{first_rule_is_told}
use Rattle.ticket_codec.proofs.Holders.{cross_evidence_is_of_this_realm, evidence_is_of_the_requestor, headers_are_of_this_realm}
use Rattle.ticket_codec.proofs.Shown.{shown_is_told, tickets_are_shown}
use Rattle.ticket_codec.proofs.laws.tickets_keep_laws.Goals as goal

pub returns : goal.returns
returns c = record {
  value = tickets_are_shown;
  exact = shown_is_told;
  first = first_rule_is_told;
  header = headers_are_of_this_realm;
  cross = cross_evidence_is_of_this_realm;
  requestor = evidence_is_of_the_requestor;
}
