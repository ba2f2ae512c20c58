use Rattle.proxy_requests.proofs.EvidenceFound.{evidence_kept}
use Rattle.proxy_requests.proofs.law.read_evidences_keep_rules.Goals as goal

pub returns : goal.returns
returns c = record { kept = evidence_kept }
