-- The evidence of a request for S4U2proxy, as a call is lent it.
use Rattle.proxy_rules.specs.declared.evidence.EvidenceView.{EvidenceView}
use Rattle.proxy_rules.specs.declared.evidence.EvidenceView.TheVariants as views
use Rattle.proxy_rules.specs.declared.evidence.ShownView.TheInside.{Inside}
use Rattle.proxy_rules.specs.ProxyRules.{SeenEvidence, Shown, ShownEvidence, Wrong}

abbrev pub shown_seen : Inside → ShownEvidence
shown_seen evidence = record { rec = evidence.rec.now; invalid = evidence.invalid; agrees = evidence.agrees }

abbrev pub evidence_seen : EvidenceView → SeenEvidence
evidence_seen (views.Wrong rule) = Wrong rule
evidence_seen (views.Shown rec invalid agrees) = Shown (record { rec = rec.now; invalid = invalid; agrees = agrees })
