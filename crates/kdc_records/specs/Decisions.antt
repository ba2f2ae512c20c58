-- Verdicts on requests.
use Rattle.std.specs.Prelude.{Bool, true, false, Option, None, Some}
use Rattle.kdc_records.specs.declared.decision.Decision.{Decision}
use Rattle.kdc_records.specs.declared.decision.Decision.TheVariants.{Grant, Deny}
use Rattle.kdc_records.specs.declared.decision.Terms.{Terms}
use Rattle.kdc_records.specs.declared.rule.Rule.{Rule}

-- the first rule that fails, or else what is granted
abbrev pub decided : Option Rule → Terms → Decision
decided (Some rule) terms = Deny rule
decided None terms = Grant terms

-- a ticket is granted
abbrev pub is_grant : Decision → Bool
is_grant (Grant terms) = true
is_grant (Deny rule) = false
