-- Answers to questions.
use Rattle.std.specs.Prelude.{◌≡◌, Bool, true, false, Option, None, Some, Result, MatchResult}
use Rattle.kdc_records.specs.declared.rule.Rule.{Rule}
use Rattle.s4u_rules.specs.declared.asked.Asked.{Asked}
use Rattle.s4u_rules.specs.declared.asked.Asked.TheVariants.{Forwardable, Allowed, Deny}

-- the rule that denies, or else what is granted
abbrev pub outcome : Option Rule → Bool → Asked
outcome (Some rule) forwardable = Deny rule
outcome None true = Forwardable
outcome None false = Allowed

-- an error is this rule, and where there is none no rule denies
abbrev pub IsVerdict : {T : Type 0} → Result T Rule → Option Rule → Type 0
IsVerdict result first = MatchResult result (λ _. first ≡ None) (λ rule. first ≡ Some rule)
