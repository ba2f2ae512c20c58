-- What a question about constrained delegation by the service's own list is answered (MS-SFU, section 3.2.5.2).
use Rattle.std.specs.Prelude.{ℕ, Bool, false, List, [], ◌∷◌, Option}
use Rattle.kdc_prelude.specs.Verdicts.{first_failing}
use Rattle.krb_names.specs.declared.principal.Principal.{Principal}
use Rattle.dir_records.specs.DirectoryValue.{DirectoryValue}
use Rattle.dir_core.specs.Lookups.{account_of, account_serving}
use Rattle.dir_records.specs.declared.records.Account.{Account}
use Rattle.kdc_records.specs.declared.rule.Rule.{Rule}
use Rattle.kdc_records.specs.declared.rule.Rule.TheVariants.{G13, G14, G19, G20, S6, P9, P11}
use Rattle.s4u_rules.specs.Conditions.{evidence_is_forwardable, service_is_enabled, service_is_known, target_is_enabled, target_is_known, target_is_listed, user_is_known}
use Rattle.s4u_rules.specs.Outcomes.{outcome}
use Rattle.s4u_rules.specs.declared.asked.Asked.{Asked}

-- what the rules look at: the accounts of the service, of the user, and of the target in the service's realm, where there are such
pub record ClassicQuestion : Type 0 where
  pub service_account : Option Account
  pub user_account : Option Account
  pub target_account : Option Account

abbrev pub classic_question : DirectoryValue → Principal → Principal → List ℕ → ClassicQuestion
classic_question dir service user spn =
    record { service_account = account_of dir service; user_account = account_of dir user; target_account = account_serving dir service.realm spn }

-- the rules of the question, in the order in which they are tried
abbrev pub classic_rules : ClassicQuestion → List (Rule × Bool)
classic_rules ask =
    (G13, service_is_known ask.service_account)
    ∷ (G14, service_is_enabled ask.service_account)
    ∷ (G19, target_is_known ask.target_account)
    ∷ (G20, target_is_enabled ask.target_account)
    ∷ (S6, user_is_known ask.user_account)
    ∷ (P9, evidence_is_forwardable ask.user_account)
    ∷ (P11, target_is_listed ask.service_account ask.target_account)
    ∷ []

-- what the question is answered
abbrev pub classic_answer : ClassicQuestion → Asked
classic_answer ask = outcome (first_failing (classic_rules ask)) false
