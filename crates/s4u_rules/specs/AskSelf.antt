-- What a question about S4U2self is answered: whether a service gets a ticket to itself for a user (MS-SFU, section 3.2.5.1).
use Rattle.std.specs.Prelude.{◌&&◌, Bool, false, List, [], ◌∷◌, Option, None, Some}
use Rattle.kdc_prelude.specs.Verdicts.{first_failing}
use Rattle.krb_names.specs.declared.principal.Principal.{Principal}
use Rattle.dir_records.specs.DirectoryValue.{DirectoryValue}
use Rattle.dir_core.specs.Lookups.{account_of}
use Rattle.dir_records.specs.declared.records.Account.{Account}
use Rattle.kdc_records.specs.declared.rule.Rule.{Rule}
use Rattle.kdc_records.specs.declared.rule.Rule.TheVariants.{G13, G14, S4, S5, S6, S7}
use Rattle.s4u_rules.specs.Conditions.{may_be_delegated, service_has_spn, service_is_enabled, service_is_known, user_is_enabled, user_is_known, user_is_of_realm}
use Rattle.s4u_rules.specs.Outcomes.{outcome}
use Rattle.s4u_rules.specs.declared.asked.Asked.{Asked}

-- what the rules look at: the names of the service and of the user, and their accounts, where there are such
pub record SelfQuestion : Type 0 where
  pub service : Principal
  pub user : Principal
  pub service_account : Option Account
  pub user_account : Option Account

abbrev pub self_question : DirectoryValue → Principal → Principal → SelfQuestion
self_question dir service user =
    record { service = service; user = user; service_account = account_of dir service; user_account = account_of dir user }

-- the rules of the question, in the order in which they are tried
abbrev pub self_rules : SelfQuestion → List (Rule × Bool)
self_rules ask =
    (G13, service_is_known ask.service_account)
    ∷ (G14, service_is_enabled ask.service_account)
    ∷ (S4, service_has_spn ask.service_account)
    ∷ (S5, user_is_of_realm ask.user ask.service)
    ∷ (S6, user_is_known ask.user_account)
    ∷ (S7, user_is_enabled ask.user_account)
    ∷ []

-- forwardable is what a service that is trusted to authenticate gets, where neither it nor the user is marked (MS-SFU, section 3.2.5.1.2)
abbrev pub is_forwardable : Option Account → Option Account → Bool
is_forwardable None user = false
is_forwardable (Some service) None = false
is_forwardable (Some service) (Some user) = service.trusted_to_auth && may_be_delegated service && may_be_delegated user

-- what the question is answered
abbrev pub self_answer : SelfQuestion → Asked
self_answer ask = outcome (first_failing (self_rules ask)) (is_forwardable ask.service_account ask.user_account)
