-- The conditions of the rules that questions about the directory are judged by: what each asks of the accounts of the service, the
-- user and the target, where there are such.
use Rattle.std.specs.Prelude.{ℕ, Bool, false, not, nat_lt, length, List, Option, None, Some, is_some}
use Rattle.std.specs.List.{list_any}
use Rattle.kdc_prelude.specs.Options.{holds_of}
use Rattle.kdc_prelude.specs.Texts.{is_one_of, same_text}
use Rattle.krb_names.specs.declared.principal.Principal.{Principal}
use Rattle.dir_records.specs.declared.records.Account.{Account}

abbrev pub is_enabled : Account → Bool
is_enabled account = not account.disabled

-- the account is not marked DelegationNotAllowed (MS-SFU)
abbrev pub may_be_delegated : Account → Bool
may_be_delegated account = not account.not_delegated

-- the account has a service principal name
abbrev pub has_spn : Account → Bool
has_spn account = nat_lt 0 (length account.spns)

-- the target has a service principal name of the list
abbrev pub lists_target : List (List ℕ) → Account → Bool
lists_target classic target = list_any (is_one_of target.spns) classic

-- G13: the service is an account (own choice)
abbrev pub service_is_known : Option Account → Bool
service_is_known service = is_some service

-- G14: the service's account is not disabled (own choice)
abbrev pub service_is_enabled : Option Account → Bool
service_is_enabled service = holds_of is_enabled service

-- G19: the target is held by an account of the service's realm (RFC 4120, section 3.3.3)
abbrev pub target_is_known : Option Account → Bool
target_is_known target = is_some target

-- G20: the target's account is not disabled (own choice)
abbrev pub target_is_enabled : Option Account → Bool
target_is_enabled target = holds_of is_enabled target

-- S4: the service, which asks for a ticket to itself, has a service principal name (MS-SFU, section 3.2.5.1)
abbrev pub service_has_spn : Option Account → Bool
service_has_spn service = holds_of has_spn service

-- S5: the user is of the service's realm (own choice; another realm's user needs a ticket of that realm)
abbrev pub user_is_of_realm : Principal → Principal → Bool
user_is_of_realm user service = same_text user.realm service.realm

-- S6: the user is an account of its realm (MS-SFU, section 3.2.5.1)
abbrev pub user_is_known : Option Account → Bool
user_is_known user = is_some user

-- S7: the user's account is not disabled (own choice)
abbrev pub user_is_enabled : Option Account → Bool
user_is_enabled user = holds_of is_enabled user

-- P9: the user may be delegated, so that the evidence, a ticket in its name, is forwardable (MS-SFU, section 3.2.5.2)
abbrev pub evidence_is_forwardable : Option Account → Bool
evidence_is_forwardable user = holds_of may_be_delegated user

-- P11: the target has a service principal name of the service's list (MS-SFU, section 3.2.5.2)
abbrev pub target_is_listed : Option Account → Option Account → Bool
target_is_listed None target = false
target_is_listed (Some service) target = holds_of (lists_target service.classic) target
