-- A question about S4U2self, and the request for what it asks.
use Rattle.std.specs.Prelude.{◌≡◌, ℕ, pos, Bool, true, List, [], ◌∷◌, Some, slice_get}
use Rattle.kdc_prelude.specs.Options.{holds_of}
use Rattle.kdc_prelude.specs.Verdicts.{first_failing}
use Rattle.krb_names.specs.declared.principal.Principal.{Principal}
use Rattle.kdc_records.specs.declared.decision.Aim.{Aim}
use Rattle.kdc_records.specs.declared.rule.Rule.{Rule}
use Rattle.kdc_records.specs.declared.rule.Rule.TheVariants.{G13, G14, S4, S5, S6, S7}
use Rattle.kdc_records.specs.declared.ticket_rec.TicketRec.{TicketRec}
use Rattle.kdc_records.specs.declared.wish.Wish.{Wish}
use Rattle.kdc_records.specs.Bits.{has_bit}
use Rattle.dir_records.specs.declared.records.Account.{Account}
use Rattle.dir_records.specs.declared.records.RealmRec.{RealmRec}
use Rattle.dir_records.specs.DirectoryValue.{DirectoryValue}
use Rattle.dir_core.specs.Lookups.{account_of}
use Rattle.s4u_rules.specs.AskSelf.{self_answer, self_question, self_rules as question_rules}
use Rattle.s4u_rules.specs.Conditions.{may_be_delegated}
use Rattle.s4u_rules.specs.Outcomes.{outcome}
use Rattle.s4u_rules.specs.SelfRules.{self_flags, server_is_the_requestor, user_fits_header, user_is_enabled, user_is_known}
use Rattle.s4u_rules.specs.TgsRules.{aim_of, has_sid_of, is_for_its_client, requestor_is_enabled, requestor_is_known}

-- a name of kind 1 (NT-PRINCIPAL) and one part, in a realm
abbrev pub name_of : List ℕ → List ℕ → Principal
name_of part realm = record { kind = pos 1; parts = part ∷ []; realm = realm }

-- the account of this name in the realm at an index asks that realm, by its own name, for S4U2self for a user; its header is its own,
-- and where there is such an account it is that account's by its SID
pub record Asks (dir : DirectoryValue) (at : ℕ) (realm : RealmRec) (service user : Principal) (wish : Wish) (rec : TicketRec) : Type 0 where
  pub realm_is : slice_get dir.realms at ≡ Some realm
  pub server : wish.server ≡ Some service
  pub named : wish.user ≡ Some user
  pub client : rec.client ≡ service
  pub own : is_for_its_client rec ≡ true
  pub sid : (account : Account) → account_of dir service ≡ Some account → has_sid_of realm rec.subject account ≡ true

-- the rules of the request that a question speaks of
abbrev pub request_rules : DirectoryValue → ℕ → Wish → TicketRec → List (Rule × Bool)
request_rules dir at wish rec =
    (G13, requestor_is_known dir at rec)
    ∷ (G14, requestor_is_enabled dir at rec)
    ∷ (S4, server_is_the_requestor dir at wish rec)
    ∷ (S5, holds_of (user_fits_header dir at rec) wish.user)
    ∷ (S6, holds_of (user_is_known dir at) wish.user)
    ∷ (S7, holds_of (user_is_enabled dir at) wish.user)
    ∷ []

-- the first of them that fails is the one that the question is denied by
abbrev pub RulesAgree : DirectoryValue → ℕ → Principal → Principal → Wish → TicketRec → Type 0
RulesAgree dir at service user wish rec = first_failing (request_rules dir at wish rec) ≡ first_failing (question_rules (self_question dir service user))

-- where the ticket is asked to be forwardable, and the header is so exactly where the service is not marked (as its own ticket-granting
-- ticket is, RFC 4120, section 3.1.3), the question is answered by the outcome of the request
abbrev pub AnswersAgree : DirectoryValue → ℕ → Principal → Principal → Wish → TicketRec → Aim → Type 0
AnswersAgree dir at service user wish rec aim =
    has_bit 1 wish.options ≡ true
    → has_bit 1 rec.flags ≡ holds_of may_be_delegated (account_of dir service)
    → aim_of dir at wish ≡ Some aim
    → outcome (first_failing (request_rules dir at wish rec)) (has_bit 1 (self_flags dir at wish rec aim)) ≡ self_answer (self_question dir service user)
