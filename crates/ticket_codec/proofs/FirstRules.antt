-- The rule that is told of a ticket that shows nothing is the first that fails.
use Rattle.std.proofs.Common.{◌≡◌, ℕ, Bool, true, false, cond, [], ◌∷◌, refl}
use Rattle.std.specs.Prelude.{Option, None, Some, Result, Ok, Err, is_some, option_and_then}
use Rattle.kdc_prelude.specs.Answers.{or_fault}
use Rattle.kdc_prelude.specs.Options.{holds_of}
use Rattle.kdc_prelude.specs.Results.{◌>>=◌}
use Rattle.kdc_prelude.specs.Verdicts.{first_failing}
use Rattle.krb_tickets.specs.declared.ticket.Ticket.{Ticket}
use Rattle.dir_records.specs.DirectoryValue.{DirectoryValue}
use Rattle.ticket_codec.specs.declared.fault.Unopened.{Unopened}
use Rattle.ticket_codec.specs.declared.fault.Unopened.TheVariants.{WrongKey, Unreadable}
use Rattle.ticket_codec.specs.declared.holding.Holding.{Holding}
use Rattle.ticket_codec.specs.declared.opening.Opened.{Opened}
use Rattle.ticket_codec.specs.declared.presenting.Certified.{Certified}
use Rattle.ticket_codec.specs.declared.role.Role.{Role}
use Rattle.ticket_codec.specs.declared.role.Role.TheVariants.{Header, Evidence, CrossEvidence}
use Rattle.ticket_codec.specs.Laws.{FirstRuleIsTold}
use Rattle.ticket_codec.specs.Opening.{is_for_key, opened_by, opened_with, ruled, unsealed}
use Rattle.ticket_codec.specs.Presented.{certified, presented, shown, shown_of}
use Rattle.ticket_codec.specs.Roles.{holding, key_rule, name_rule, opening_rule, pac_rule}
use Rattle.ticket_codec.specs.Rules.{evidence_is_for_requestor, evidence_key_fits, evidence_opens, evidence_pac_is_right, header_is_for_this_realm, header_key_fits, header_opens, header_pac_is_right, opening_rules, refusal_of, shown_rules}

-- what is told of a ticket whose key has been compared, and that may have opened
abbrev opened_if : Role → Bool → Option Opened → Result Opened Unopened
opened_if role fits found = cond fits (or_fault Unreadable found) (Err WrongKey)

opening_by : (role : Role) (fits : Bool) (found : Option Opened)
    → refusal_of (ruled role (opened_if role fits found)) ≡ first_failing ((key_rule role, fits) ∷ (opening_rule role, is_some found) ∷ [])
opening_by role true None = refl
opening_by role true (Some o) = refl
opening_by role false found = refl

unsealing_by : (role : Role) (ticket : Ticket) (h : Option Holding)
    → refusal_of (or_fault (name_rule role) h >>= λ held. ruled role (opened_by ticket held))
    ≡ first_failing ((name_rule role, is_some h) ∷ (key_rule role, holds_of (λ held. is_for_key held.key ticket.sealed) h) ∷ (opening_rule role, is_some (option_and_then (opened_with ticket) h)) ∷ [])
unsealing_by role ticket None = refl
unsealing_by role ticket (Some held) = opening_by role (is_for_key held.key ticket.sealed) (opened_with ticket held)

reading_by : (role : Role) (opened : Opened) (found : Option Certified)
    → refusal_of (or_fault (pac_rule role) found >>= λ certified. Ok (shown_of opened certified)) ≡ first_failing ((pac_rule role, is_some found) ∷ [])
reading_by role opened None = refl
reading_by role opened (Some c) = refl

showing_by : (dir : DirectoryValue) (at : ℕ) (role : Role) (fits : Bool) (found : Option Opened)
    → refusal_of (ruled role (opened_if role fits found) >>= λ opened. or_fault (pac_rule role) (certified dir at opened) >>= λ certified. Ok (shown_of opened certified))
    ≡ first_failing ((key_rule role, fits) ∷ (opening_rule role, is_some found) ∷ (pac_rule role, holds_of (λ opened. is_some (certified dir at opened)) found) ∷ [])
showing_by dir at role true None = refl
showing_by dir at role true (Some opened) = reading_by role opened (certified dir at opened)
showing_by dir at role false found = refl

all_by : (dir : DirectoryValue) (at : ℕ) (role : Role) (ticket : Ticket) (h : Option Holding)
    → refusal_of ((or_fault (name_rule role) h >>= λ held. ruled role (opened_by ticket held)) >>= λ opened. or_fault (pac_rule role) (certified dir at opened) >>= λ certified. Ok (shown_of opened certified))
    ≡ first_failing ((name_rule role, is_some h) ∷ (key_rule role, holds_of (λ held. is_for_key held.key ticket.sealed) h) ∷ (opening_rule role, is_some (option_and_then (opened_with ticket) h)) ∷ (pac_rule role, holds_of (λ opened. is_some (certified dir at opened)) (option_and_then (opened_with ticket) h)) ∷ [])
all_by dir at role ticket None = refl
all_by dir at role ticket (Some held) = showing_by dir at role (is_for_key held.key ticket.sealed) (opened_with ticket held)

-- ---- by the words of the rules

pub first_unsealed : (dir : DirectoryValue) (at : ℕ) (role : Role) (ticket : Ticket) → refusal_of (unsealed dir at role ticket) ≡ first_failing (opening_rules dir at role ticket)
unfolding unsealed header_is_for_this_realm header_key_fits header_opens evidence_is_for_requestor evidence_key_fits evidence_opens
first_unsealed dir at Header ticket = unsealing_by Header ticket (holding dir at Header ticket)
first_unsealed dir at (Evidence account) ticket = unsealing_by (Evidence account) ticket (holding dir at (Evidence account) ticket)
first_unsealed dir at CrossEvidence ticket = unsealing_by CrossEvidence ticket (holding dir at CrossEvidence ticket)

pub first_shown : (dir : DirectoryValue) (at : ℕ) (role : Role) (ticket : Ticket) → refusal_of (shown dir at role ticket) ≡ first_failing (shown_rules dir at role ticket)
unfolding unsealed shown presented header_is_for_this_realm header_key_fits header_opens header_pac_is_right evidence_is_for_requestor evidence_key_fits evidence_opens evidence_pac_is_right
first_shown dir at Header ticket = all_by dir at Header ticket (holding dir at Header ticket)
first_shown dir at (Evidence account) ticket = all_by dir at (Evidence account) ticket (holding dir at (Evidence account) ticket)
first_shown dir at CrossEvidence ticket = all_by dir at CrossEvidence ticket (holding dir at CrossEvidence ticket)

pub first_rule_is_told : FirstRuleIsTold
first_rule_is_told dir at role ticket = (first_unsealed dir at role ticket, first_shown dir at role ticket)
