-- The rules of S4U2proxy (MS-SFU, section 3.2.5.2), and what a request for it is granted.
use Rattle.std.specs.Prelude.{◌≡◌, ℕ, ◌+◌, ◌&&◌, ◌||◌, Bool, true, false, not, min, nat_le, nat_lt, List, [], ◌∷◌, ◌++◌, length, Option, None, Some, is_some, slice_get, if◌then◌else◌}
use Rattle.std.specs.List.{join_with_byte, list_any}
use Rattle.dir_core.specs.Lives.{longest_life}
use Rattle.kdc_prelude.specs.Options.{holds_of}
use Rattle.kdc_prelude.specs.Steps.{◌>>=◌}
use Rattle.kdc_prelude.specs.Texts.{same_text}
use Rattle.kdc_prelude.specs.Verdicts.{first_failing}
use Rattle.krb_names.specs.declared.moment.Moment.{Moment}
use Rattle.krb_names.specs.declared.principal.Principal.{Principal}
use Rattle.krb_names.specs.NameTexts.{name_text}
use Rattle.krb_names.specs.Principals.{same_principal}
use Rattle.krb_names.specs.SidValue.{same_sid}
use Rattle.kdc_records.specs.declared.decision.Aim.{Aim}
use Rattle.kdc_records.specs.declared.decision.Aim.TheVariants.{Krbtgt, Hop, Account}
use Rattle.kdc_records.specs.declared.decision.Decision.{Decision}
use Rattle.kdc_records.specs.declared.decision.Decision.TheVariants.{Deny}
use Rattle.kdc_records.specs.declared.decision.Terms.{Terms}
use Rattle.kdc_records.specs.declared.rule.Rule.{Rule}
use Rattle.kdc_records.specs.declared.rule.Rule.TheVariants.{P6, P7, P8, P9, P10, P11, P12, T1}
use Rattle.kdc_records.specs.declared.subject.Delegation.{Delegation}
use Rattle.kdc_records.specs.declared.ticket_rec.TicketRec.{TicketRec}
use Rattle.kdc_records.specs.declared.wish.Wish.{Wish}
use Rattle.kdc_records.specs.Bits.{bit_if, has_bit}
use Rattle.kdc_records.specs.Decisions.{decided}
use Rattle.kdc_records.specs.Wishes.{end_by, session_type, end_is_later}
use Rattle.dir_records.specs.declared.records.Account.{Account as AccountRec}
use Rattle.dir_records.specs.declared.records.RealmRec.{RealmRec}
use Rattle.dir_records.specs.DirectoryValue.{DirectoryValue}
use Rattle.dir_core.specs.Lookups.{account_at}
use Rattle.route_rules.specs.Aims.{resolve_account}
use Rattle.route_rules.specs.Cross.{is_reached_subject, is_reached_way, issuing_realm}
use Rattle.s4u_rules.specs.Conditions.{lists_target}
use Rattle.s4u_rules.specs.TgsRules.{is_local, issuer_is_appended, requestor_record}

-- ---- the evidence: the additional ticket, as the rules see it

-- opened, with the right signatures
pub record ShownEvidence : Type 0 where
  pub rec : TicketRec
  pub invalid : Bool
  pub agrees : Bool  -- its client information agrees

-- what was read of it
pub data SeenEvidence : Type 0 where
  Wrong : Rule → SeenEvidence  -- the first of the rules P1 to P5 that fails
  Shown : ShownEvidence → SeenEvidence

-- ---- the requestor, and what is asked for

-- the requestor, the header's client, is of the realm at an index
abbrev pub requestor_is_local : DirectoryValue → ℕ → TicketRec → Bool
requestor_is_local dir at header = holds_of (λ realm. is_local realm header) (slice_get dir.realms at)

-- the name that is asked for is an account's, of this realm or of another
abbrev pub target_is_account : DirectoryValue → ℕ → Wish → Bool
target_is_account dir at wish = is_some (wish.server >>= resolve_account dir at)

-- ---- the rules

-- what is asked of a cross-realm evidence ticket; nothing of another
abbrev pub if_cross_evidence : Bool → Option (List ℕ) → Bool
if_cross_evidence asked None = true
if_cross_evidence asked (Some issuer) = asked

-- the last of a list
abbrev pub last_of : List (List ℕ) → Option (List ℕ)
last_of [] = None
last_of (text ∷ []) = Some text
last_of (text ∷ next ∷ texts) = last_of (next ∷ texts)

-- the name that is asked for: its parts, joined by `/`
abbrev pub target_text : Principal → List ℕ
target_text server = join_with_byte 47 server.parts

-- the last service that delegated is this client, and the target is the name that is asked for
abbrev pub is_delegated_to : Principal → Wish → Delegation → Bool
is_delegated_to client wish delegation =
    holds_of (same_text (name_text client)) (last_of delegation.services) && holds_of (λ server. same_text delegation.target (target_text server)) wish.server

-- a cross-realm evidence ticket is the requestor's, as its last delegation says, for the name that is asked for
abbrev pub cross_evidence_agrees : Wish → TicketRec → TicketRec → Bool
cross_evidence_agrees wish header evidence =
    same_principal evidence.client header.client && holds_of (is_delegated_to header.client wish) evidence.delegation

-- P6: the client information of the evidence agrees, and a cross-realm evidence ticket is the requestor's for the name that is
-- asked for (MS-PAC, section 2.7; MS-SFU, section 3.2.5.2)
abbrev pub evidence_agrees : Wish → TicketRec → ShownEvidence → Bool
evidence_agrees wish header evidence =
    evidence.agrees && if_cross_evidence (cross_evidence_agrees wish header evidence.rec) (issuing_realm evidence.rec.holder)

-- P7: the evidence starts at most 300 seconds after now, is not invalid, and now is earlier than its end (RFC 4120, section 3.2.3)
abbrev pub evidence_lasts : Moment → ShownEvidence → Bool
evidence_lasts now evidence = nat_le evidence.rec.start (now.secs + 300) && not evidence.invalid && nat_lt now.secs evidence.rec.end

-- P8: a cross-realm evidence ticket tells of a user and of realms that the trust with the issuing realm reaches (MS-PAC, section 4.1.2.2)
abbrev pub evidence_is_reached : DirectoryValue → ℕ → TicketRec → Bool
evidence_is_reached dir at evidence = is_reached_subject dir at evidence && is_reached_way dir at evidence

abbrev pub is_forwardable : TicketRec → Bool
is_forwardable evidence = has_bit 1 evidence.flags

-- the user is not marked: USER_NOT_DELEGATED is clear (MS-PAC, section 2.5)
abbrev pub user_is_unmarked : TicketRec → Bool
user_is_unmarked evidence = not (has_bit 17 evidence.subject.control)

-- P9: the evidence is forwardable, or resource-based delegation is asked for (MS-SFU, section 3.2.5.2)
abbrev pub evidence_may_be_used : Wish → TicketRec → Bool
evidence_may_be_used wish evidence = is_forwardable evidence || wish.rbcd

-- P10: the evidence is forwardable, or its user is not marked (MS-SFU, section 3.2.5.2.3)
abbrev pub user_is_delegable : TicketRec → Bool
user_is_delegable evidence = is_forwardable evidence || user_is_unmarked evidence

-- constrained delegation by the requestor's own list: a requestor of this realm, a forwardable evidence, and a target with a
-- service principal name of that list (MS-SFU, section 3.2.5.2)
abbrev pub by_own_list : DirectoryValue → ℕ → TicketRec → TicketRec → AccountRec → Bool
by_own_list dir at header evidence target =
    requestor_is_local dir at header
    && is_forwardable evidence
    && holds_of (λ requestor. lists_target requestor.classic target) (requestor_record dir at header)

-- resource-based constrained delegation: it is asked for, the user is not marked, and the target lists the requestor's SID
-- (MS-SFU, section 3.2.5.2)
abbrev pub by_targets_list : Wish → TicketRec → TicketRec → AccountRec → Bool
by_targets_list wish header evidence target =
    wish.rbcd && user_is_unmarked evidence && list_any (same_sid header.subject.sid) target.resource

-- the target is an account of this realm, and it or the requestor lists the other
abbrev pub by_lists : DirectoryValue → ℕ → Wish → TicketRec → TicketRec → Option AccountRec → Bool
by_lists dir at wish header evidence target =
    holds_of (λ account. by_own_list dir at header evidence account || by_targets_list wish header evidence account) target

-- a referral to the realm of a target that is another realm's account: resource-based delegation is asked for, and the user is not
-- marked; whether the target lists the requestor is for its realm to say (MS-SFU, section 3.2.5.2)
abbrev pub by_referral : DirectoryValue → ℕ → Wish → TicketRec → Bool
by_referral dir at wish evidence = target_is_account dir at wish && wish.rbcd && user_is_unmarked evidence

-- P11: the target is an account of this realm, and it or the requestor lists the other; or it is an account of another realm, and the
-- request is referred there (MS-SFU, section 3.2.5.2)
abbrev pub delegation_is_allowed : DirectoryValue → ℕ → Wish → TicketRec → TicketRec → Aim → Bool
delegation_is_allowed dir at wish header evidence Krbtgt = false
delegation_is_allowed dir at wish header evidence (Hop trust) = by_referral dir at wish evidence
delegation_is_allowed dir at wish header evidence (Account account) = by_lists dir at wish header evidence (account_at dir at account)

-- the services that have delegated
abbrev pub services_of : Option Delegation → List (List ℕ)
services_of None = []
services_of (Some delegation) = delegation.services

-- P12: where the requestor is of this realm, fewer than 32 services have delegated (own choice)
abbrev pub chain_is_short : DirectoryValue → ℕ → TicketRec → TicketRec → Bool
chain_is_short dir at header evidence = not (requestor_is_local dir at header) || nat_lt (length (services_of evidence.delegation)) 32

-- ---- when the ticket ends

-- as asked for, within the realm's longest life, and no later than the header and the evidence
abbrev pub proxy_end : DirectoryValue → ℕ → Moment → Wish → TicketRec → TicketRec → ℕ
proxy_end dir at now wish header evidence = end_by wish.till (min (now.secs + longest_life dir at) (min header.end evidence.end))

-- ---- in the order in which they are tried

-- of the evidence
abbrev pub evidence_rules : DirectoryValue → ℕ → Moment → Wish → TicketRec → ShownEvidence → List (Rule × Bool)
evidence_rules dir at now wish header evidence =
    (P6, evidence_agrees wish header evidence)
    ∷ (P7, evidence_lasts now evidence)
    ∷ (P8, evidence_is_reached dir at evidence.rec)
    ∷ (P9, evidence_may_be_used wish evidence.rec)
    ∷ (P10, user_is_delegable evidence.rec)
    ∷ []

-- of the delegation, and of the end
abbrev pub delegation_rules : DirectoryValue → ℕ → Moment → Wish → TicketRec → TicketRec → Aim → List (Rule × Bool)
delegation_rules dir at now wish header evidence aim =
    (P11, delegation_is_allowed dir at wish header evidence aim)
    ∷ (P12, chain_is_short dir at header evidence)
    ∷ (T1, end_is_later now (proxy_end dir at now wish header evidence))
    ∷ []

abbrev pub proxy_rules : DirectoryValue → ℕ → Moment → Wish → TicketRec → Aim → ShownEvidence → List (Rule × Bool)
proxy_rules dir at now wish header aim evidence =
    evidence_rules dir at now wish header evidence ++ delegation_rules dir at now wish header evidence.rec aim

-- the first of P1 to P12 and T1 that fails
abbrev pub proxy_verdict : DirectoryValue → ℕ → Moment → Wish → TicketRec → Aim → SeenEvidence → Option Rule
proxy_verdict dir at now wish header aim (Wrong rule) = Some rule
proxy_verdict dir at now wish header aim (Shown evidence) = first_failing (proxy_rules dir at now wish header aim evidence)

-- what a request that no rule denies is known to be: a fact a rule
pub record ProxyGrants (dir : DirectoryValue) (at : ℕ) (now : Moment) (wish : Wish) (header : TicketRec) (aim : Aim) (evidence : ShownEvidence) : Type 0 where
  pub agrees : evidence_agrees wish header evidence ≡ true
  pub lasts : evidence_lasts now evidence ≡ true
  pub reached : evidence_is_reached dir at evidence.rec ≡ true
  pub usable : evidence_may_be_used wish evidence.rec ≡ true
  pub delegable : user_is_delegable evidence.rec ≡ true
  pub allowed : delegation_is_allowed dir at wish header evidence.rec aim ≡ true
  pub short : chain_is_short dir at header evidence.rec ≡ true
  pub lasting : end_is_later now (proxy_end dir at now wish header evidence.rec) ≡ true

-- ---- what is granted

-- forwardable where that is asked for and the evidence is
abbrev pub proxy_flags : Wish → TicketRec → ℕ
proxy_flags wish evidence = bit_if 1 (has_bit 1 wish.options && is_forwardable evidence)

abbrev pub proxy_terms : DirectoryValue → ℕ → Moment → Wish → TicketRec → TicketRec → Aim → Terms
proxy_terms dir at now wish header evidence aim = record {
  aim = aim;
  flags = proxy_flags wish evidence;
  start = now.secs;
  end = proxy_end dir at now wish header evidence;
  session = session_type wish.etypes;
  append = issuer_is_appended evidence;
}

-- the verdict on a request for S4U2proxy whose header keeps its rules
abbrev pub proxy_decision : DirectoryValue → ℕ → Moment → Wish → TicketRec → Aim → SeenEvidence → Decision
proxy_decision dir at now wish header aim (Wrong rule) = Deny rule
proxy_decision dir at now wish header aim (Shown evidence) =
    decided (proxy_verdict dir at now wish header aim (Shown evidence)) (proxy_terms dir at now wish header evidence.rec aim)

-- the requestor, where it is of this realm
abbrev pub requestor_text : RealmRec → TicketRec → List (List ℕ)
requestor_text realm header = if is_local realm header then name_text header.client ∷ [] else []

-- the services that delegated, and the requestor after them where it is of this realm
abbrev pub delegation_made : RealmRec → Principal → TicketRec → TicketRec → Delegation
delegation_made realm server header evidence = record {
  target = target_text server;
  services = services_of evidence.delegation ++ requestor_text realm header;
}
