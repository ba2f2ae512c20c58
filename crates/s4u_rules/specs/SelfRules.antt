-- The rules of S4U2self (MS-SFU, section 3.2.5.1), and what a request for it is granted.
use Rattle.std.specs.Prelude.{ℕ, ◌&&◌, ◌||◌, Bool, true, not, List, [], ◌∷◌, Option, None, Some, is_some, slice_get, if◌then◌else◌}
use Rattle.std.specs.List.{join_with_byte}
use Rattle.kdc_prelude.specs.Options.{holds_of}
use Rattle.kdc_prelude.specs.Steps.{◌>>=◌}
use Rattle.kdc_prelude.specs.Texts.{same_text}
use Rattle.kdc_prelude.specs.Verdicts.{first_failing}
use Rattle.kdc_records.specs.Wishes.{end_is_later}
use Rattle.krb_names.specs.declared.moment.Moment.{Moment}
use Rattle.krb_names.specs.declared.principal.Principal.{Principal}
use Rattle.kdc_records.specs.declared.decision.Aim.{Aim}
use Rattle.kdc_records.specs.declared.decision.Aim.TheVariants.{Krbtgt, Hop, Account}
use Rattle.kdc_records.specs.declared.decision.Decision.{Decision}
use Rattle.kdc_records.specs.declared.decision.Terms.{Terms}
use Rattle.kdc_records.specs.declared.rule.Rule.{Rule}
use Rattle.kdc_records.specs.declared.rule.Rule.TheVariants.{S4, S5, S6, S7, T1}
use Rattle.kdc_records.specs.declared.subject.Subject.{Subject}
use Rattle.kdc_records.specs.declared.ticket_rec.TicketRec.{TicketRec}
use Rattle.kdc_records.specs.declared.wish.Wish.{Wish}
use Rattle.kdc_records.specs.Bits.{bit_if, has_bit}
use Rattle.kdc_records.specs.Decisions.{decided}
use Rattle.kdc_records.specs.Parties.{is_user}
use Rattle.dir_records.specs.declared.records.Account.{Account as AccountRec}
use Rattle.dir_records.specs.declared.records.RealmRec.{RealmRec}
use Rattle.dir_records.specs.DirectoryValue.{DirectoryValue}
use Rattle.dir_core.specs.Lookups.{account_at, account_named, only_part}
use Rattle.route_rules.specs.Aims.{resolve_account}
use Rattle.route_rules.specs.Meanings.{enterprise_pieces}
use Rattle.s4u_rules.specs.Conditions.{has_spn, is_enabled, may_be_delegated}
use Rattle.s4u_rules.specs.TgsRules.{end_within, is_for_its_client, issuer_is_appended, may_be_forwardable, terms_with}

-- what was read of the padata of S4U2self
pub data SeenSelf : Type 0 where
  Wrong : Rule → SeenSelf  -- the first of the rules S1 to S3 that fails
  Shown : SeenSelf

-- ---- the user that is asked for

-- a name, and the realm in which it is one
abbrev pub joined_name : Principal → List ℕ × List ℕ
joined_name name = (join_with_byte 47 name.parts, name.realm)

abbrev pub name_in : Principal → Option (List ℕ × List ℕ) → List ℕ × List ℕ
name_in name None = joined_name name
name_in name (Some pieces) = pieces

-- the account and the realm that an enterprise name of one part `a@C` has (RFC 6806, section 5)
abbrev pub enterprise_user : Principal → Option (List ℕ × List ℕ)
enterprise_user name = only_part name.parts >>= enterprise_pieces name.kind

-- such a name is the name a of realm C; of another name, its parts, joined by `/`, in the realm beside it
unfoldable pub user_asked : Principal → List ℕ × List ℕ
user_asked name = name_in name (enterprise_user name)

-- the user's account in the realm at an index, where it is of that realm
abbrev pub user_record_in : DirectoryValue → ℕ → RealmRec → List ℕ × List ℕ → Option AccountRec
user_record_in dir at realm user = if same_text user.1 realm.name then account_named dir at user.0 >>= account_at dir at else None

unfoldable pub user_record : DirectoryValue → ℕ → Principal → Option AccountRec
user_record dir at name = slice_get dir.realms at >>= λ realm. user_record_in dir at realm (user_asked name)

-- the user is of the realm at an index
abbrev pub user_is_local : DirectoryValue → ℕ → Principal → Bool
user_is_local dir at name = holds_of (λ realm. same_text (user_asked name).1 realm.name) (slice_get dir.realms at)

-- the user of a ticket is the one that a name asks for
abbrev pub is_user_of : Subject → Principal → Bool
is_user_of subject name = same_text subject.realm (user_asked name).1 && same_text subject.name (user_asked name).0

-- ---- the rules

-- the client is the account at a place, and that account has a service principal name
abbrev pub is_served_client : DirectoryValue → Principal → ℕ × ℕ → Bool
is_served_client dir client place =
    holds_of (λ realm. holds_of (λ account. is_user account.name realm.name client && has_spn account) (slice_get realm.accounts place.1)) (slice_get dir.realms place.0)

-- S4: the server is the requestor's own account, and that has a service principal name (MS-SFU, section 3.2.5.1)
abbrev pub server_is_the_requestor : DirectoryValue → ℕ → Wish → TicketRec → Bool
server_is_the_requestor dir at wish rec = holds_of (is_served_client dir rec.client) (wish.server >>= resolve_account dir at)

-- S5: where the user is of this realm, the header's user is its client; a user of another realm is the header's user (own choice;
-- MS-SFU, section 3.2.5.1)
abbrev pub user_fits_header : DirectoryValue → ℕ → TicketRec → Principal → Bool
user_fits_header dir at rec user = if user_is_local dir at user then is_for_its_client rec else is_user_of rec.subject user

-- S6: a user of this realm is an account of it (MS-SFU, section 3.2.5.1)
abbrev pub user_is_known : DirectoryValue → ℕ → Principal → Bool
user_is_known dir at user = not (user_is_local dir at user) || is_some (user_record dir at user)

-- S7: that account is not disabled (own choice)
abbrev pub user_is_enabled : DirectoryValue → ℕ → Principal → Bool
user_is_enabled dir at user = not (user_is_local dir at user) || holds_of is_enabled (user_record dir at user)

-- in the order in which they are tried
abbrev pub self_rules : DirectoryValue → ℕ → Moment → Wish → TicketRec → List (Rule × Bool)
self_rules dir at now wish rec =
    (S4, server_is_the_requestor dir at wish rec)
    ∷ (S5, holds_of (user_fits_header dir at rec) wish.user)
    ∷ (S6, holds_of (user_is_known dir at) wish.user)
    ∷ (S7, holds_of (user_is_enabled dir at) wish.user)
    ∷ (T1, end_is_later now (end_within dir at now wish rec))
    ∷ []

-- the first of S1 to S7 and T1 that fails
abbrev pub self_verdict : DirectoryValue → ℕ → Moment → Wish → TicketRec → SeenSelf → Option Rule
self_verdict dir at now wish rec (Wrong rule) = Some rule
self_verdict dir at now wish rec Shown = first_failing (self_rules dir at now wish rec)

-- ---- what is granted

-- the user is not marked: neither DelegationNotAllowed (MS-SFU, section 3.2.1) of its account in this realm, nor, where it is of
-- another, USER_NOT_DELEGATED of the header's user (MS-PAC, section 2.5)
abbrev pub user_may_be_delegated : DirectoryValue → ℕ → TicketRec → Principal → Bool
user_may_be_delegated dir at rec user =
    if user_is_local dir at user then holds_of may_be_delegated (user_record dir at user) else not (has_bit 17 rec.subject.control)

-- an account that is aimed at is trusted to authenticate
abbrev pub aim_is_trusted : DirectoryValue → ℕ → Aim → Bool
aim_is_trusted dir at Krbtgt = true
aim_is_trusted dir at (Hop trust) = true
aim_is_trusted dir at (Account account) = holds_of (λ found. found.trusted_to_auth) (account_at dir at account)

-- forwardable where that is asked for and the header is, the user is not marked, and the service is trusted to authenticate
abbrev pub self_flags : DirectoryValue → ℕ → Wish → TicketRec → Aim → ℕ
self_flags dir at wish rec aim =
    bit_if 1 (may_be_forwardable wish rec && holds_of (user_may_be_delegated dir at rec) wish.user && aim_is_trusted dir at aim)

-- the ticket of another realm's user keeps the way of the header, and the realm that issued the header comes behind it; that of a
-- user of this realm has none
abbrev pub self_appends : DirectoryValue → ℕ → TicketRec → Wish → Bool
self_appends dir at rec wish = holds_of (λ user. not (user_is_local dir at user)) wish.user && issuer_is_appended rec

abbrev pub self_terms : DirectoryValue → ℕ → Moment → Wish → TicketRec → Aim → Terms
self_terms dir at now wish rec aim = terms_with dir at now wish rec aim (self_flags dir at wish rec aim) (self_appends dir at rec wish)

-- the verdict on a request for S4U2self whose header keeps its rules
abbrev pub self_decision : DirectoryValue → ℕ → Moment → Wish → TicketRec → Aim → SeenSelf → Decision
self_decision dir at now wish rec aim seen = decided (self_verdict dir at now wish rec seen) (self_terms dir at now wish rec aim)
