-- The rules of a TGS-REQ whose header was opened (RFC 4120, section 3.3.3), and what an ordinary one is granted.
use Rattle.std.specs.Prelude.{ℕ, ◌+◌, ◌-◌, ◌&&◌, ◌||◌, Bool, true, false, not, min, nat_le, nat_lt, List, [], ◌∷◌, ◌++◌, Option, Some, is_none, is_some, slice_get}
use Rattle.std.specs.List.{list_any}
use Rattle.kdc_prelude.specs.Options.{holds_of}
use Rattle.kdc_prelude.specs.Steps.{◌>>=◌}
use Rattle.kdc_prelude.specs.Texts.{is_one_of, same_text}
use Rattle.kdc_prelude.specs.Verdicts.{first_failing}
use Rattle.krb_names.specs.declared.moment.Moment.{Moment}
use Rattle.krb_names.specs.Etypes.{etype_numbered}
use Rattle.krb_names.specs.Moments.{in_micros}
use Rattle.krb_names.specs.SidValue.{followed_by, same_sid}
use Rattle.kdc_records.specs.declared.decision.Aim.{Aim}
use Rattle.kdc_records.specs.declared.decision.Aim.TheVariants.{Krbtgt, Hop, Account}
use Rattle.kdc_records.specs.declared.decision.Decision.{Decision}
use Rattle.kdc_records.specs.declared.decision.Terms.{Terms}
use Rattle.kdc_records.specs.declared.rule.Rule.{Rule}
use Rattle.kdc_records.specs.declared.rule.Rule.TheVariants.{G9, G10, G11, G12, G13, G14, G15, G16, G17, G18, G19, G20, G21, G22, T1}
use Rattle.kdc_records.specs.declared.subject.Subject.{Subject}
use Rattle.kdc_records.specs.declared.ticket_rec.TicketRec.{TicketRec}
use Rattle.kdc_records.specs.declared.wish.Branch.{Branch}
use Rattle.kdc_records.specs.declared.wish.Branch.TheVariants.{Initial, Ordinary, SelfTicket, Proxy}
use Rattle.kdc_records.specs.declared.wish.Wish.{Wish}
use Rattle.kdc_records.specs.Bits.{bit_if, has_bit}
use Rattle.kdc_records.specs.Decisions.{decided}
use Rattle.kdc_records.specs.Parties.{is_user}
use Rattle.kdc_records.specs.Wishes.{are_clear, end_by, end_is_later, session_type, start_is_now}
use Rattle.dir_records.specs.declared.records.Account.{Account as AccountRec}
use Rattle.dir_records.specs.declared.records.RealmRec.{RealmRec}
use Rattle.dir_records.specs.DirectoryValue.{DirectoryValue}
use Rattle.dir_core.specs.Lives.{longest_life}
use Rattle.dir_core.specs.Lookups.{account_at}
use Rattle.route_rules.specs.Aims.{resolve}
use Rattle.route_rules.specs.Cross.{is_reached_subject, is_reached_way, issuing_realm}
use Rattle.route_rules.specs.Requestor.{requestor_account}
use Rattle.s4u_rules.specs.Conditions.{is_enabled}
use Rattle.s4u_rules.specs.Headers.{SeenHeader, Shown, ShownHeader, Wrong}

-- ---- the header

-- G9: the authenticator was made within 300 seconds of now (RFC 4120, section 3.3.3)
abbrev pub stamp_is_fresh : Moment → ShownHeader → Bool
stamp_is_fresh now header = nat_le ((header.stamp - in_micros now) + (in_micros now - header.stamp)) 300000000

-- G10: the header starts at most 300 seconds after now, and is not invalid (RFC 4120, section 3.2.3)
abbrev pub header_has_begun : Moment → ShownHeader → Bool
header_has_begun now header = nat_le header.start (now.secs + 300) && not header.invalid

-- G11: now is earlier than its end (RFC 4120, section 3.2.3)
abbrev pub header_lasts : Moment → ShownHeader → Bool
header_lasts now header = nat_lt now.secs header.end

-- G12: its PAC reads, with the right signatures, and the client information agrees (MS-PAC, section 2.8)
abbrev pub header_is_certified : ShownHeader → Bool
header_is_certified header = is_some header.rec

-- ---- the requestor: the header's client

-- the client and the user of a ticket are one
abbrev pub is_for_its_client : TicketRec → Bool
is_for_its_client rec = is_user rec.subject.name rec.subject.realm rec.client

-- the requestor is of this realm
abbrev pub is_local : RealmRec → TicketRec → Bool
is_local realm rec = same_text rec.client.realm realm.name

-- its account
abbrev pub requestor_record : DirectoryValue → ℕ → TicketRec → Option AccountRec
requestor_record dir at rec = requestor_account dir at rec.client >>= account_at dir at

-- the account has the SID of the header's user
abbrev pub has_sid_of : RealmRec → Subject → AccountRec → Bool
has_sid_of realm subject account = same_sid (followed_by realm.sid account.number) subject.sid

-- the account is the user that it says, where the header is for its own client
abbrev pub is_the_subject : RealmRec → TicketRec → AccountRec → Bool
is_the_subject realm rec account = not (is_for_its_client rec) || has_sid_of realm rec.subject account

-- G13: a requestor of this realm has an account, and where it is the header's user too, that account has the user's SID (own choice)
abbrev pub requestor_is_known : DirectoryValue → ℕ → TicketRec → Bool
requestor_is_known dir at rec =
    holds_of (λ realm. not (is_local realm rec) || holds_of (is_the_subject realm rec) (requestor_record dir at rec)) (slice_get dir.realms at)

-- G14: the account of a requestor of this realm is not disabled (own choice)
abbrev pub requestor_is_enabled : DirectoryValue → ℕ → TicketRec → Bool
requestor_is_enabled dir at rec =
    holds_of (λ realm. not (is_local realm rec) || holds_of is_enabled (requestor_record dir at rec)) (slice_get dir.realms at)

-- ---- what is asked for

-- G18: forwarded, proxy, enc-tkt-in-skey, renew and validate are not asked for, and not both forms of S4U at once (own choice)
abbrev pub options_are_plain : Wish → Bool
options_are_plain wish = are_clear (2 ∷ 4 ∷ 28 ∷ 30 ∷ 31 ∷ []) wish.options && not wish.both

-- what the server is to the realm at an index
abbrev pub aim_of : DirectoryValue → ℕ → Wish → Option Aim
aim_of dir at wish = wish.server >>= resolve dir at

-- G19: the server is known, and this realm's krbtgt only where the header is no cross-realm ticket (RFC 4120, section 3.3.3; the
-- krbtgt is an own choice)
abbrev pub aim_is_allowed : TicketRec → Aim → Bool
aim_is_allowed rec Krbtgt = is_none (issuing_realm rec.holder)
aim_is_allowed rec (Hop trust) = true
aim_is_allowed rec (Account account) = true

-- the same, where the header has a record
abbrev pub aim_may_be_asked : Option TicketRec → Aim → Bool
aim_may_be_asked rec aim = holds_of (λ header. aim_is_allowed header aim) rec

-- G20: an account that is aimed at is not disabled (own choice)
abbrev pub aim_is_enabled : DirectoryValue → ℕ → Aim → Bool
aim_is_enabled dir at Krbtgt = true
aim_is_enabled dir at (Hop trust) = true
aim_is_enabled dir at (Account account) = holds_of is_enabled (account_at dir at account)

-- G21: the etype list has 17 or 18 (RFC 4120, section 3.3.3)
abbrev pub etype_is_listed : Wish → Bool
etype_is_listed wish = list_any (λ number. is_some (etype_numbered number)) wish.etypes

-- asked for by S4U2self
abbrev pub is_self : Branch → Bool
is_self Initial = false
is_self Ordinary = false
is_self SelfTicket = true
is_self Proxy = false

-- G22: the header has no delegation, and but for S4U2self its user is its client (MS-SFU, section 3.2.5.2)
abbrev pub header_is_own : Wish → TicketRec → Bool
header_is_own wish rec = is_none rec.delegation && (is_self wish.branch || is_for_its_client rec)

-- ---- the rules of the header, in the order in which they are tried

-- of what was opened
abbrev pub opened_rules : Moment → ShownHeader → List (Rule × Bool)
opened_rules now header =
    (G9, stamp_is_fresh now header)
    ∷ (G10, header_has_begun now header)
    ∷ (G11, header_lasts now header)
    ∷ (G12, header_is_certified header)
    ∷ []

-- of its record
abbrev pub party_rules : DirectoryValue → ℕ → Option TicketRec → List (Rule × Bool)
party_rules dir at rec =
    (G13, holds_of (requestor_is_known dir at) rec)
    ∷ (G14, holds_of (requestor_is_enabled dir at) rec)
    ∷ (G15, holds_of (is_reached_subject dir at) rec)
    ∷ (G16, holds_of (is_reached_way dir at) rec)
    ∷ []

-- of what is asked for
abbrev pub wish_rules : DirectoryValue → ℕ → Moment → Wish → Option TicketRec → List (Rule × Bool)
wish_rules dir at now wish rec =
    (G17, start_is_now now wish)
    ∷ (G18, options_are_plain wish)
    ∷ (G19, holds_of (aim_may_be_asked rec) (aim_of dir at wish))
    ∷ (G20, holds_of (aim_is_enabled dir at) (aim_of dir at wish))
    ∷ (G21, etype_is_listed wish)
    ∷ (G22, holds_of (header_is_own wish) rec)
    ∷ []

abbrev pub header_rules : DirectoryValue → ℕ → Moment → Wish → ShownHeader → List (Rule × Bool)
header_rules dir at now wish header = opened_rules now header ++ party_rules dir at header.rec ++ wish_rules dir at now wish header.rec

-- the first of G1 to G22 that fails
abbrev pub header_verdict : DirectoryValue → ℕ → Moment → Wish → SeenHeader → Option Rule
header_verdict dir at now wish (Wrong rule) = Some rule
header_verdict dir at now wish (Shown header) = first_failing (header_rules dir at now wish header)

-- ---- when a ticket ends, and what an ordinary one has

-- as asked for, within the realm's longest life, and no later than the header
abbrev pub end_within : DirectoryValue → ℕ → Moment → Wish → TicketRec → ℕ
end_within dir at now wish rec = end_by wish.till (min (now.secs + longest_life dir at) rec.end)

abbrev pub ordinary_rules : DirectoryValue → ℕ → Moment → Wish → TicketRec → List (Rule × Bool)
ordinary_rules dir at now wish rec = (T1, end_is_later now (end_within dir at now wish rec)) ∷ []

-- forwardable is asked for, and the header is
abbrev pub may_be_forwardable : Wish → TicketRec → Bool
may_be_forwardable wish rec = has_bit 1 wish.options && has_bit 1 rec.flags

-- forwardable where that is asked for and the header is; pre-authent as the header
abbrev pub ordinary_flags : Wish → TicketRec → ℕ
ordinary_flags wish rec = bit_if 1 (may_be_forwardable wish rec) + bit_if 10 (has_bit 10 rec.flags)

-- the realm that issued a cross-realm ticket comes behind the realms on its way, unless it is the user's or among them (RFC 4120,
-- section 3.3.3.2)
abbrev pub issuer_is_appended : TicketRec → Bool
issuer_is_appended rec =
    holds_of (λ issuer. not (same_text issuer rec.subject.realm) && not (is_one_of rec.transited issuer)) (issuing_realm rec.holder)

-- a ticket from now on, with these flags; the realm that issued the header is appended to its way or not
abbrev pub terms_with : DirectoryValue → ℕ → Moment → Wish → TicketRec → Aim → ℕ → Bool → Terms
terms_with dir at now wish rec aim flags append = record {
  aim = aim;
  flags = flags;
  start = now.secs;
  end = end_within dir at now wish rec;
  session = session_type wish.etypes;
  append = append;
}

abbrev pub ordinary_terms : DirectoryValue → ℕ → Moment → Wish → TicketRec → Aim → Terms
ordinary_terms dir at now wish rec aim = terms_with dir at now wish rec aim (ordinary_flags wish rec) (issuer_is_appended rec)

-- the verdict of T1, and what an ordinary request is granted
abbrev pub ordinary_decision : DirectoryValue → ℕ → Moment → Wish → TicketRec → Aim → Decision
ordinary_decision dir at now wish rec aim = decided (first_failing (ordinary_rules dir at now wish rec)) (ordinary_terms dir at now wish rec aim)
