-- The rules of an AS-REQ (RFC 4120, section 3.1.3), and what it is granted.
use Rattle.std.specs.Prelude.{◌≡◌, ℕ, ℤ, pos, negsuc, ◌+◌, ◌-◌, ◌==◌, ◌&&◌, ◌||◌, Bool, true, false, not, nat_le, List, [], ◌∷◌, ◌++◌, Option, None, Some, is_some, if◌then◌else◌}
use Rattle.std.specs.List.{list_any}
use Rattle.kdc_prelude.specs.Options.{holds_of}
use Rattle.kdc_prelude.specs.Steps.{◌>>=◌}
use Rattle.kdc_prelude.specs.Verdicts.{first_failing}
use Rattle.krb_names.specs.declared.key.Key.{Key}
use Rattle.krb_names.specs.declared.moment.Moment.{Moment}
use Rattle.krb_names.specs.declared.principal.Principal.{Principal}
use Rattle.krb_names.specs.Etypes.{etype_number}
use Rattle.krb_names.specs.Moments.{in_micros}
use Rattle.krb_tickets.specs.Pac.{is_number}
use Rattle.kdc_records.specs.declared.decision.Aim.{Aim}
use Rattle.kdc_records.specs.declared.decision.Aim.TheVariants.{Krbtgt, Hop, Account}
use Rattle.kdc_records.specs.declared.decision.Decision.{Decision}
use Rattle.kdc_records.specs.declared.decision.Terms.{Terms}
use Rattle.kdc_records.specs.declared.rule.Rule.{Rule}
use Rattle.kdc_records.specs.declared.rule.Rule.TheVariants.{A1, A2, A3, A4, A5, A6, A7, A8, A9, A10}
use Rattle.kdc_records.specs.declared.wish.Wish.{Wish}
use Rattle.kdc_records.specs.Bits.{bit_if, has_bit}
use Rattle.kdc_records.specs.Decisions.{decided}
use Rattle.kdc_records.specs.Wishes.{are_clear, end_by, end_is_later, session_type, start_is_now}
use Rattle.dir_records.specs.declared.records.Account.{Account as AccountRec}
use Rattle.dir_records.specs.DirectoryValue.{DirectoryValue}
use Rattle.dir_core.specs.Lives.{longest_life}
use Rattle.dir_core.specs.Lookups.{account_at, only_part}
use Rattle.route_rules.specs.Aims.{resolve, resolve_account}
use Rattle.as_core.specs.Stamps.{Absent, At, Stamp, Unread}

-- ---- what the rules look at

-- the account at a place, where that is in the realm at an index
abbrev pub index_in : ℕ → ℕ × ℕ → Option ℕ
index_in realm place = if place.0 == realm then Some place.1 else None

-- the account of the realm at an index that a client's name of one part gives: by its name, or as an enterprise name of this realm
abbrev pub client_index : DirectoryValue → ℕ → Principal → Option ℕ
client_index dir realm name = if is_some (only_part name.parts) then resolve_account dir realm name >>= index_in realm else None

-- the account that asks
abbrev pub client_account : DirectoryValue → ℕ → Option Principal → Option AccountRec
client_account dir realm client = client >>= client_index dir realm >>= account_at dir realm

-- what the asked server is to the realm at an index
abbrev pub server_aim : DirectoryValue → ℕ → Option Principal → Option Aim
server_aim dir realm server = server >>= resolve dir realm

-- the end of the ticket: as asked for, and within the realm's longest life
abbrev pub as_end : Moment → ℕ → Wish → ℕ
as_end now life wish = end_by wish.till (now.secs + life)

-- an AS-REQ at a moment: the account that asks and what the server is, where there are such, and when the ticket ends
pub record AsRequest : Type 0 where
  pub account : Option AccountRec
  pub aim : Option Aim
  pub end : ℕ
  pub wish : Wish
  pub now : Moment
  pub stamp : Stamp

abbrev pub as_request : DirectoryValue → ℕ → Moment → Wish → Stamp → AsRequest
as_request dir realm now wish stamp = record {
  account = client_account dir realm wish.client;
  aim = server_aim dir realm wish.server;
  end = as_end now (longest_life dir realm) wish;
  wish = wish;
  now = now;
  stamp = stamp;
}

-- ---- the rules

-- A2: the client's account is not disabled (RFC 4120, section 3.1.3)
abbrev pub client_is_enabled : AccountRec → Bool
client_is_enabled account = not account.disabled

-- A3: the server is this realm's krbtgt (own choice)
abbrev pub server_is_krbtgt : Aim → Bool
server_is_krbtgt Krbtgt = true
server_is_krbtgt (Hop trust) = false
server_is_krbtgt (Account account) = false

-- A5: forwarded, proxy, cname-in-addl-tkt, enc-tkt-in-skey, renew and validate are not asked for (RFC 4120, section 3.1.3, and MS-SFU,
-- section 2.2.3)
abbrev pub options_are_plain : Wish → Bool
options_are_plain wish = are_clear (2 ∷ 4 ∷ 14 ∷ 28 ∷ 30 ∷ 31 ∷ []) wish.options

-- A6: the etype list has the type of the client's key (RFC 4120, section 3.1.3)
abbrev pub key_type_is_listed : Wish → AccountRec → Bool
key_type_is_listed wish account = list_any (is_number (etype_number account.key.key.etype)) wish.etypes

-- A7: an account that needs pre-authentication sends a timestamp (RFC 4120, section 3.1.3)
abbrev pub stamp_is_there : Stamp → AccountRec → Bool
stamp_is_there Absent account = not account.preauth
stamp_is_there Unread account = true
stamp_is_there (At micros) account = true

-- A8: a timestamp opens with the client's key and reads (RFC 4120, section 5.2.7.2)
abbrev pub stamp_is_read : Stamp → Bool
stamp_is_read Absent = true
stamp_is_read Unread = false
stamp_is_read (At micros) = true

-- A9: a timestamp is within 300 seconds of now (RFC 4120, section 3.1.3)
abbrev pub stamp_is_fresh : Moment → Stamp → Bool
stamp_is_fresh now Absent = true
stamp_is_fresh now Unread = true
stamp_is_fresh now (At micros) = nat_le ((micros - in_micros now) + (in_micros now - micros)) 300000000

-- of the parties
abbrev pub party_rules : AsRequest → List (Rule × Bool)
party_rules ask = (A1, is_some ask.account) ∷ (A2, holds_of client_is_enabled ask.account) ∷ (A3, holds_of server_is_krbtgt ask.aim) ∷ []

-- of what is asked for
abbrev pub wish_rules : AsRequest → List (Rule × Bool)
wish_rules ask =
    (A4, start_is_now ask.now ask.wish)
    ∷ (A5, options_are_plain ask.wish)
    ∷ (A6, holds_of (key_type_is_listed ask.wish) ask.account)
    ∷ []

-- of the pre-authentication, and of the end
abbrev pub stamp_rules : AsRequest → List (Rule × Bool)
stamp_rules ask =
    (A7, holds_of (stamp_is_there ask.stamp) ask.account)
    ∷ (A8, stamp_is_read ask.stamp)
    ∷ (A9, stamp_is_fresh ask.now ask.stamp)
    ∷ (A10, end_is_later ask.now ask.end)
    ∷ []

-- the rules of an AS-REQ, in the order in which they are tried
abbrev pub as_rules : AsRequest → List (Rule × Bool)
as_rules ask = party_rules ask ++ wish_rules ask ++ stamp_rules ask

-- what a request that no rule denies is known to be: a fact a rule
pub record AsGrants (ask : AsRequest) : Type 0 where
  pub known : is_some ask.account ≡ true
  pub enabled : holds_of client_is_enabled ask.account ≡ true
  pub krbtgt : holds_of server_is_krbtgt ask.aim ≡ true
  pub from_now : start_is_now ask.now ask.wish ≡ true
  pub plain : options_are_plain ask.wish ≡ true
  pub listed : holds_of (key_type_is_listed ask.wish) ask.account ≡ true
  pub authenticated : holds_of (stamp_is_there ask.stamp) ask.account ≡ true
  pub read : stamp_is_read ask.stamp ≡ true
  pub fresh : stamp_is_fresh ask.now ask.stamp ≡ true
  pub lasting : end_is_later ask.now ask.end ≡ true

-- ---- what is granted

-- the account is not marked DelegationNotAllowed (MS-SFU, section 3.2.1)
abbrev pub may_be_delegated : AccountRec → Bool
may_be_delegated account = not account.not_delegated

-- a timestamp was opened
abbrev pub is_stamped : Stamp → Bool
is_stamped Absent = false
is_stamped Unread = false
is_stamped (At micros) = true

-- initial; forwardable where that is asked for and the account is not marked; pre-authent where a timestamp was opened
abbrev pub as_flags : AsRequest → ℕ
as_flags ask =
    bit_if 1 (has_bit 1 ask.wish.options && holds_of may_be_delegated ask.account) + bit_if 9 true + bit_if 10 (is_stamped ask.stamp)

-- a ticket-granting ticket of this realm from now on
abbrev pub as_terms : AsRequest → Terms
as_terms ask = record {
  aim = Krbtgt;
  flags = as_flags ask;
  start = ask.now.secs;
  end = ask.end;
  session = session_type ask.wish.etypes;
  append = false;
}

-- the verdict on an AS-REQ
abbrev pub as_decision : AsRequest → Decision
as_decision ask = decided (first_failing (as_rules ask)) (as_terms ask)
