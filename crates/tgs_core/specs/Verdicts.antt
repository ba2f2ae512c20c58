-- The verdict on a request: the first rule that fails.
use Rattle.std.specs.Prelude.{◌≡◌, ℕ, Bool, List, [], ◌++◌, true, Option, None, Some, is_some}
use Rattle.kdc_prelude.specs.Options.{holds_of}
use Rattle.kdc_prelude.specs.Verdicts.{first_failing}
use Rattle.krb_names.specs.declared.moment.Moment.{Moment}
use Rattle.kdc_records.specs.declared.decision.Aim.{Aim}
use Rattle.kdc_records.specs.declared.rule.Rule.{Rule}
use Rattle.kdc_records.specs.declared.ticket_rec.TicketRec.{TicketRec}
use Rattle.kdc_records.specs.declared.wish.Branch.{Branch}
use Rattle.kdc_records.specs.declared.wish.Branch.TheVariants.{Initial, Ordinary, SelfTicket, Proxy}
use Rattle.dir_records.specs.DirectoryValue.{DirectoryValue}
use Rattle.as_core.specs.AsRequests.{as_ask}
use Rattle.as_core.specs.AsRules.{as_rules}
use Rattle.s4u_rules.specs.Granted.{EndsLater, HeaderGrants, SelfGrants}
use Rattle.s4u_rules.specs.Headers.{Shown}
use Rattle.s4u_rules.specs.SelfRules.{self_rules}
use Rattle.s4u_rules.specs.SelfRules as selves
use Rattle.s4u_rules.specs.TgsRules.{aim_of, header_rules, ordinary_rules}
use Rattle.proxy_rules.specs.ProxyRules.{ProxyGrants, proxy_rules}
use Rattle.proxy_requests.specs.declared.evidence.Evidence.{Evidence}
use Rattle.proxy_requests.specs.Evidences.{evidence_in, evidence_reading_rules, evidence_seen_of}
use Rattle.tgs_requests.specs.declared.header.Header.{Header}
use Rattle.tgs_requests.specs.Askings.{branch_of}
use Rattle.tgs_requests.specs.Headers.{header_in, reading_rules, record_in, shown_header}
use Rattle.tgs_requests.specs.SelfSums.{user_rules}
use Rattle.tgs_core.specs.Requests.{Request, is_tagged, is_version_5, is_within_limit, message_in, opening_rules, realm_is_known, request_in}

-- ---- the rules of a TGS-REQ (RFC 4120, section 3.3.3; MS-SFU, section 3.2.5)

-- of an ordinary request, on the header's record: T1; where there is none, G12 denies
abbrev pub ordinary_rows : DirectoryValue → Moment → Request → Option TicketRec → List (Rule × Bool)
ordinary_rows dir now request None = []
ordinary_rows dir now request (Some rec) = ordinary_rules dir request.realm now request.wish rec

-- of S4U2self, on the header's record: S4 to S7 and T1
abbrev pub self_rows : DirectoryValue → Moment → Request → Option TicketRec → List (Rule × Bool)
self_rows dir now request None = []
self_rows dir now request (Some rec) = self_rules dir request.realm now request.wish rec

-- of S4U2proxy, on the header's record, the evidence's, and what is aimed at: P6 to P12 and T1
abbrev pub aimed_rows : DirectoryValue → Moment → Request → TicketRec → Evidence → Option Aim → List (Rule × Bool)
aimed_rows dir now request rec evidence None = []
aimed_rows dir now request rec evidence (Some aim) = proxy_rules dir request.realm now request.wish rec aim (evidence_seen_of evidence)

-- of the evidence, where it shows a record; where none does, one of P1 to P5 denies
abbrev pub evidence_rows : DirectoryValue → Moment → Request → TicketRec → Option Evidence → List (Rule × Bool)
evidence_rows dir now request rec None = []
evidence_rows dir now request rec (Some evidence) = aimed_rows dir now request rec evidence (aim_of dir request.realm request.wish)

-- of S4U2proxy, on the header's record: P1 to P12 and T1
abbrev pub proxy_rows : DirectoryValue → Moment → Request → Option TicketRec → List (Rule × Bool)
proxy_rows dir now request None = []
proxy_rows dir now request (Some rec) =
    evidence_reading_rules dir request.realm request.message rec
    ++ evidence_rows dir now request rec (evidence_in dir request.realm request.message rec)

-- of a branch, behind those of the header
abbrev pub branch_rows : DirectoryValue → Moment → Request → Header → Branch → List (Rule × Bool)
branch_rows dir now request header Initial = []
branch_rows dir now request header Ordinary = ordinary_rows dir now request (record_in header)
branch_rows dir now request header SelfTicket = user_rules header request.message ++ self_rows dir now request (record_in header)
branch_rows dir now request header Proxy = proxy_rows dir now request (record_in header)

-- of what was opened: G9 to G22, and those of the branch; where nothing was, one of G1 to G5 denies
abbrev pub opened_rows : DirectoryValue → Moment → Request → Branch → Option Header → List (Rule × Bool)
opened_rows dir now request branch None = []
opened_rows dir now request branch (Some header) =
    header_rules dir request.realm now request.wish (shown_header header) ++ branch_rows dir now request header branch

abbrev pub tgs_rules : DirectoryValue → Moment → Request → Branch → List (Rule × Bool)
tgs_rules dir now request branch =
    reading_rules dir request.realm request.message ++ opened_rows dir now request branch (header_in dir request.realm request.message)

-- ---- the rules of a request

-- by how it asks
abbrev pub rules_of_branch : DirectoryValue → Moment → Request → Branch → List (Rule × Bool)
rules_of_branch dir now request Initial = as_rules (as_ask dir request.realm now request.message)
rules_of_branch dir now request Ordinary = tgs_rules dir now request Ordinary
rules_of_branch dir now request SelfTicket = tgs_rules dir now request SelfTicket
rules_of_branch dir now request Proxy = tgs_rules dir now request Proxy

abbrev pub rules_of_request : DirectoryValue → Moment → Option Request → List (Rule × Bool)
rules_of_request dir now None = []
rules_of_request dir now (Some request) = rules_of_branch dir now request (branch_of request.message)

-- the rules of a request, in the order in which they are tried
abbrev pub rules_of : DirectoryValue → Moment → List ℕ → List (Rule × Bool)
rules_of dir now bytes = opening_rules dir bytes ++ rules_of_request dir now (request_in dir bytes)

-- the first rule that fails
unfoldable pub verdict : DirectoryValue → Moment → List ℕ → Option Rule
verdict dir now bytes = first_failing (rules_of dir now bytes)

-- ---- what a request is known to be that no rule denies

-- none of the rules by itself: a fact a rule
pub record OpeningGrants (dir : DirectoryValue) (bytes : List ℕ) : Type 0 where
  pub within : is_within_limit bytes ≡ true
  pub tagged : is_tagged bytes ≡ true
  pub read : is_some (message_in bytes) ≡ true
  pub version : holds_of is_version_5 (message_in bytes) ≡ true
  pub known : holds_of (realm_is_known dir) (message_in bytes) ≡ true

-- none of those of a header: it shows a record; G1 to G8 hold, and a fact for each of G9 to G22
pub record HeaderKept (dir : DirectoryValue) (now : Moment) (request : Request) : Type 0 where
  pub header : Header
  pub rec : TicketRec
  pub opened : header_in dir request.realm request.message ≡ Some header
  pub shown : record_in header ≡ Some rec
  pub reading : first_failing (reading_rules dir request.realm request.message) ≡ None
  pub granted : HeaderGrants dir request.realm now request.wish (Shown (shown_header header))

-- none of those of an ordinary request
pub record OrdinaryGrants (dir : DirectoryValue) (now : Moment) (request : Request) : Type 0 where
  pub kept : HeaderKept dir now request
  pub lasting : EndsLater dir request.realm now request.wish kept.rec

-- none of those of S4U2self: S1 to S3 hold, and a fact for each of the others
pub record SelfTicketGrants (dir : DirectoryValue) (now : Moment) (request : Request) : Type 0 where
  pub kept : HeaderKept dir now request
  pub named : first_failing (user_rules kept.header request.message) ≡ None
  pub granted : SelfGrants dir request.realm now request.wish kept.rec selves.Shown

-- none of those of S4U2proxy: the evidence shows a record, P1 to P5 hold, and a fact for each of the others
pub record ProxyTicketGrants (dir : DirectoryValue) (now : Moment) (request : Request) : Type 0 where
  pub kept : HeaderKept dir now request
  pub evidence : Evidence
  pub found : evidence_in dir request.realm request.message kept.rec ≡ Some evidence
  pub reading : first_failing (evidence_reading_rules dir request.realm request.message kept.rec) ≡ None
  pub granted : ProxyGrants dir request.realm now request.wish kept.rec kept.granted.aim (evidence_seen_of evidence)
