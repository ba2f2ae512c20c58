-- What a TGS-REQ is decided that was read.
use Rattle.std.specs.Prelude.{◌≡◌, ℕ, Bool, true, false, None, Some}
use Rattle.kdc_prelude.specs.Verdicts.{first_failing}
use Rattle.krb_names.specs.declared.moment.Moment.{Moment}
use Rattle.krb_messages.specs.declared.kdc_req.KdcReq.{KdcReq}
use Rattle.kdc_records.specs.declared.decision.Aim.{Aim}
use Rattle.kdc_records.specs.declared.decision.Decision.{Decision}
use Rattle.kdc_records.specs.declared.decision.Terms.{Terms}
use Rattle.kdc_records.specs.declared.ticket_rec.TicketRec.{TicketRec}
use Rattle.kdc_records.specs.declared.wish.Branch.{Branch}
use Rattle.kdc_records.specs.declared.wish.Branch.TheVariants.{Initial, Ordinary, SelfTicket, Proxy}
use Rattle.dir_records.specs.DirectoryValue.{DirectoryValue}
use Rattle.s4u_rules.specs.HeaderViews.{self_seen}
use Rattle.s4u_rules.specs.SelfRules.{self_decision}
use Rattle.s4u_rules.specs.TgsRules.{aim_of, header_rules, ordinary_decision}
use Rattle.tgs_requests.specs.declared.header.Header.{Header}
use Rattle.tgs_requests.specs.Askings.{asks_self, self_asked, wish_of}
use Rattle.tgs_requests.specs.Headers.{IsHeader, header_in, reading_rules, record_in, shown_header}
use Rattle.tgs_requests.specs.SelfSums.{user_rules, view_of}
use Rattle.tgs_core.specs.declared.tgs_read.TgsRead.{TgsRead}
use Rattle.tgs_core.specs.Grants.{Grounds, Presented, grounds_of, presented_with, terms_of}
use Rattle.tgs_core.specs.Requests.{Request}
use Rattle.tgs_core.specs.Verdicts.{opened_rows}

-- the padata of S4U2self where it is asked for, the wish and the header of a request to the realm at an index; none of G1 to G8 fails
pub record IsTgsRead (dir : DirectoryValue) (at : ℕ) (message : KdcReq) (read : TgsRead) : Type 0 where
  pub asked : asks_self message ≡ true → read.asked ≡ self_asked message
  pub wish : read.wish ≡ wish_of message
  pub header : header_in dir at message ≡ Some read.header
  pub known : IsHeader read.header
  pub ruled : first_failing (reading_rules dir at message) ≡ None

-- a TGS-REQ whose header keeps its rules: what it brings, and what the request aims at
pub record IsKept (dir : DirectoryValue) (now : Moment) (message : KdcReq) (at : ℕ) (header : Header) (shown : Presented) (aim : Aim) : Type 0 where
  pub opened : header_in dir at message ≡ Some header
  pub shows : record_in header ≡ Some shown.rec
  pub is : presented_with header shown.rec ≡ shown
  pub ruled : first_failing (header_rules dir at now (wish_of message) (shown_header header)) ≡ None
  pub aims : aim_of dir at (wish_of message) ≡ Some aim

-- S4U2proxy is asked for
abbrev pub is_proxy : Branch → Bool
is_proxy Initial = false
is_proxy Ordinary = false
is_proxy SelfTicket = false
is_proxy Proxy = true

-- behind the rules of the header, whose record this is, but for S4U2proxy
abbrev pub branch_decision : DirectoryValue → Moment → Request → Header → TicketRec → Aim → Branch → Decision
branch_decision dir now request header rec aim SelfTicket =
    self_decision dir request.realm now request.wish rec aim (self_seen (view_of (first_failing (user_rules header request.message))))
branch_decision dir now request header rec aim Initial = ordinary_decision dir request.realm now request.wish rec aim
branch_decision dir now request header rec aim Ordinary = ordinary_decision dir request.realm now request.wish rec aim
branch_decision dir now request header rec aim Proxy = ordinary_decision dir request.realm now request.wish rec aim

-- no rule behind the opening of the header fails, and the request is granted these terms on these grounds
pub record IsGranted (dir : DirectoryValue) (now : Moment) (request : Request) (branch : Branch) (header : Header) (grounds : Grounds) (terms : Terms) : Type 0 where
  pub allowed : first_failing (opened_rows dir now request branch (Some header)) ≡ None
  pub stands : grounds_of dir request branch ≡ Some grounds
  pub given : terms_of dir now request grounds ≡ Some terms
