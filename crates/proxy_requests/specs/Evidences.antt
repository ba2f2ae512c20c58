-- The evidence of a request for S4U2proxy (MS-SFU, section 3.2.5.2): its additional ticket, in the role that the requestor gives it.
use Rattle.std.specs.Prelude.{◌≡◌, ℕ, Bool, List, [], ◌∷◌, Option, None, Some, is_some, option_and_then, option_map, Ok, if◌then◌else◌}
use Rattle.kdc_prelude.specs.Options.{holds_of}
use Rattle.krb_tickets.specs.declared.ticket.Ticket.{Ticket}
use Rattle.krb_messages.specs.declared.kdc_req.KdcReq.{KdcReq}
use Rattle.kdc_records.specs.declared.rule.Rule.{Rule}
use Rattle.kdc_records.specs.declared.rule.Rule.TheVariants.{P1, P2, P3, P4, P5}
use Rattle.kdc_records.specs.declared.ticket_rec.TicketRec.{TicketRec}
use Rattle.kdc_records.specs.Bits.{has_bit}
use Rattle.dir_records.specs.DirectoryValue.{DirectoryValue}
use Rattle.route_rules.specs.Requestor.{requestor_account}
use Rattle.ticket_laws.specs.Writable.{IsWritablePart}
use Rattle.ticket_parts.specs.Sound.{IsSound}
use Rattle.ticket_codec.specs.declared.opening.Opened.{Opened}
use Rattle.ticket_codec.specs.declared.presenting.Certified.{Certified}
use Rattle.ticket_codec.specs.declared.role.Role.{Role}
use Rattle.ticket_codec.specs.declared.role.Role.TheVariants.{Evidence as AsEvidence, CrossEvidence}
use Rattle.ticket_codec.specs.Opening.{opened_with}
use Rattle.ticket_codec.specs.Presented.{certified, shown, shown_of}
use Rattle.ticket_codec.specs.Roles.{holding}
use Rattle.ticket_codec.specs.Rules.{evidence_is_for_requestor, evidence_key_fits, evidence_opens, evidence_pac_is_right}
use Rattle.proxy_rules.specs.ProxyRules.{requestor_is_local, ShownEvidence}
use Rattle.tgs_requests.specs.Askings.{only}
use Rattle.proxy_requests.specs.declared.evidence.Evidence.{Evidence}

-- ---- what is read

-- the additional tickets of a request, if there are any
abbrev pub tickets_of : Option (List Ticket) → List Ticket
tickets_of None = []
tickets_of (Some tickets) = tickets

-- the evidence ticket: the additional ticket of a request, if there is exactly one (MS-SFU, section 3.2.5.2)
abbrev pub ticket_asked : KdcReq → Option Ticket
ticket_asked message = only (tickets_of message.req_body.additional_tickets)

-- the role of the evidence ticket: of a requestor of this realm its account's, if it has one; of a requestor of another realm a
-- cross-realm ticket's
abbrev pub role_of : Bool → Option ℕ → Option Role
role_of is_local account = if is_local then option_map AsEvidence account else Some CrossEvidence

-- that of the requestor, the header's client, at the realm at an index
unfoldable pub requestor_role : DirectoryValue → ℕ → TicketRec → Option Role
requestor_role dir at header = role_of (requestor_is_local dir at header) (requestor_account dir at header.client)

abbrev pub evidence_with : Opened → Certified → Evidence
evidence_with opened certified = record { opened = opened; certified = certified }

-- the evidence of a ticket that was opened, where its PAC reads and its signatures are right
abbrev pub evidence_by : DirectoryValue → ℕ → Opened → Option Evidence
evidence_by dir at opened = option_map (evidence_with opened) (certified dir at opened)

-- that of a ticket in a role, opened with the key of its holder, whatever the version
abbrev pub evidence_of : DirectoryValue → ℕ → Ticket → Role → Option Evidence
evidence_of dir at ticket role = option_and_then (evidence_by dir at) (option_and_then (opened_with ticket) (holding dir at role ticket))

-- that of a ticket, where it is given a role
abbrev pub evidence_given : DirectoryValue → ℕ → Option Role → Ticket → Option Evidence
evidence_given dir at role ticket = option_and_then (evidence_of dir at ticket) role

-- the evidence of a request to the realm at an index, whose header has this record
unfoldable pub evidence_in : DirectoryValue → ℕ → KdcReq → TicketRec → Option Evidence
evidence_in dir at message header = option_and_then (evidence_given dir at (requestor_role dir at header)) (ticket_asked message)

-- what is known of an evidence that was read: what was sealed can be written, and its record is sound
pub record IsEvidence (evidence : Evidence) : Type 0 where
  pub part : IsWritablePart evidence.opened.part
  pub rec : IsSound evidence.certified.rec

-- ---- the rules

-- a test of the evidence ticket in its role, where both are there
abbrev pub of_evidence : (Role → Ticket → Bool) → Option Role → Option Ticket → Bool
of_evidence test role ticket = holds_of (λ asked. holds_of (λ given. test given asked) role) ticket

-- P1: there is exactly one additional ticket (MS-SFU, section 3.2.5.2)
abbrev pub one_ticket_is_asked : KdcReq → Bool
one_ticket_is_asked message = is_some (ticket_asked message)

-- in the order in which they are tried
abbrev pub evidence_reading_rules : DirectoryValue → ℕ → KdcReq → TicketRec → List (Rule × Bool)
evidence_reading_rules dir at message header =
    (P1, one_ticket_is_asked message)
    ∷ (P2, of_evidence (evidence_is_for_requestor dir at) (requestor_role dir at header) (ticket_asked message))
    ∷ (P3, of_evidence (evidence_key_fits dir at) (requestor_role dir at header) (ticket_asked message))
    ∷ (P4, of_evidence (evidence_opens dir at) (requestor_role dir at header) (ticket_asked message))
    ∷ (P5, of_evidence (evidence_pac_is_right dir at) (requestor_role dir at header) (ticket_asked message))
    ∷ []

-- what a request that none of them denies is known to have: its evidence ticket, in the role that the requestor gives it, shows the
-- evidence
pub record EvidenceKept (dir : DirectoryValue) (at : ℕ) (message : KdcReq) (header : TicketRec) : Type 0 where
  pub ticket : Ticket
  pub role : Role
  pub evidence : Evidence
  pub asked : ticket_asked message ≡ Some ticket
  pub given : requestor_role dir at header ≡ Some role
  pub found : evidence_in dir at message header ≡ Some evidence
  pub shows : shown dir at role ticket ≡ Ok (shown_of evidence.opened evidence.certified)

-- ---- as the rules see it

abbrev pub evidence_seen_of : Evidence → ShownEvidence
evidence_seen_of evidence = record {
  rec = evidence.certified.rec;
  invalid = has_bit 7 evidence.opened.part.flags;
  agrees = evidence.certified.agrees;
}
