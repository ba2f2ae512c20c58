-- The rules of tickets that are shown, each a condition of its own. A later one is judged whatever the earlier ones say, and
-- fails where there is no holder, or nothing that opens.
use Rattle.std.specs.Prelude.{ℕ, Bool, List, [], ◌∷◌, ◌++◌, Option, None, Some, is_some, option_and_then, Result, Ok, Err}
use Rattle.kdc_prelude.specs.Options.{holds_of}
use Rattle.krb_tickets.specs.declared.ticket.Ticket.{Ticket}
use Rattle.kdc_records.specs.declared.rule.Rule.{Rule}
use Rattle.kdc_records.specs.declared.rule.Rule.TheVariants.{G2, G3, G4, G12, P2, P3, P4, P5}
use Rattle.dir_records.specs.DirectoryValue.{DirectoryValue}
use Rattle.ticket_codec.specs.declared.role.Role.{Role}
use Rattle.ticket_codec.specs.declared.role.Role.TheVariants.{Header}
use Rattle.ticket_codec.specs.Opening.{is_for_key, opened_with}
use Rattle.ticket_codec.specs.Presented.{certified}
use Rattle.ticket_codec.specs.Roles.{holding}

-- ---- in any role

abbrev pub is_for_a_holder : DirectoryValue → ℕ → Role → Ticket → Bool
is_for_a_holder dir at role ticket = is_some (holding dir at role ticket)

abbrev pub key_fits : DirectoryValue → ℕ → Role → Ticket → Bool
key_fits dir at role ticket = holds_of (λ held. is_for_key held.key ticket.sealed) (holding dir at role ticket)

abbrev pub opens : DirectoryValue → ℕ → Role → Ticket → Bool
opens dir at role ticket = is_some (option_and_then (opened_with ticket) (holding dir at role ticket))

abbrev pub pac_is_right : DirectoryValue → ℕ → Role → Ticket → Bool
pac_is_right dir at role ticket = holds_of (λ opened. is_some (certified dir at opened)) (option_and_then (opened_with ticket) (holding dir at role ticket))

-- ---- the header

-- G2: the header is a ticket-granting ticket for this realm, which it or a realm with a trust in it issued (RFC 4120, section 3.3.2)
unfoldable pub header_is_for_this_realm : DirectoryValue → ℕ → Ticket → Bool
header_is_for_this_realm dir at ticket = is_for_a_holder dir at Header ticket

-- G3: the header is sealed with a key of its holder's version, if it tells one, and type (RFC 4120, section 3.2.3)
unfoldable pub header_key_fits : DirectoryValue → ℕ → Ticket → Bool
header_key_fits dir at ticket = key_fits dir at Header ticket

-- G4: the header opens with that key, and what was sealed reads (RFC 4120, section 3.2.3)
unfoldable pub header_opens : DirectoryValue → ℕ → Ticket → Bool
header_opens dir at ticket = opens dir at Header ticket

-- G12, but for the client information: the header's PAC reads, and its signatures are right (MS-PAC, section 2.8)
unfoldable pub header_pac_is_right : DirectoryValue → ℕ → Ticket → Bool
header_pac_is_right dir at ticket = pac_is_right dir at Header ticket

-- ---- the evidence, in the role that the requestor gives it

-- P2: the evidence is for the requestor: a ticket of this realm for its account, or where the requestor is of another realm a
-- cross-realm ticket-granting ticket into this realm (MS-SFU, section 3.2.5.2)
unfoldable pub evidence_is_for_requestor : DirectoryValue → ℕ → Role → Ticket → Bool
evidence_is_for_requestor dir at role ticket = is_for_a_holder dir at role ticket

-- P3: as G3
unfoldable pub evidence_key_fits : DirectoryValue → ℕ → Role → Ticket → Bool
evidence_key_fits dir at role ticket = key_fits dir at role ticket

-- P4: as G4
unfoldable pub evidence_opens : DirectoryValue → ℕ → Role → Ticket → Bool
evidence_opens dir at role ticket = opens dir at role ticket

-- P5: the evidence's PAC reads, and its signatures are right, of a service ticket the ticket signature too (MS-PAC, section 2.8)
unfoldable pub evidence_pac_is_right : DirectoryValue → ℕ → Role → Ticket → Bool
evidence_pac_is_right dir at role ticket = pac_is_right dir at role ticket

-- ---- the rules in the order in which they are tried

-- of a ticket that is opened
abbrev pub opening_rules : DirectoryValue → ℕ → Role → Ticket → List (Rule × Bool)
opening_rules dir at Header ticket = (G2, header_is_for_this_realm dir at ticket) ∷ (G3, header_key_fits dir at ticket) ∷ (G4, header_opens dir at ticket) ∷ []
opening_rules dir at role ticket = (P2, evidence_is_for_requestor dir at role ticket) ∷ (P3, evidence_key_fits dir at role ticket) ∷ (P4, evidence_opens dir at role ticket) ∷ []

-- that its PAC is right
abbrev pub pac_row : DirectoryValue → ℕ → Role → Ticket → Rule × Bool
pac_row dir at Header ticket = (G12, header_pac_is_right dir at ticket)
pac_row dir at role ticket = (P5, evidence_pac_is_right dir at role ticket)

-- of a ticket of which the record is read
abbrev pub shown_rules : DirectoryValue → ℕ → Role → Ticket → List (Rule × Bool)
shown_rules dir at role ticket = opening_rules dir at role ticket ++ pac_row dir at role ticket ∷ []

-- the rule that a call is denied by
abbrev pub refusal_of : {X : Type 0} → Result X Rule → Option Rule
refusal_of (Ok x) = None
refusal_of (Err rule) = Some rule
