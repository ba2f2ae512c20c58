-- The record of a ticket that was shown is the one that its part tells.
use Rattle.std.proofs.Common.{◌≡◌, ◌∙◌, ℕ, Bool, true, false, Option, None, Some, refl, sym, ap, subst}
use Rattle.std.specs.Prelude.{if◌then◌else◌, option_map}
use Rattle.kdc_prelude.specs.Options.{holds_of}
use Rattle.krb_messages.specs.declared.kdc_req.KdcReq.{KdcReq}
use Rattle.kdc_records.specs.declared.holder.Holder.{Holder}
use Rattle.kdc_records.specs.declared.ticket_rec.TicketRec.{TicketRec}
use Rattle.dir_records.specs.DirectoryValue.{DirectoryValue}
use Rattle.ticket_parts.specs.declared.reading.ReadRecord.{ReadRecord}
use Rattle.ticket_parts.specs.Records.{record_of}
use Rattle.ticket_parts.proofs.Steps.{read_holder}
use Rattle.ticket_codec.specs.declared.opening.Opened.{Opened}
use Rattle.ticket_codec.specs.declared.presenting.Certified.{Certified}
use Rattle.ticket_codec.specs.Presented.{are_signatures_right, certified, certified_of}
use Rattle.ticket_codec.proofs.Steps.{certified_is}
use Rattle.tgs_requests.specs.declared.header.Header.{Header}
use Rattle.tgs_requests.specs.Headers.{agreed_record, ap_req_of, authenticator_in, header_by, header_in, header_of, header_with, record_in, ticket_opened}
use Rattle.proxy_requests.specs.declared.evidence.Evidence.{Evidence}
use Rattle.proxy_rules.specs.ProxyRules.{ShownEvidence}
use Rattle.proxy_requests.specs.Evidences.{evidence_seen_of}
use Rattle.tgs_core.specs.Grants.{presented_with, ticket_presented, ticket_shown_by}
use Rattle.history_laws.specs.Chains.{evidence_told}
use Rattle.history_laws.proofs.Granted.{IsRead}
use Rattle.history_laws.proofs.Steps.{chosen, mapped, stepped, thened}

-- ---- what is certified

-- the record, and whether the client information agrees
pub record IsTold (opened : Opened) (certified : Certified) : Type 0 where
  pub told : record_of certified.rec.holder opened.part ≡ Some (record { rec = certified.rec; agrees = certified.agrees })
  pub holder : certified.rec.holder ≡ opened.holder

pub certified_told : (dir : DirectoryValue) (at : ℕ) (opened : Opened) (shown : Certified) → certified dir at opened ≡ Some shown → IsTold opened shown
certified_told dir at opened shown e =
    let right = chosen (are_signatures_right dir at opened) (option_map certified_of (record_of opened.holder opened.part)) shown (sym (certified_is dir at opened) ∙ e) in
    let read = mapped certified_of (record_of opened.holder opened.part) shown right.1 in
    let same : shown.rec.holder ≡ opened.holder = ap (λ (c : Certified). c.rec.holder) (sym read.2) ∙ read_holder opened.holder opened.part read.0 read.1 in
    record {
      told =
          ap (λ (held : Holder). record_of held opened.part) same
          ∙ read.1
          ∙ ap (λ (c : Certified). let told : Option ReadRecord = Some (record { rec = c.rec; agrees = c.agrees }) in told) read.2;
      holder = same;
    }

-- ---- the header

header_certified : (dir : DirectoryValue) (at : ℕ) (message : KdcReq) (header : Header) → header_in dir at message ≡ Some header → header.certified ≡ certified dir at header.opened
unfolding header_in
header_certified dir at message header e =
    let ap_req = thened (ap_req_of message) (header_of dir at) header e in
    let opened = thened (ticket_opened dir at ap_req.0.ticket) (header_by dir at ap_req.0.authenticator) header ap_req.2 in
    let auth = mapped (header_with dir at opened.0) (authenticator_in opened.0.part.key ap_req.0.authenticator) header opened.2 in
    subst (λ (h : Header). h.certified ≡ certified dir at h.opened) auth.2 refl

agreed : (found : Certified) (rec : TicketRec) → agreed_record found ≡ Some rec → found.rec ≡ rec
agreed found rec e = by_test found.agrees e
  where
    by_test : (b : Bool) → (if b then Some found.rec else None) ≡ Some rec → found.rec ≡ rec
    by_test true e = cc
    by_test false e = absurd (cc)

pub header_is_read : (dir : DirectoryValue) (at : ℕ) (message : KdcReq) (header : Header) (rec : TicketRec) → header_in dir at message ≡ Some header → record_in header ≡ Some rec
    → IsRead (ticket_presented (presented_with header rec))
header_is_read dir at message header rec e shown =
    let found = stepped header.certified agreed_record rec shown in
    let c : Certified = found.0 in
    let told = certified_told dir at header.opened c (sym (header_certified dir at message header e) ∙ found.1) in
    let same : c.rec ≡ rec = agreed c rec found.2 in
    record { agrees = c.agrees; told = subst (λ (r : TicketRec). record_of r.holder header.opened.part ≡ Some (record { rec = r; agrees = c.agrees })) same told.told }

-- ---- the evidence

pub evidence_is_read : (evidence : Evidence) → IsTold evidence.opened evidence.certified → IsRead (ticket_shown_by evidence)
evidence_is_read evidence h = record { agrees = evidence.certified.agrees; told = h.told }

-- as the rules see it
pub evidence_is_told : (evidence : Evidence) → IsTold evidence.opened evidence.certified → evidence_seen_of evidence ≡ evidence_told (ticket_shown_by evidence)
evidence_is_told evidence h =
    let agrees : evidence.certified.agrees ≡ holds_of (λ (told : ReadRecord). told.agrees) (record_of evidence.certified.rec.holder evidence.opened.part) = sym (ap (holds_of (λ (told : ReadRecord). told.agrees)) h.told) in
    ap (λ (b : Bool). let seen : ShownEvidence = record (evidence_seen_of evidence) { agrees = b } in seen) agrees
