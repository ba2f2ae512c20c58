-- A shown ticket that an entry issued has that entry's record, and a line goes on at its place.
use Rattle.std.proofs.Common.{◌≡◌, ◌∙◌, Bool, true, false, ◌⊎◌, inl, inr, List, [], ◌∷◌, Option, None, Some, refl, sym, ap}
use Rattle.std.specs.Prelude.{if◌then◌else◌}
use Rattle.kdc_prelude.proofs.Bools.{both}
use Rattle.krb_tickets.specs.SamePart.{same_part}
use Rattle.krb_tickets.specs.SamePartLaws.{same_is}
use Rattle.kdc_records.specs.Parties.{party_of, same_party}
use Rattle.kdc_records.proofs.Parties.{same_parties}
use Rattle.ticket_parts.specs.declared.reading.ReadRecord.{ReadRecord}
use Rattle.ticket_parts.specs.Records.{record_of}
use Rattle.ticket_parts.proofs.ToldAgain.{record_back}
use Rattle.tgs_core.specs.Grants.{ShownTicket}
use Rattle.history_laws.specs.Entries.{Entry}
use Rattle.history_laws.specs.Places.{Place, is_issue, is_issued, line_from, place, user_line, voucher}
use Rattle.history_laws.proofs.Granted.{IsGranted, IsRead}

told_once : (a b : ReadRecord) → Some a ≡ Some b → a.rec ≡ b.rec
told_once a b e = let same : a ≡ b = cc in ap (λ (read : ReadRecord). read.rec) same

-- what an entry issued: the same party, and but for the holder the same record
pub issue_party : (entry : Entry) (shown : ShownTicket) → is_issue entry shown ≡ true → party_of shown.rec.holder ≡ party_of entry.ticket.holder
issue_party entry shown h =
    sym (same_parties (party_of entry.ticket.holder) (party_of shown.rec.holder) (both (same_party (party_of entry.ticket.holder) (party_of shown.rec.holder)) (same_part entry.part shown.part) h).0)

pub issue_record : (entry : Entry) → IsGranted entry → (shown : ShownTicket) → IsRead shown → is_issue entry shown ≡ true → shown.rec ≡ record entry.ticket { holder = shown.rec.holder }
issue_record entry granted shown read h =
    let parts : entry.part ≡ shown.part = same_is entry.part shown.part (both (same_party (party_of entry.ticket.holder) (party_of shown.rec.holder)) (same_part entry.part shown.part) h).1 in
    let told = ap (record_of shown.rec.holder) (sym (sym granted.part_is ∙ parts)) ∙ record_back entry.ticket shown.rec.holder granted.holder_key granted.realm_key granted.sound in
    told_once _ _ (sym read.told ∙ told)

-- ---- lines

-- with one more entry a place is earlier, or it is this entry
pub place_step : (b c : Bool) (found : Option Place) (here at : Place) → (if b then found else (if c then Some here else None)) ≡ Some at
    → ((b ≡ true) × (found ≡ Some at)) ⊎ ((b ≡ false) × (c ≡ true) × (here ≡ at))
place_step true c found here at e = inl (refl, e)
place_step false true found here at e = inr (refl, refl, cc)
place_step false false found here at e = absurd (cc)

-- the line of a shown ticket is that of its place
pub place_line : (earlier : List Entry) (shown : ShownTicket) (at : Place) → place earlier shown ≡ Some at → line_from earlier (Some shown) ≡ user_line at.before at.entry
place_line [] shown at e = absurd (cc)
place_line (first ∷ earlier) shown at e =
    elim (place_step (is_issued earlier shown) (is_issue first shown) (place earlier shown) (record { before = earlier; entry = first }) at e) [
      | inl h ↦ ap (λ (b : Bool). if b then line_from earlier (Some shown) else later) h.0 ∙ place_line earlier shown at h.1
      | inr h ↦
          ap (λ (b : Bool). if b then line_from earlier (Some shown) else later) h.0
          ∙ (ap (λ (b : Bool). if b then first ∷ line_from earlier (voucher first.grant.grounds) else []) h.1 ∙ ap (λ (p : Place). user_line p.before p.entry) h.2)
    ]
  where
    later : List Entry
    later = if is_issue first shown then first ∷ line_from earlier (voucher first.grant.grounds) else []
