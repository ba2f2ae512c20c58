-- The steps of making a part and of reading its record, for goals in which `part` and `record_of` stay closed.
use Rattle.std.proofs.Common.{◌≡◌, ℕ, ◌≤◌, ◌^◌, Bool, true, false, ◌&&◌, cond, List, length, le-ltb, Option, Some, None, refl, sym, ap, ◌∙◌}
use Rattle.std.specs.Prelude.{is_none, nat_lt, option_map}
use Rattle.kdc_prelude.specs.Steps.{◌>>=◌}
use Rattle.krb_names.specs.declared.key.Key.{Key}
use Rattle.krb_tickets.specs.declared.enc_ticket_part.EncTicketPart.{EncTicketPart}
use Rattle.krb_tickets.specs.Pac.{pac_of}
use Rattle.pac_buffers.specs.declared.refusal.PacRefusal.{PacRefusal}
use Rattle.pac_buffers.specs.Buffers.{pac}
use Rattle.pac_buffers.specs.Container.{pac_fault}
use Rattle.kdc_records.specs.declared.holder.Holder.{Holder}
use Rattle.kdc_records.specs.declared.ticket_rec.TicketRec.{TicketRec}
use Rattle.ticket_parts.specs.declared.pac_values.PacValue.{PacValue}
use Rattle.ticket_parts.specs.declared.reading.ReadRecord.{ReadRecord}
use Rattle.ticket_parts.specs.Parts.{part, part_with, signed_pac}
use Rattle.ticket_parts.specs.Records.{are_signatures_in, has_names, pac_reading, read_with, record_by, record_of, such_that, value_in}

-- ---- a part

pub part_is : (t : TicketRec) (holder realm : Key) → part t holder realm ≡ part_with (pac (signed_pac t holder realm)) t
unfolding part
part_is t holder realm = refl

-- ---- a record

pub record_is : (held : Holder) (p : EncTicketPart) → record_of held p ≡ (pac_of p >>= record_by held p)
unfolding record_of
record_is held p = refl

pub record_with_pac : (held : Holder) (p : EncTicketPart) (bytes : List ℕ) → pac_of p ≡ Some bytes → record_of held p ≡ record_by held p bytes
record_with_pac held p bytes e = record_is held p ∙ ap (λ (o : Option (List ℕ)). o >>= record_by held p) e

pub record_without_pac : (held : Holder) (p : EncTicketPart) → pac_of p ≡ None → record_of held p ≡ None
record_without_pac held p e = record_is held p ∙ ap (λ (o : Option (List ℕ)). o >>= record_by held p) e

pub record_unread : (held : Holder) (p : EncTicketPart) (bytes : List ℕ) → pac_of p ≡ Some bytes → pac_reading bytes ≡ None → record_of held p ≡ None
record_unread held p bytes e unread = record_with_pac held p bytes e ∙ ap (λ (o : Option PacValue). option_map (read_with held p) o) unread

-- ---- PACs that do not read

pub long_pac : (bytes : List ℕ) → 2 ^ 32 ≤ length bytes → pac_reading bytes ≡ None
long_pac bytes long = ap (λ (b : Bool). cond (b && is_none (pac_fault bytes) && are_signatures_in bytes) (value_in bytes >>= such_that has_names) None) (le-ltb (length bytes) (2 ^ 32) long)

not_both : (b s : Bool) (o : Option PacValue) → cond (b && false && s) o None ≡ None
not_both true s o = refl
not_both false s o = refl

pub faulty_pac : (bytes : List ℕ) (fault : PacRefusal) → pac_fault bytes ≡ Some fault → pac_reading bytes ≡ None
faulty_pac bytes fault e =
    let few : Bool = nat_lt (length bytes) (2 ^ 32) in
    let told : Option PacValue = value_in bytes >>= such_that has_names in
    ap (λ (o : Option PacRefusal). cond (few && is_none o && are_signatures_in bytes) told None) e ∙ not_both few (are_signatures_in bytes) told

-- ---- who holds it

some_is : {X : Type 0} (x y : X) → Some x ≡ Some y → x ≡ y
some_is x y e = cc

abbrev with_holder : Holder → ReadRecord → ReadRecord
with_holder held read = record read { rec = record read.rec { holder = held } }

holder_by : (held : Holder) (p : EncTicketPart) (o : Option PacValue) (read : ReadRecord) → option_map (read_with held p) o ≡ Some read → read.rec.holder ≡ held
holder_by held p None read e = absurd cc
holder_by held p (Some value) read e = ap (λ (r : ReadRecord). r.rec.holder) (sym (some_is (read_with held p value) read e))

-- the holder of a record that was read is the one that was named
pub read_holder : (held : Holder) (p : EncTicketPart) (read : ReadRecord) → record_of held p ≡ Some read → read.rec.holder ≡ held
read_holder held p read e = by_pac (pac_of p) (sym (record_is held p) ∙ e)
  where
    by_pac : (o : Option (List ℕ)) → (o >>= record_by held p) ≡ Some read → read.rec.holder ≡ held
    by_pac None told = absurd cc
    by_pac (Some bytes) told = holder_by held p (pac_reading bytes) read told

other_by : (held other : Holder) (p : EncTicketPart) (o : Option PacValue) (read : ReadRecord) → option_map (read_with held p) o ≡ Some read → option_map (read_with other p) o ≡ Some (with_holder other read)
other_by held other p None read e = absurd cc
other_by held other p (Some value) read e = ap (λ (r : ReadRecord). let told : Option ReadRecord = Some (with_holder other r) in told) (some_is (read_with held p value) read e)

-- and under another holder the same is read but for that
pub read_for_other : (held other : Holder) (p : EncTicketPart) (read : ReadRecord) → record_of held p ≡ Some read → record_of other p ≡ Some (record read { rec = record read.rec { holder = other } })
read_for_other held other p read e = record_is other p ∙ by_pac (pac_of p) (sym (record_is held p) ∙ e)
  where
    by_pac : (o : Option (List ℕ)) → (o >>= record_by held p) ≡ Some read → (o >>= record_by other p) ≡ Some (with_holder other read)
    by_pac None told = absurd cc
    by_pac (Some bytes) told = other_by held other p (pac_reading bytes) read told
