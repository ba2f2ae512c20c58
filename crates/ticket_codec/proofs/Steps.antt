-- What the words of tickets that are shown are made of, for proofs that do not open them further.
use Rattle.std.proofs.Common.{◌≡◌, ℕ, Bool, true, false, cond, List, refl, ap, subst, sym, ◌∙◌}
use Rattle.std.specs.Prelude.{Option, None, Some, Result, Ok, Err, option_and_then, option_map, position, slice_get}
use Rattle.kdc_prelude.specs.Answers.{or_fault}
use Rattle.kdc_prelude.specs.Results.{◌>>=◌}
use Rattle.kdc_prelude.specs.Texts.{same_text}
use Rattle.krb_tickets.specs.declared.ticket.Ticket.{Ticket}
use Rattle.kdc_records.specs.declared.rule.Rule.{Rule}
use Rattle.dir_records.specs.declared.records.RealmRec.{RealmRec}
use Rattle.dir_records.specs.DirectoryValue.{DirectoryValue}
use Rattle.ticket_parts.specs.declared.reading.ReadRecord.{ReadRecord}
use Rattle.ticket_parts.specs.Records.{record_of}
use Rattle.ticket_codec.specs.declared.fault.Unopened.{Unopened}
use Rattle.ticket_codec.specs.declared.fault.Unopened.TheVariants.{WrongKey, Unreadable}
use Rattle.ticket_codec.specs.declared.holding.Holding.{Holding}
use Rattle.ticket_codec.specs.declared.opening.Opened.{Opened}
use Rattle.ticket_codec.specs.declared.presenting.Certified.{Certified}
use Rattle.ticket_codec.specs.declared.role.Role.{Role}
use Rattle.ticket_codec.specs.Holdings.{trust_in}
use Rattle.ticket_codec.specs.Opening.{is_for_key, opened_by, opened_with, ruled, unsealed}
use Rattle.ticket_codec.specs.Presented.{are_signatures_right, certified, certified_of, presented, shown, Shown, shown_of}
use Rattle.ticket_codec.specs.Roles.{holding, name_rule, pac_rule}

pub unsealed_is : (dir : DirectoryValue) (at : ℕ) (role : Role) (ticket : Ticket)
    → unsealed dir at role ticket ≡ (or_fault (name_rule role) (holding dir at role ticket) >>= λ held. ruled role (opened_by ticket held))
unfolding unsealed
unsealed_is dir at role ticket = refl

pub unsealed_with : (dir : DirectoryValue) (at : ℕ) (role : Role) (ticket : Ticket) (held : Holding) → holding dir at role ticket ≡ Some held
    → unsealed dir at role ticket ≡ ruled role (opened_by ticket held)
unsealed_with dir at role ticket held known =
    unsealed_is dir at role ticket ∙ ap (λ (h : Option Holding). or_fault (name_rule role) h >>= λ own. ruled role (opened_by ticket own)) known

pub certified_is : (dir : DirectoryValue) (at : ℕ) (opened : Opened)
    → certified dir at opened ≡ cond (are_signatures_right dir at opened) (option_map certified_of (record_of opened.holder opened.part)) None
unfolding certified
certified_is dir at opened = refl

pub presented_is : (dir : DirectoryValue) (at : ℕ) (role : Role) (opened : Opened) → presented dir at role opened ≡ or_fault (pac_rule role) (certified dir at opened)
unfolding presented
presented_is dir at role opened = refl

pub shown_is : (dir : DirectoryValue) (at : ℕ) (role : Role) (ticket : Ticket)
    → shown dir at role ticket ≡ (unsealed dir at role ticket >>= λ opened. presented dir at role opened >>= λ certified. Ok (shown_of opened certified))
unfolding shown
shown_is dir at role ticket = refl

-- the trust of a realm that is known
pub trust_is : (dir : DirectoryValue) (at : ℕ) (realm : RealmRec) (partner : List ℕ) → slice_get dir.realms at ≡ Some realm
    → trust_in dir at partner ≡ position (λ trust. same_text trust.partner partner) realm.trusts
unfolding trust_in
trust_is dir at realm partner here = ap (option_and_then (λ (r : RealmRec). position (λ trust. same_text trust.partner partner) r.trusts)) here

-- ---- what is known of a ticket that shows something

pub record Opens (dir : DirectoryValue) (at : ℕ) (role : Role) (ticket : Ticket) (opened : Opened) : Type 0 where
  pub held : Holding
  pub found : holding dir at role ticket ≡ Some held
  pub fits : is_for_key held.key ticket.sealed ≡ true
  pub opens : opened_with ticket held ≡ Some opened

opens_by : (dir : DirectoryValue) (at : ℕ) (role : Role) (ticket : Ticket) (opened : Opened) (held : Holding) → holding dir at role ticket ≡ Some held
    → (fits : Bool) (found : Option Opened) → is_for_key held.key ticket.sealed ≡ fits → opened_with ticket held ≡ found
    → ruled role (let r : Result Opened Unopened = cond fits (or_fault Unreadable found) (Err WrongKey) in r) ≡ Ok opened → Opens dir at role ticket opened
opens_by dir at role ticket opened held known true None e f h = absurd (cc)
opens_by dir at role ticket opened held known true (Some other) e f h = record { held = held; found = known; fits = e; opens = cc }
opens_by dir at role ticket opened held known false found e f h = absurd (cc)

opens_from : (dir : DirectoryValue) (at : ℕ) (role : Role) (ticket : Ticket) (opened : Opened) (h : Option Holding) → holding dir at role ticket ≡ h
    → (or_fault (name_rule role) h >>= λ held. ruled role (opened_by ticket held)) ≡ Ok opened → Opens dir at role ticket opened
opens_from dir at role ticket opened None known h = absurd (cc)
opens_from dir at role ticket opened (Some held) known h = opens_by dir at role ticket opened held known (is_for_key held.key ticket.sealed) (opened_with ticket held) refl refl h

pub unsealed_opens : (dir : DirectoryValue) (at : ℕ) (role : Role) (ticket : Ticket) (opened : Opened) → unsealed dir at role ticket ≡ Ok opened → Opens dir at role ticket opened
unfolding unsealed
unsealed_opens dir at role ticket opened h = opens_from dir at role ticket opened (holding dir at role ticket) refl h

pub record IsShown (dir : DirectoryValue) (at : ℕ) (role : Role) (ticket : Ticket) (s : Shown) : Type 0 where
  pub opened : Opened
  pub unsealed : unsealed dir at role ticket ≡ Ok opened
  pub holder : s.holder ≡ opened.holder
  pub part : s.part ≡ opened.part
  pub right : are_signatures_right dir at opened ≡ true
  pub told : record_of s.holder s.part ≡ Some (record { rec = s.rec; agrees = s.agrees })

told_by : (dir : DirectoryValue) (at : ℕ) (role : Role) (ticket : Ticket) (opened : Opened) (s : Shown) → unsealed dir at role ticket ≡ Ok opened
    → (right : Bool) (read : Option ReadRecord) → are_signatures_right dir at opened ≡ right → record_of opened.holder opened.part ≡ read
    → (let r : Result Certified Rule = or_fault (pac_rule role) (cond right (option_map certified_of read) None) in r >>= λ certified. Ok (shown_of opened certified)) ≡ Ok s
    → IsShown dir at role ticket s
told_by dir at role ticket opened s u true None e f h = absurd (cc)
told_by dir at role ticket opened s u true (Some read) e f h =
    let same : shown_of opened (certified_of read) ≡ s = cc in
    record {
      opened = opened;
      unsealed = u;
      holder = ap (λ (x : Shown). x.holder) (sym same);
      part = ap (λ (x : Shown). x.part) (sym same);
      right = e;
      told = subst (λ (x : Shown). record_of x.holder x.part ≡ Some (record { rec = x.rec; agrees = x.agrees })) same f;
    }
told_by dir at role ticket opened s u false read e f h = absurd (cc)

shown_from : (dir : DirectoryValue) (at : ℕ) (role : Role) (ticket : Ticket) (s : Shown) (r : Result Opened Rule) → unsealed dir at role ticket ≡ r
    → (r >>= λ opened. presented dir at role opened >>= λ certified. Ok (shown_of opened certified)) ≡ Ok s → IsShown dir at role ticket s
unfolding presented certified
shown_from dir at role ticket s (Err rule) u h = absurd (cc)
shown_from dir at role ticket s (Ok opened) u h =
    told_by dir at role ticket opened s u (are_signatures_right dir at opened) (record_of opened.holder opened.part) refl refl h

pub shown_shows : (dir : DirectoryValue) (at : ℕ) (role : Role) (ticket : Ticket) (s : Shown) → shown dir at role ticket ≡ Ok s → IsShown dir at role ticket s
unfolding shown
shown_shows dir at role ticket s h = shown_from dir at role ticket s (unsealed dir at role ticket) refl h
