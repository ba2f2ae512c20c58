-- Times are read as they are spelt.
use Rattle.std.proofs.Common.{◌≡◌, ℕ, ◌+◌, ◌*◌, ◌/◌, ◌%◌, ◌<◌, ◌≤◌, Bool, true, false, cond, eqb, leb, ltb, ◌&&◌, List, length, take, pos, Option, Some, None, Result, Ok, Err, refl, sym, ap, ◌∙◌, arith}
use Rattle.std.proofs.lemmas.Bool.{eqb-true, leb-true, ltb-true}
use Rattle.std.specs.Prelude.{slice_index}
use Rattle.std.specs.List.{list_all}
use Rattle.std.specs.Char.{is_ascii_digit}
use Rattle.jiff_core.specs.Calendar as jiff
use Rattle.jiff_core.specs.declared.civil.date.Date.{Date}
use Rattle.jiff_core.proofs.DateLemmas.{civil}
use Rattle.jiff_core.proofs.SignedLemmas.{signed_arith}
use Rattle.der_core.specs.Laws.{IsCodec, IsContent}
use Rattle.der_core.specs.declared.refusal.DerCause.TheVariants.{BadText}
use Rattle.der_core.specs.CodecLaws.{element_of_lawful, such_lawful, mapped_lawful}
use Rattle.krb_names.specs.declared.refusal.NameRefusal.{NameRefusal}
use Rattle.krb_names.specs.declared.refusal.NameRefusal.TheVariants.{BadTime}
use Rattle.krb_names.specs.Calendar.{is_civil, seconds_of, civil_of, day_number, month_length}
use Rattle.krb_names.specs.Times.{has_time_form, civil_digits, civil_text, ktime_reading, ktime_text}
use Rattle.krb_names.proofs.Calendar.{civil_day, date_found}
use Rattle.krb_names.proofs.Times.{written}
use Rattle.der_forms.specs.Times.{time_at, times, kerberos_time, is_moment, moment_time, bare_time, each_time}
use Rattle.der_forms.specs.declared.time.MomentTime.{MomentTime}

-- what the calendar's tests say of the time that is written in digits
record Shows (bytes : List ℕ) : Type 0 where
  late : 1970 ≤ (civil_digits bytes).year
  early : (civil_digits bytes).year ≤ 9999
  first : 1 ≤ (civil_digits bytes).month
  last : (civil_digits bytes).month ≤ 12
  some : 1 ≤ (civil_digits bytes).day
  most : (civil_digits bytes).day ≤ month_length (civil_digits bytes).year (civil_digits bytes).month
  hour : (civil_digits bytes).hour < 24
  minute : (civil_digits bytes).minute < 60
  second : (civil_digits bytes).second < 60

both : (a b : Bool) → (a && b) ≡ true → (a ≡ true) × (b ≡ true)
both true b h = (refl, h)
both false b h = absurd cc

shows : (bytes : List ℕ) → is_civil (civil_digits bytes) ≡ true → Shows bytes
shows bytes h =
    let t = civil_digits bytes in
    let s8 = both (((((((leb 1970 t.year && leb t.year 9999) && leb 1 t.month) && leb t.month 12) && leb 1 t.day) && leb t.day (month_length t.year t.month)) && ltb t.hour 24) && ltb t.minute 60) (ltb t.second 60) h in
    let s7 = both ((((((leb 1970 t.year && leb t.year 9999) && leb 1 t.month) && leb t.month 12) && leb 1 t.day) && leb t.day (month_length t.year t.month)) && ltb t.hour 24) (ltb t.minute 60) s8.0 in
    let s6 = both (((((leb 1970 t.year && leb t.year 9999) && leb 1 t.month) && leb t.month 12) && leb 1 t.day) && leb t.day (month_length t.year t.month)) (ltb t.hour 24) s7.0 in
    let s5 = both ((((leb 1970 t.year && leb t.year 9999) && leb 1 t.month) && leb t.month 12) && leb 1 t.day) (leb t.day (month_length t.year t.month)) s6.0 in
    let s4 = both (((leb 1970 t.year && leb t.year 9999) && leb 1 t.month) && leb t.month 12) (leb 1 t.day) s5.0 in
    let s3 = both ((leb 1970 t.year && leb t.year 9999) && leb 1 t.month) (leb t.month 12) s4.0 in
    let s2 = both (leb 1970 t.year && leb t.year 9999) (leb 1 t.month) s3.0 in
    let s1 = both (leb 1970 t.year) (leb t.year 9999) s2.0 in
    record {
      late = leb-true _ _ s1.0;
      early = leb-true _ _ s1.1;
      first = leb-true _ _ s2.1;
      last = leb-true _ _ s3.1;
      some = leb-true _ _ s4.1;
      most = leb-true _ _ s5.1;
      hour = ltb-true _ _ s6.1;
      minute = ltb-true _ _ s7.1;
      second = ltb-true _ _ s8.1;
    }

few_days : (year month : ℕ) → month_length year month ≤ 31
few_days year month = grind arith

-- the calendar after the seconds of a time shows that time
civil_again : (bytes : List ℕ) → is_civil (civil_digits bytes) ≡ true → civil_of (seconds_of (civil_digits bytes)) ≡ civil_digits bytes
civil_again bytes h =
    let s = shows bytes h in
    let t = civil_digits bytes in
    let seconds : ℕ = seconds_of t in
    let is : jiff.IsCivilDate (pos t.year) t.month t.day = ((omega (arith, signed_arith, s.late), omega (arith, signed_arith, s.early)), (s.first, s.last), (s.some, s.most)) in
    let date : Date = record { year = pos t.year; month = t.month; day = t.day; year_in = is.0; month_in = is.1; day_in = is.2 } in
    let clock : t.hour * 3600 + t.minute * 60 + t.second < 86400 = omega (arith, s.hour, s.minute, s.second) in
    let days : seconds / 86400 ≡ day_number t = omega (arith, clock) in
    let left : seconds % 86400 ≡ t.hour * 3600 + t.minute * 60 + t.second = omega (arith, clock) in
    let found = date_found date t.year seconds refl (civil_day t.year t.month t.day is s.late ∙ ap pos (sym days)) s.late in
    let hour : seconds % 86400 / 3600 ≡ t.hour = omega (arith, left, s.minute, s.second) in
    let minute : seconds % 86400 / 60 % 60 ≡ t.minute = omega (arith, left, s.minute, s.second) in
    let second : seconds % 86400 % 60 ≡ t.second = omega (arith, left, s.second) in
    found ∙ λ i. record { year = t.year; month = t.month; day = t.day; hour = hour i; minute = minute i; second = second i }

given : ℕ → Result ℕ NameRefusal
given seconds = Ok seconds

shown_in : (form civil : Bool) (n seconds : ℕ) → cond (form && civil) (given n) (Err BadTime) ≡ Ok seconds → ((form && civil) ≡ true) × (n ≡ seconds)
unfolding given
shown_in true true n seconds e = (refl, cc)
shown_in true false n seconds e = absurd cc
shown_in false civil n seconds e = absurd cc

-- a time that was read is written as a text that reads as it
read_again : (bytes : List ℕ) (seconds : ℕ) → ktime_reading bytes ≡ Ok seconds → ktime_reading (ktime_text seconds) ≡ Ok seconds
unfolding given
read_again bytes seconds e =
    let t = civil_digits bytes in
    let shown = shown_in (has_time_form bytes) (is_civil t) (seconds_of t) seconds e in
    let civil = (both (has_time_form bytes) (is_civil t) shown.0).1 in
    let s = shows bytes civil in
    let text : ktime_text seconds ≡ civil_text t = ap (λ (n : ℕ). civil_text (civil_of n)) (sym shown.1) ∙ ap civil_text (civil_again bytes civil) in
    let days = few_days t.year t.month in
    let back = written t seconds s.early (omega (arith, s.last)) (omega (arith, s.most, days)) (omega (arith, s.hour)) (omega (arith, s.minute)) (omega (arith, s.second)) civil shown.1 in
    ap ktime_reading text ∙ back

pub long_text : (bytes : List ℕ) (seconds : ℕ) → ktime_reading bytes ≡ Ok seconds → length bytes ≡ 15
unfolding given
long_text bytes seconds e =
    let t = civil_digits bytes in
    let shown = shown_in (has_time_form bytes) (is_civil t) (seconds_of t) seconds e in
    let form = (both (has_time_form bytes) (is_civil t) shown.0).0 in
    let two = both (eqb (length bytes) 15 && list_all is_ascii_digit (take 14 bytes)) (eqb (slice_index bytes 14) 90) form in
    eqb-true _ _ (both (eqb (length bytes) 15) (list_all is_ascii_digit (take 14 bytes)) two.0).0

pub times_lawful : IsContent times
times_lawful = record {
  found = λ here seconds fits e. is_found here.place (ktime_reading here.bytes) seconds e;
  only = λ here seconds d. rw d refl;
  spelt = λ seconds fits short. fits;
  fits = λ bytes seconds are_bytes d. read_again bytes seconds d;
  no_longer = λ bytes seconds are_bytes d. let long = long_text bytes seconds d in let fifteen : length (ktime_text seconds) ≡ 15 = refl in omega (arith, long, fifteen);
}
  where
    is_found : (place : ℕ) (r : Result ℕ NameRefusal) (seconds : ℕ) → time_at place r ≡ Ok seconds → r ≡ Ok seconds
    is_found place (Ok n) seconds e = cc
    is_found place (Err fault) seconds e = absurd cc

pub kerberos_time_lawful : IsCodec kerberos_time
kerberos_time_lawful = element_of_lawful 0x18 times times_lawful

pub moment_time_lawful : IsCodec moment_time
moment_time_lawful = mapped_lawful _ _ _ (λ n fits. refl) (element_of_lawful 0x18 _ (such_lawful is_moment BadText times times_lawful))

pub time_again : (x : Option MomentTime) → each_time (bare_time x) ≡ x
time_again None = refl
time_again (Some time) = refl
