-- KerberosTime ::= GeneralizedTime (RFC 4120, section 5.2.3): `YYYYMMDDHHMMSSZ` of a second from 1970 on.
use Rattle.std.specs.Prelude.{◌≡◌, ℕ, Bool, nat_le, Option, Some, None, Result, Ok, Err}
use Rattle.der_core.specs.declared.refusal.DerRefusal.{DerRefusal}
use Rattle.der_core.specs.declared.refusal.DerCause.TheVariants.{BadText}
use Rattle.der_core.specs.Place.{refused}
use Rattle.der_core.specs.Codec.{Codec, Content, element_of, such, mapped}
use Rattle.krb_names.specs.declared.refusal.NameRefusal.{NameRefusal}
use Rattle.krb_names.specs.Times.{ktime_reading, ktime_text}
use Rattle.der_forms.specs.declared.time.MomentTime.{MomentTime}

-- a reading of a text, at this place
abbrev pub time_at : ℕ → Result ℕ NameRefusal → Result ℕ DerRefusal
time_at place (Ok seconds) = Ok seconds
time_at place (Err fault) = refused BadText place

-- the seconds since 1970 of a text
abbrev pub times : Content ℕ
times = record {
  IsDer = λ bytes seconds. ktime_reading bytes ≡ Ok seconds;
  spelling = ktime_text;
  reading = λ here. time_at here.place (ktime_reading here.bytes);
  Fits = λ seconds. ktime_reading (ktime_text seconds) ≡ Ok seconds;
}

abbrev pub kerberos_time : Codec ℕ
kerberos_time = element_of 0x18 times

-- the seconds that a moment can have
abbrev pub is_moment : ℕ → Bool
is_moment seconds = nat_le seconds 250000000000

-- a time within the range of moments; a later one is at fault as BadText (own choice)
abbrev pub moment_time : Codec MomentTime
moment_time = mapped (element_of 0x18 (such is_moment BadText times)) (λ n. record { 0 = n }) (λ x. x.0)

-- times that may be absent
abbrev pub bare_time : Option MomentTime → Option ℕ
bare_time None = None
bare_time (Some time) = Some time.0

abbrev pub each_time : Option ℕ → Option MomentTime
each_time None = None
each_time (Some n) = Some (record { 0 = n })
