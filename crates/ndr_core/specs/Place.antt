-- Where a reader is, and how a reading goes on.
use Rattle.std.specs.Prelude.{ℕ, ◌+◌, List, length, drop, Result, Ok, Err}
use Rattle.ndr_core.specs.declared.refusal.NdrCause.{NdrCause}
use Rattle.ndr_core.specs.declared.fault.LogonFault.{LogonFault}
use Rattle.ndr_core.specs.declared.fault.LogonFault.TheVariants.{Ndr}

-- what is left of an object: the place of its first byte in the input, the bytes, and how many bytes follow the object
pub record At : Type 0 where
  pub place : ℕ
  pub bytes : List ℕ
  pub behind : ℕ

-- all of an input
abbrev pub start_of : List ℕ → At
start_of bytes = record { place = 0; bytes = bytes; behind = 0 }

-- n bytes on
abbrev pub past : ℕ → At → At
past n here = record { place = here.place + n; bytes = drop n here.bytes; behind = here.behind }

-- where the object ends
abbrev pub end_of : At → ℕ
end_of here = here.place + length here.bytes

abbrev pub refusal : NdrCause → ℕ → LogonFault
refusal cause place = Ndr (record { cause = cause; place = place })

abbrev pub refused : {X : Type 0} → NdrCause → ℕ → Result X LogonFault
refused cause place = Err (refusal cause place)

infixl 10 ◌>>=◌
abbrev pub ◌>>=◌ : {A B E : Type 0} → Result A E → (A → Result B E) → Result B E
(Ok x) >>= f = f x
(Err e) >>= f = Err e
