-- What a layout is, and how layouts are put together.
use Rattle.std.specs.Prelude.{◌≡◌, ℕ, ◌+◌, ◌-◌, List, [], ◌++◌, length, Bool, true, false, Option, Some, None, Result, Ok, Err, if◌then◌else◌}
use Rattle.std.specs.Int.{Width, byte_len}
use Rattle.ndr_core.specs.declared.refusal.NdrCause.{NdrCause}
use Rattle.ndr_core.specs.declared.fault.LogonFault.{LogonFault}
use Rattle.ndr_core.specs.declared.fault.LogonFault.TheVariants.{BadText}
use Rattle.ndr_core.specs.Place.{At, refused, ◌>>=◌}

-- what was written so far, and what the next pointer is written as
pub record Written : Type 0 where
  pub bytes : List ℕ
  pub next : ℕ

pub record Layout (X : Type 0) : Type 1 where
  pub IsNdr : ℕ → List ℕ → X → Type 0  -- the bytes that begin at a place are of the layout
  pub written : Written → X → Written  -- a value is written behind what stands
  pub reading : At → Result (X × At) LogonFault  -- the value at the front, or the first fault
  pub Fits : X → Type 0  -- the values that can be written

-- bytes of two parts, one behind the other
pub record Are (First Second : ℕ → List ℕ → Type 0) (place : ℕ) (bytes : List ℕ) : Type 0 where
  pub front : List ℕ
  pub rest : List ℕ
  pub whole : bytes ≡ front ++ rest
  pub first : First place front
  pub second : Second (place + length front) rest

-- a field, and behind it what its value asks for
abbrev pub followed : {X Y : Type 0} → Layout X → (X → Layout Y) → Layout (X × Y)
followed c more = record {
  IsNdr = λ place bytes x. Are (λ p b. c.IsNdr p b x.0) (λ p b. (more x.0).IsNdr p b x.1) place bytes;
  written = λ old x. (more x.0).written (c.written old x.0) x.1;
  reading = λ here. c.reading here >>= λ x. (more x.0).reading x.1 >>= λ y. Ok ((x.0, y.0), y.1);
  Fits = λ x. c.Fits x.0 × (more x.0).Fits x.1;
}

-- a field, and another behind it
abbrev pub field : {X Y : Type 0} → Layout X → Layout Y → Layout (X × Y)
field c more = followed c (λ _. more)

-- no bytes
abbrev pub nothing : Layout (Unit {0})
nothing = record {
  IsNdr = λ place bytes _. bytes ≡ [];
  written = λ old _. old;
  reading = λ here. Ok (tt, here);
  Fits = λ _. Unit {0};
}

-- a value that is made of another
pub record IsMade {X Y : Type 0} (Is : ℕ → List ℕ → X → Type 0) (make : X → Y) (place : ℕ) (bytes : List ℕ) (y : Y) : Type 0 where
  pub parts : X
  pub spelt : Is place bytes parts
  pub made : make parts ≡ y

-- another value for the same bytes
abbrev pub mapped : {X Y : Type 0} → Layout X → (X → Y) → (Y → X) → Layout Y
mapped c make parts_of = record {
  IsNdr = IsMade c.IsNdr make;
  written = λ old y. c.written old (parts_of y);
  reading = λ here. c.reading here >>= λ x. Ok (make x.0, x.1);
  Fits = λ y. (make (parts_of y) ≡ y) × c.Fits (parts_of y);
}

-- bytes that stand for a text
pub record IsDecoded {X Y : Type 0} (Is : ℕ → List ℕ → X → Type 0) (decode : X → Option Y) (place : ℕ) (bytes : List ℕ) (y : Y) : Type 0 where
  pub parts : X
  pub spelt : Is place bytes parts
  pub decoded : decode parts ≡ Some y

abbrev pub or_bad_text : {Y : Type 0} → Option Y → At → Result (Y × At) LogonFault
or_bad_text None after = Err BadText
or_bad_text (Some y) after = Ok (y, after)

-- another value for the same bytes, which not all bytes have
abbrev pub decoded : {X Y : Type 0} → Layout X → (X → Option Y) → (Y → X) → Layout Y
decoded c decode encode = record {
  IsNdr = IsDecoded c.IsNdr decode;
  written = λ old y. c.written old (encode y);
  reading = λ here. c.reading here >>= λ x. or_bad_text (decode x.0) x.1;
  Fits = λ y. (decode (encode y) ≡ Some y) × c.Fits (encode y);
}

-- a field of this width whose value passes a test; else it is at fault, and its first byte is the place
abbrev pub such : {X : Type 0} → Width → (X → Bool) → NdrCause → Layout X → Layout X
such width passes cause c = record {
  IsNdr = λ place bytes x. c.IsNdr place bytes x × (passes x ≡ true);
  written = c.written;
  reading = λ here. c.reading here >>= λ x. if passes x.0 then Ok x else refused cause (x.1.place - byte_len width);
  Fits = λ x. c.Fits x × (passes x ≡ true);
}

abbrev pub IsPointed : {X : Type 0} → Bool → Layout X → X → ℕ → List ℕ → X → Type 0
IsPointed true c other place bytes x = c.IsNdr place bytes x
IsPointed false c other place bytes x = (bytes ≡ []) × (x ≡ other)

abbrev pub FitsPointed : {X : Type 0} → Bool → Layout X → X → X → Type 0
FitsPointed true c other x = c.Fits x
FitsPointed false c other x = x ≡ other

-- what a pointer points to; behind a null pointer are no bytes, and the value is the other one
abbrev pub pointed : {X : Type 0} → Bool → Layout X → X → Layout X
pointed there c other = record {
  IsNdr = IsPointed there c other;
  written = λ old x. if there then c.written old x else old;
  reading = λ here. if there then c.reading here else Ok (other, here);
  Fits = FitsPointed there c other;
}
