-- What a type's form is: which bytes are of it, how each value is spelt, and how bytes are read.
use Rattle.std.specs.Prelude.{◌≡◌, ℕ, List, Bool, true, Result, Ok, if◌then◌else◌}
use Rattle.der_core.specs.declared.refusal.DerCause.{DerCause}
use Rattle.der_core.specs.declared.refusal.DerRefusal.{DerRefusal}
use Rattle.der_core.specs.Place.{At, refused, ◌>>=◌}
use Rattle.der_core.specs.Elements.{IsElement, element, element_at, done_at}

-- the form of a type, at the front of bytes
pub record Codec (X : Type 0) : Type 1 where
  pub IsDer : List ℕ → X → Type 0  -- the grammar
  pub spelling : X → List ℕ  -- the one spelling that is written
  pub reading : At → Result (X × At) DerRefusal  -- the value and what is behind it, or the first fault
  pub Fits : X → Type 0  -- the values that can be written

-- the same for all of the bytes of a content
pub record Content (X : Type 0) : Type 1 where
  pub IsDer : List ℕ → X → Type 0
  pub spelling : X → List ℕ
  pub reading : At → Result X DerRefusal
  pub Fits : X → Type 0

-- the bytes are an element, and its content is of the form
pub record IsWithin {X : Type 0} (IsDer : List ℕ → X → Type 0) (tag : ℕ) (bytes : List ℕ) (x : X) : Type 0 where
  pub content : List ℕ
  pub outside : IsElement tag bytes content
  pub inside : IsDer content x

-- the element with this tag and content
abbrev pub element_of : {X : Type 0} → ℕ → Content X → Codec X
element_of tag c = record {
  IsDer = IsWithin c.IsDer tag;
  spelling = λ x. element tag (c.spelling x);
  reading = λ here. element_at tag here >>= λ e. c.reading e.0 >>= λ x. Ok (x, e.1);
  Fits = c.Fits;
}

-- the form alone, with nothing behind it
abbrev pub alone : {X : Type 0} → Codec X → Content X
alone c = record {
  IsDer = c.IsDer;
  spelling = c.spelling;
  reading = λ here. c.reading here >>= λ x. done_at x.1 >>= λ _. Ok x.0;
  Fits = c.Fits;
}

-- the form c, explicitly tagged (X.690, section 8.14)
abbrev pub explicit : {X : Type 0} → ℕ → Codec X → Codec X
explicit tag c = element_of tag (alone c)

-- all of the bytes
abbrev pub whole : {X : Type 0} → Codec X → List ℕ → Result X DerRefusal
whole c bytes = (alone c).reading (record { place = 0; bytes = bytes })

-- a content whose value passes a test; else the content is at fault
abbrev pub such : {X : Type 0} → (X → Bool) → DerCause → Content X → Content X
such passes cause c = record {
  IsDer = λ bytes x. c.IsDer bytes x × (passes x ≡ true);
  spelling = c.spelling;
  reading = λ here. c.reading here >>= λ x. if passes x then Ok x else refused cause here.place;
  Fits = λ x. c.Fits x × (passes x ≡ true);
}

-- a value that is made of another
pub record IsMade {X Y : Type 0} (IsDer : List ℕ → X → Type 0) (make : X → Y) (bytes : List ℕ) (y : Y) : Type 0 where
  pub parts : X
  pub spelt : IsDer bytes parts
  pub made : make parts ≡ y

-- another value for the same bytes
abbrev pub mapped : {X Y : Type 0} → Codec X → (X → Y) → (Y → X) → Codec Y
mapped c make part_of = record {
  IsDer = IsMade c.IsDer make;
  spelling = λ y. c.spelling (part_of y);
  reading = λ here. c.reading here >>= λ x. Ok (make x.0, x.1);
  Fits = λ y. (make (part_of y) ≡ y) × c.Fits (part_of y);
}
