-- The fields of a SEQUENCE, explicitly tagged with their numbers (X.690, section 8.9; RFC 4120, appendix A).
use Rattle.std.specs.Prelude.{◌≡◌, ℕ, ◌+◌, List, [], ◌∷◌, ◌++◌, Ok, Option, Some, None, IfSome, Bool, false, nat_eq, if◌then◌else◌, Result}
use Rattle.der_core.specs.declared.refusal.DerRefusal.{DerRefusal}
use Rattle.der_core.specs.Place.{At, ◌>>=◌}
use Rattle.der_core.specs.Elements.{element, done_at}
use Rattle.der_core.specs.Codec.{Codec, Content, element_of, explicit, IsWithin, IsMade}

-- fields in their order, up to the end of the content
pub record Fields (X : Type 0) : Type 1 where
  pub content : Content X
  pub appended : List ℕ → X → List ℕ  -- bytes and the spelling behind them, as they are written one field after the other
  pub low : ℕ  -- the first tag is at least this

-- bytes of two parts
pub record Are (Front Rest : List ℕ → Type 0) (bytes : List ℕ) : Type 0 where
  pub front : List ℕ
  pub rest : List ℕ
  pub whole : bytes ≡ front ++ rest
  pub first : Front front
  pub second : Rest rest

-- the tag byte of the field with this number, 0 to 30
abbrev pub tag_of : ℕ → ℕ
tag_of n = 160 + n

-- no field follows
abbrev pub end : Fields (Unit {0})
end = record {
  content = record { IsDer = λ bytes _. bytes ≡ []; spelling = λ _. []; reading = done_at; Fits = λ _. Unit {0} };
  appended = λ old _. old;
  low = 256;
}

-- the field with this number, whose value tells which fields follow
abbrev pub depending : {X Y : Type 0} → ℕ → Codec X → (X → Fields Y) → Fields (X × Y)
depending n c more = record {
  content = record {
    IsDer = λ bytes x. Are (λ front. IsWithin c.IsDer (tag_of n) front x.0) (λ rest. (more x.0).content.IsDer rest x.1) bytes;
    spelling = λ x. element (tag_of n) (c.spelling x.0) ++ (more x.0).content.spelling x.1;
    reading = λ here. (explicit (tag_of n) c).reading here >>= λ x. (more x.0).content.reading x.1 >>= λ y. Ok (x.0, y);
    Fits = λ x. c.Fits x.0 × (more x.0).content.Fits x.1;
  };
  appended = λ old x. (more x.0).appended (old ++ element (tag_of n) (c.spelling x.0)) x.1;
  low = tag_of n;
}

-- the field with this number
abbrev pub field : {X Y : Type 0} → ℕ → Codec X → Fields Y → Fields (X × Y)
field n c more = depending n c (λ _. more)

abbrev pub begins : ℕ → List ℕ → Bool
begins tag [] = false
begins tag (b ∷ bytes) = nat_eq b tag

-- a field that may be absent, at the front
abbrev pub optional_at : {X : Type 0} → ℕ → Codec X → At → Result (Option X × At) DerRefusal
optional_at n c here =
    if begins (tag_of n) here.bytes then ((explicit (tag_of n) c).reading here >>= λ x. Ok (Some x.0, x.1))
    else Ok (None, here)

abbrev pub optional_spelling : {X : Type 0} → ℕ → Codec X → Option X → List ℕ
optional_spelling n c None = []
optional_spelling n c (Some x) = element (tag_of n) (c.spelling x)

abbrev pub IsOptional : {X : Type 0} → ℕ → Codec X → List ℕ → Option X → Type 0
IsOptional n c bytes None = bytes ≡ []
IsOptional n c bytes (Some x) = IsWithin c.IsDer (tag_of n) bytes x

-- the field with this number, where it is there
abbrev pub optional : {X Y : Type 0} → ℕ → Codec X → Fields Y → Fields (Option X × Y)
optional n c more = record {
  content = record {
    IsDer = λ bytes x. Are (λ front. IsOptional n c front x.0) (λ rest. more.content.IsDer rest x.1) bytes;
    spelling = λ x. optional_spelling n c x.0 ++ more.content.spelling x.1;
    reading = λ here. optional_at n c here >>= λ x. more.content.reading x.1 >>= λ y. Ok (x.0, y);
    Fits = λ x. IfSome x.0 c.Fits × more.content.Fits x.1;
  };
  appended = λ old x. more.appended (old ++ optional_spelling n c x.0) x.1;
  low = tag_of n;
}

-- what make makes of the fields' values; parts_of gives the values that are written
abbrev pub made : {X Y : Type 0} → Fields X → (X → Y) → (Y → X) → Fields Y
made fields make parts_of = record {
  content = record {
    IsDer = IsMade fields.content.IsDer make;
    spelling = λ y. fields.content.spelling (parts_of y);
    reading = λ here. fields.content.reading here >>= λ x. Ok (make x);
    Fits = λ y. (make (parts_of y) ≡ y) × fields.content.Fits (parts_of y);
  };
  appended = λ old y. fields.appended old (parts_of y);
  low = fields.low;
}

-- a field that is read past and never written
abbrev pub dropped : {X Y : Type 0} → ℕ → Codec X → Fields Y → Fields Y
dropped n c more = made (optional n c more) (λ x. x.1) (λ y. (None, y))

abbrev pub list_of : {X : Type 0} → Option (List X) → List X
list_of None = []
list_of (Some xs) = xs

abbrev pub unless_empty : {X : Type 0} → List X → Option (List X)
unless_empty [] = None
unless_empty (x ∷ xs) = Some (x ∷ xs)

-- a list that may be absent, at the front
abbrev pub list_at : {X : Type 0} → ℕ → Codec (List X) → At → Result (List X × At) DerRefusal
list_at n c here = optional_at n c here >>= λ x. Ok (list_of x.0, x.1)

-- a list that may be absent, which reads as no items; no items are written as an absent field
abbrev pub listed : {X Y : Type 0} → ℕ → Codec (List X) → Fields Y → Fields (List X × Y)
listed n c more = made (optional n c more) (λ x. (list_of x.0, x.1)) (λ x. (unless_empty x.0, x.1))

-- the SEQUENCE of these fields
abbrev pub sequence : {X : Type 0} → Fields X → Codec X
sequence fields = element_of 0x30 fields.content
