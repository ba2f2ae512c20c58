-- SEQUENCE OF (X.690, section 8.10).
use Rattle.std.specs.Prelude.{◌≡◌, ℕ, zero, suc, ◌≤◌, List, [], ◌∷◌, length, Bool, true, false, Result, Ok, nat_eq, if◌then◌else◌}
use Rattle.std.specs.List.{flat_map, AllByRecursion}
use Rattle.der_core.specs.declared.refusal.DerRefusal.{DerRefusal}
use Rattle.der_core.specs.declared.refusal.DerCause.TheVariants.{LengthForm}
use Rattle.der_core.specs.Place.{At, refused, ◌>>=◌}
use Rattle.der_core.specs.Codec.{Codec, Content, element_of, such}
use Rattle.der_forms.specs.Fields.{Are}

-- each item in turn, up to the end; a further one than n is at fault as LengthForm where the list starts
unfoldable pub items_at : {X : Type 0} → ℕ → ℕ → Codec X → At → Result (List X) DerRefusal
items_at zero start c here = if nat_eq (length here.bytes) 0 then Ok [] else refused LengthForm start
items_at (suc n) start c here =
    if nat_eq (length here.bytes) 0 then Ok []
    else (c.reading here >>= λ x. items_at n start c x.1 >>= λ xs. Ok (x.0 ∷ xs))

-- the bytes are the items', one after the other
abbrev pub AreItems : {X : Type 0} → (List ℕ → X → Type 0) → List ℕ → List X → Type 0
AreItems IsDer bytes [] = bytes ≡ []
AreItems IsDer bytes (x ∷ xs) = Are (λ front. IsDer front x) (λ rest. AreItems IsDer rest xs) bytes

-- any number of items; each has a byte, so they are not more than the bytes
abbrev pub items : {X : Type 0} → Codec X → Content (List X)
items c = record {
  IsDer = AreItems c.IsDer;
  spelling = flat_map c.spelling;
  reading = λ here. items_at (length here.bytes) here.place c here;
  Fits = AllByRecursion c.Fits;
}

-- at most n items
abbrev pub items_up_to : {X : Type 0} → ℕ → Codec X → Content (List X)
items_up_to n c = record {
  IsDer = λ bytes xs. AreItems c.IsDer bytes xs × (length xs ≤ n);
  spelling = flat_map c.spelling;
  reading = λ here. items_at n here.place c here;
  Fits = λ xs. AllByRecursion c.Fits xs × (length xs ≤ n);
}

abbrev pub is_some : {X : Type 0} → List X → Bool
is_some [] = false
is_some (x ∷ xs) = true

-- 1 to n items; none are at fault as LengthForm where the list starts
abbrev pub some_items : {X : Type 0} → ℕ → Codec X → Content (List X)
some_items n c = such is_some LengthForm (items_up_to n c)

abbrev pub sequence_of : {X : Type 0} → Codec X → Codec (List X)
sequence_of c = element_of 0x30 (items c)
