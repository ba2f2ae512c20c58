-- Arrays and strings.
use Rattle.std.specs.Prelude.{◌≡◌, ℕ, ◌*◌, ◌/◌, List, [], ◌∷◌, length, replicate, Bool, ◌&&◌, nat_le, nat_eq, Result, Ok}
use Rattle.std.specs.Int.{w32}
use Rattle.ndr_core.specs.declared.refusal.NdrCause.TheVariants.{BadCount, TooMany}
use Rattle.ndr_core.specs.declared.fault.LogonFault.{LogonFault}
use Rattle.ndr_core.specs.Place.{At, ◌>>=◌}
use Rattle.ndr_core.specs.Layout.{Written, Layout, Are, followed, mapped, such}
use Rattle.ndr_core.specs.Fields.{number, exactly, raw}

-- the count of an array: the said one, and at most 1,024
abbrev pub count : ℕ → Layout ℕ
count said = such w32 (λ n. nat_le n 1024) TooMany (exactly w32 said BadCount)

-- what the actual count of a string has to be: not above the maximum, and half of the length in bytes
abbrev pub is_actual : ℕ → ℕ → ℕ → Bool
is_actual length maximum n = nat_le n maximum && nat_eq length (2 * n)

-- a string's maximum, offset and actual count, in units of two bytes, and the units (C706 14.3.4.2)
abbrev pub unit_parts : ℕ → Layout (ℕ × (ℕ × (ℕ × List ℕ)))
unit_parts length =
    followed (number w32) (λ maximum.
    followed (exactly w32 0 BadCount) (λ _.
    followed (such w32 (is_actual length maximum) BadCount (number w32)) (λ n.
    raw (2 * n))))

-- the units of a string of this length in bytes
abbrev pub units : ℕ → Layout (List ℕ)
units said = mapped (unit_parts said) (λ p. p.1.1.1) (λ x. (length x / 2, (0, (length x / 2, x))))

-- ---- one behind the other

abbrev pub IsEach : {H X : Type 0} → (H → Layout X) → List H → ℕ → List ℕ → List X → Type 0
IsEach layout [] place bytes [] = bytes ≡ []
IsEach layout (h ∷ hs) place bytes (x ∷ xs) = Are (λ p b. (layout h).IsNdr p b x) (λ p b. IsEach layout hs p b xs) place bytes
IsEach layout [] place bytes (x ∷ xs) = ⊥
IsEach layout (h ∷ hs) place bytes [] = ⊥

abbrev pub put_each : {H X : Type 0} → (H → Layout X) → List H → Written → List X → Written
put_each layout (h ∷ hs) old (x ∷ xs) = put_each layout hs ((layout h).written old x) xs
put_each layout [] old xs = old
put_each layout (h ∷ hs) old [] = old

unfoldable pub each_at : {H X : Type 0} → (H → Layout X) → List H → At → Result (List X × At) LogonFault
each_at layout [] here = Ok ([], here)
each_at layout (h ∷ hs) here = (layout h).reading here >>= λ x. each_at layout hs x.1 >>= λ xs. Ok (x.0 ∷ xs.0, xs.1)

abbrev pub FitsEach : {H X : Type 0} → (H → Layout X) → List H → List X → Type 0
FitsEach layout [] [] = Unit {0}
FitsEach layout (h ∷ hs) (x ∷ xs) = (layout h).Fits x × FitsEach layout hs xs
FitsEach layout [] (x ∷ xs) = ⊥
FitsEach layout (h ∷ hs) [] = ⊥

-- for each of these the value that it asks for
abbrev pub each : {H X : Type 0} → (H → Layout X) → List H → Layout (List X)
each layout hs = record {
  IsNdr = IsEach layout hs;
  written = put_each layout hs;
  reading = each_at layout hs;
  Fits = FitsEach layout hs;
}

-- n values of one layout
abbrev pub repeated : {X : Type 0} → ℕ → Layout X → Layout (List X)
repeated n c = each (λ (_ : Unit {0}). c) (replicate n tt)
