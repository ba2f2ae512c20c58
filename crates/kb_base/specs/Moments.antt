-- The moments that a clock tells, one after the other, where they are known.
use Rattle.std.specs.Prelude.{◌≡◌, List, [], ◌∷◌, Option, None, Some}
use Rattle.krb_names.specs.declared.moment.Moment.{Moment}

abbrev pub first_moment : List Moment → Option Moment
first_moment [] = None
first_moment (moment ∷ rest) = Some moment

-- those that are left once the first is told; the last one repeats
abbrev pub later_moments : List Moment → List Moment
later_moments [] = []
later_moments (moment ∷ []) = moment ∷ []
later_moments (moment ∷ next ∷ rest) = next ∷ rest

-- the first moment was told, and the later ones are left
abbrev pub TellsMoment : Option (List Moment) → Option (List Moment) → Moment → Type 0
TellsMoment None new moment = Unit {0}
TellsMoment (Some old) None moment = ⊥
TellsMoment (Some old) (Some new) moment = (first_moment old ≡ Some moment) × (new ≡ later_moments old)
