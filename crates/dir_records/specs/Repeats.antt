-- What stands twice in a directory, and where.
use Rattle.std.specs.Prelude.{Bool, List, [], ◌∷◌, Option, None, Some, if◌then◌else◌}
use Rattle.std.specs.List.{list_any}
use Rattle.dir_records.specs.declared.refusal.DirPlace.{DirPlace}

-- the place of the first of these marks that is the same as one before it, where some came before
abbrev pub repeat_after : {X : Type 0} → (X → X → Bool) → List X → List (DirPlace × X) → Option DirPlace
repeat_after same before [] = None
repeat_after same before (mark ∷ marks) =
    if list_any (same mark.1) before then Some mark.0 else repeat_after same (mark.1 ∷ before) marks

-- the place of the first mark that is the same as one before it
abbrev pub first_repeat : {X : Type 0} → (X → X → Bool) → List (DirPlace × X) → Option DirPlace
first_repeat same marks = repeat_after same [] marks
