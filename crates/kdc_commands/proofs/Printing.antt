-- What a run prints: all of its outcome, a front of it where a fault is told, nothing where reading failed.
use Rattle.std.proofs.Common.{◌≡◌, ℕ, List, [], append-nil, refl, sym}
use Rattle.std.specs.Prelude.{Bool, Option, None, Some, IfSome, true, false, ◌==◌, ◌||◌}
use Rattle.std.specs.Io.KnownBytes.{Appends}
use Rattle.kdc_prelude.specs.Printed.{AppendsFront}
use Rattle.kdc_commands.specs.Outcomes.{Outcome, is_fault}
use Rattle.kdc_commands.specs.Runs.{Prints}

appends_nothing : (held : Option (List ℕ)) → Appends held held []
appends_nothing None = tt
appends_nothing (Some bytes) = sym (append-nil bytes)

-- a fault that is told where nothing was written
pub silent : (status : ℕ) → is_fault status ≡ true → (outcome : Option Outcome) (held : Option (List ℕ)) → IfSome outcome (Prints held held status)
silent status fault None held = tt
silent status fault (Some outcome) held = record {
  whole = λ h. absurd (cc);
  front = λ _. (0, appends_nothing held);
  nothing = λ _. appends_nothing held;
}

-- a fault of writing
pub fronted : (outcome : Option Outcome) (reply : Outcome) (held new : Option (List ℕ)) (status : ℕ) → is_fault status ≡ true → (status == 5 || status == 9) ≡ false → IfSome outcome (λ o. o ≡ reply) → AppendsFront held new reply.text → IfSome outcome (Prints held new status)
fronted None reply held new status fault other same front = tt
fronted (Some outcome) reply held new status fault other same front = record {
  whole = λ h. absurd (cc);
  front = λ _. rw same front;
  nothing = λ h. absurd (cc);
}

-- where nothing is printed a fault is told
told : (three five six nine : Bool) → (five || nine) ≡ true → (three || five || six || nine) ≡ false → ⊥
told true five six nine h fine = absurd (cc)
told false true six nine h fine = absurd (cc)
told false false true nine h fine = absurd (cc)
told false false false true h fine = absurd (cc)
told false false false false h fine = absurd (cc)

quiet : (status : ℕ) → (status == 5 || status == 9) ≡ true → is_fault status ≡ false → ⊥
quiet status h fine = told (status == 3) (status == 5) (status == 6) (status == 9) h fine

-- all was written
pub printed : (outcome : Option Outcome) (reply : Outcome) (held new : Option (List ℕ)) → is_fault reply.status ≡ false → IfSome outcome (λ o. o ≡ reply) → Appends held new reply.text → IfSome outcome (Prints held new reply.status)
printed None reply held new fine same all = tt
printed (Some outcome) reply held new fine same all = record {
  whole = λ _. rw same (refl, all);
  front = λ h. absurd (cc);
  nothing = λ h. absurd (quiet reply.status h fine);
}
