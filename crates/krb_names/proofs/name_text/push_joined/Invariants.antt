use Rattle.std.proofs.Common.{◌≡◌, ◌++◌, ◌∷◌, ℕ, List, take, string_bytes}
use Rattle.std.specs.List.{flat_map}
use Rattle.krb_names.proofs.name_text.push_joined.Given as goal

abbrev pub invariant-loop-other : goal.invariant-loop-other
invariant-loop-other l = string_bytes l.text ≡ string_bytes l.initial.text ++ flat_map (λ (y : List ℕ). l.separator ∷ y) (take l.other-index l.others)
