use Rattle.std.proofs.Common.{◌≡◌, ◌++◌, ◌∷◌, ℕ, List, take}
use Rattle.std.specs.List.{flat_map}
use Rattle.krb_tickets.proofs.transited.put_joined.Given as goal

abbrev pub invariant-loop-name : goal.invariant-loop-name
invariant-loop-name l = l.to ≡ l.initial.to ++ flat_map (λ (y : List ℕ). 44 ∷ y) (take l.name-index l.others)
