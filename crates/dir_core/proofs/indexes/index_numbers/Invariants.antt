use Rattle.std.proofs.Common.{◌≡◌, ℕ, take}
use Rattle.std.specs.Prelude.{◌==◌, position}
use Rattle.dir_indexes.specs.Places.{place_of_number}
use Rattle.dir_core.proofs.indexes.index_numbers.Given as goal

abbrev pub invariant-loop-i : goal.invariant-loop-i
invariant-loop-i l =
    (number : ℕ) → place_of_number l.index number ≡ position (λ account. account.number == number) (take l.i l.accounts)
