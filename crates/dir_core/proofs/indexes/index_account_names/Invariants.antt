use Rattle.std.proofs.Common.{◌≡◌, ℕ, List, take}
use Rattle.std.specs.Prelude.{position}
use Rattle.kdc_prelude.specs.Texts.{same_text}
use Rattle.dir_indexes.specs.Places.{place_of_text}
use Rattle.dir_core.proofs.indexes.index_account_names.Given as goal

abbrev pub invariant-loop-i : goal.invariant-loop-i
invariant-loop-i l =
    (name : List ℕ) → place_of_text l.index name ≡ position (λ account. same_text account.name name) (take l.i l.accounts)
