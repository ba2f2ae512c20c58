use Rattle.std.proofs.Common.{◌≡◌, ℕ, List, take}
use Rattle.std.specs.Prelude.{position}
use Rattle.dir_indexes.specs.Places.{pair_of_text}
use Rattle.dir_core.specs.Indexed.{in_realm}
use Rattle.dir_core.specs.Lookups.{has_spn}
use Rattle.dir_core.proofs.spn_index.add_accounts.Given as goal

abbrev pub invariant-loop-i : goal.invariant-loop-i
invariant-loop-i l =
    (spn : List ℕ) → pair_of_text l.index spn ≡ in_realm l.realm (pair_of_text l.initial.index spn) (position (has_spn spn) (take l.i l.accounts))
