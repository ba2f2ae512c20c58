use Rattle.std.proofs.Common.{◌≡◌, ℕ, List, take}
use Rattle.dir_indexes.specs.Places.{pair_of_text}
use Rattle.dir_core.specs.Lookups.{spn_place_from}
use Rattle.dir_core.proofs.spn_index.index_spns.Given as goal

abbrev pub invariant-loop-i : goal.invariant-loop-i
invariant-loop-i l =
    (spn : List ℕ) → pair_of_text l.index spn ≡ spn_place_from spn 0 (take l.i l.realms)
