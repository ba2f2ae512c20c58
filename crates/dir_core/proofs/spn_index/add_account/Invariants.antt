use Rattle.std.proofs.Common.{◌≡◌, ℕ, List, take}
use Rattle.kdc_prelude.specs.Texts.{is_one_of}
use Rattle.dir_indexes.specs.Places.{pair_of_text}
use Rattle.dir_core.specs.Indexed.{in_account}
use Rattle.dir_core.proofs.spn_index.add_account.Given as goal

abbrev pub invariant-loop-spn : goal.invariant-loop-spn
invariant-loop-spn l =
    (spn : List ℕ) → pair_of_text l.index spn ≡ in_account l.place (pair_of_text l.initial.index spn) (is_one_of (take l.spn-index l.account.spns) spn)
