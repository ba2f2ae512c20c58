-- What the indexes hold, read as functions: from a text or a number to its place, from a number to whether it is there.
use Rattle.std.specs.Prelude.{◌≡◌, ℕ, List, Bool, Option, None, Some, nat_lt, ◌-◌, if◌then◌else◌}
use Rattle.std.specs.Ordering.{nat_cmp}
use Rattle.std.specs.BTreeMap as tree
use Rattle.std.specs.BTreeSet as sorted
use Rattle.dir_indexes.specs.declared.text_index.TextIndex.{TextIndex}
use Rattle.dir_indexes.specs.declared.pair_index.PairIndex.{PairIndex}
use Rattle.dir_indexes.specs.declared.number_index.NumberIndex.{NumberIndex}
use Rattle.dir_indexes.specs.declared.number_set.NumberSet.{NumberSet}

-- the place of a text
unfoldable pub place_of_text : TextIndex → List ℕ → Option ℕ
place_of_text index text = tree.get_by_text index.places text

-- the realm's index and the account's of a text
unfoldable pub pair_of_text : PairIndex → List ℕ → Option (ℕ × ℕ)
pair_of_text index text = tree.get_by_text index.places text

-- the place of a number
unfoldable pub place_of_number : NumberIndex → ℕ → Option ℕ
place_of_number index number = tree.get nat_cmp index.places number

-- whether the number is there
unfoldable pub has_number : NumberSet → ℕ → Bool
has_number set number = sorted.contains nat_cmp set.numbers number

-- the keys have the same places, or are there as before
abbrev pub IsSame : {K V : Type 0} → (K → V) → (K → V) → Type 0
IsSame old new = (key : _) → new key ≡ old key

-- one key has this value, and the others theirs
abbrev pub Puts : {K V : Type 0} → (K → K → Bool) → (K → V) → (K → V) → K → V → Type 0
Puts same old new one value = (key : _) → new key ≡ (if same one key then value else old key)

-- the place that is there, or else this one
abbrev pub or_place : {P : Type 0} → Option P → P → Option P
or_place None place = Some place
or_place (Some there) place = Some there

-- one key has this place, unless it had one, and the others theirs
abbrev pub Adds : {K P : Type 0} → (K → K → Bool) → (K → Option P) → (K → Option P) → K → P → Type 0
Adds same old new one place = (key : _) → new key ≡ (if same one key then or_place (old key) place else old key)

-- a place above one goes down by one
abbrev pub moved_down : ℕ → ℕ → ℕ
moved_down at place = if nat_lt at place then place - 1 else place
