-- The ordered indexes beside the lists of a directory: each has exactly what the lists have.
use Rattle.std.specs.Prelude.{◌≡◌, ℕ, ◌==◌, Bool, List, Option, None, Some, position, if◌then◌else◌}
use Rattle.std.specs.List.{AllZip}
use Rattle.kdc_prelude.specs.Texts.{same_text}
use Rattle.dir_indexes.specs.Places.{IsSame, or_place, pair_of_text, place_of_number, place_of_text}
use Rattle.dir_records.specs.declared.records.RealmRec.{RealmRec}
use Rattle.dir_records.specs.DirectoryValue.{DirectoryValue}
use Rattle.dir_core.specs.declared.indexes.Indexes.{Indexes}
use Rattle.dir_core.specs.declared.indexes.RealmIndex.{RealmIndex}
use Rattle.dir_core.specs.Lookups.{realm_named, spn_place}

-- where each name and each number stands among a realm's accounts
pub record IsRealmIndexed (index : RealmIndex) (realm : RealmRec) : Type 0 where
  pub names : (name : List ℕ) → place_of_text index.names name ≡ position (λ account. same_text account.name name) realm.accounts
  pub numbers : (number : ℕ) → place_of_number index.numbers number ≡ position (λ account. account.number == number) realm.accounts

-- where each realm's name stands, each realm's accounts, and each service principal name in all realms
pub record IsIndexed (indexes : Indexes) (dir : DirectoryValue) : Type 0 where
  pub names : (name : List ℕ) → place_of_text indexes.names name ≡ realm_named dir name
  pub realms : AllZip IsRealmIndexed indexes.realms dir.realms
  pub spns : (spn : List ℕ) → pair_of_text indexes.spns spn ≡ spn_place dir spn

-- a copy of a realm's indexes
pub record IsSameIndex (old new : RealmIndex) : Type 0 where
  pub names : IsSame (place_of_text old.names) (place_of_text new.names)
  pub numbers : IsSame (place_of_number old.numbers) (place_of_number new.numbers)

-- the place that a service principal name has, or else that of an account which may have it
abbrev pub in_account : ℕ × ℕ → Option (ℕ × ℕ) → Bool → Option (ℕ × ℕ)
in_account place there found = if found then or_place there place else there

-- the same, of the realm at an index, in which an account may have it
abbrev pub in_realm : ℕ → Option (ℕ × ℕ) → Option ℕ → Option (ℕ × ℕ)
in_realm realm there None = there
in_realm realm there (Some account) = or_place there (realm, account)
