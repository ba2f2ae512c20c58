-- What a directory is, in sentences: forms and limits of each member, what is distinct, what is referred to, and the ranges of
-- the types (names by RFC 4120, section 6, SIDs by MS-DTYP, section 2.4.2; the limits are an own choice).
use Rattle.std.specs.Prelude.{◌≡◌, ℕ, ◌<◌, ◌≤◌, ◌^◌, true, nat_eq, List, ◌∷◌, ◌++◌, filter, flat_map, length, map, sum_by}
use Rattle.std.specs.List.{AllByRecursion, list_all}
use Rattle.std.specs.Str.{is_utf8}
use Rattle.kdc_prelude.specs.Distinct.{all_distinct}
use Rattle.kdc_prelude.specs.Texts.{same_text}
use Rattle.krb_names.specs.Keys.{key_bytes}
use Rattle.krb_names.specs.Pieces.{is_name}
use Rattle.krb_names.specs.SidValue.{SidValue}
use Rattle.dir_records.specs.declared.records.Account.{Account}
use Rattle.dir_records.specs.declared.records.KeyRec.{KeyRec}
use Rattle.dir_records.specs.declared.records.RealmRec.{RealmRec}
use Rattle.dir_records.specs.declared.records.SpentNumber.{SpentNumber}
use Rattle.dir_records.specs.declared.records.Trust.{Trust}
use Rattle.dir_records.specs.Clashes.{has_distinct_entries, has_references, overlaps}
use Rattle.dir_records.specs.DirectoryValue.{DirectoryValue}
use Rattle.dir_records.specs.Forms.{is_account_name, is_key, is_positive, is_service_name}

-- the forms and limits of an account
pub record IsAccount (account : Account) : Type 0 where
  pub name : is_account_name account.name ≡ true
  pub number : is_positive account.number ≡ true
  pub key : is_key account.key ≡ true
  pub salt : length account.salt ≤ 1024
  pub spns : list_all is_service_name account.spns ≡ true
  pub few_spns : length account.spns ≤ 32
  pub classic : list_all is_service_name account.classic ≡ true
  pub few_classic : length account.classic ≤ 256
  pub few_resource : length account.resource ≤ 256
  pub few_groups : length account.groups ≤ 128

-- the forms and limits of a trust
pub record IsTrust (trust : Trust) : Type 0 where
  pub partner : is_name trust.partner ≡ true
  pub key : is_key trust.key ≡ true
  pub reach : list_all is_name trust.reach ≡ true
  pub few_reach : length trust.reach ≤ 63

-- the forms and limits of a realm: its SID leaves room for an account's number, and its longest ticket lasts a second to a year
pub record IsRealm (realm : RealmRec) : Type 0 where
  pub name : is_name realm.name ≡ true
  pub sid : length realm.sid.numbers ≤ 14
  pub krbtgt : is_key realm.krbtgt ≡ true
  pub some_life : 1 ≤ realm.max_life
  pub few_life : realm.max_life ≤ 31536000
  pub accounts : AllByRecursion IsAccount realm.accounts
  pub few_trusts : length realm.trusts ≤ 32
  pub trusts : AllByRecursion IsTrust realm.trusts

-- the forms and limits of all members
pub record HasForms (dir : DirectoryValue) : Type 0 where
  pub some_realms : 1 ≤ length dir.realms
  pub few_realms : length dir.realms ≤ 64
  pub realms : AllByRecursion IsRealm dir.realms
  pub few_accounts : sum_by (λ realm. length realm.accounts) dir.realms ≤ 100000
  pub few_spent_keys : length dir.spent_keys ≤ 100000
  pub few_spent_numbers : length dir.spent_numbers ≤ 100000

-- the numbers that are spent in a realm
abbrev pub numbers_spent : List SpentNumber → RealmRec → List ℕ
numbers_spent spent realm = map (λ taken. taken.number) (filter (λ taken. same_text taken.realm realm.name) spent)

-- in a realm no two accounts have one name or one number, no number of an account is spent, no two trusts have one partner,
-- and no entry of an account's lists or of a reach list stands twice in its list
pub record HasDistinctMembers (spent : List SpentNumber) (realm : RealmRec) : Type 0 where
  pub names : all_distinct same_text (map (λ account. account.name) realm.accounts) ≡ true
  pub numbers : all_distinct nat_eq (numbers_spent spent realm ++ map (λ account. account.number) realm.accounts) ≡ true
  pub partners : all_distinct same_text (map (λ trust. trust.partner) realm.trusts) ≡ true
  pub entries : list_all has_distinct_entries realm.accounts ≡ true
  pub reach : list_all (λ trust. all_distinct same_text trust.reach) realm.trusts ≡ true

-- the octets of a realm's keys: its own, its accounts', its trusts'
abbrev pub keys_of : RealmRec → List (List ℕ)
keys_of realm =
    (key_bytes realm.krbtgt.key ∷ map (λ account. key_bytes account.key.key) realm.accounts)
    ++ map (λ trust. key_bytes trust.key.key) realm.trusts

-- no two realms have one name; no SID of a realm is another's, nor another's with numbers behind it; no two accounts, nor one
-- account twice, have one service principal name; no two holders have one key, and no key of a holder is spent
pub record IsDistinct (dir : DirectoryValue) : Type 0 where
  pub names : all_distinct same_text (map (λ realm. realm.name) dir.realms) ≡ true
  pub sids : all_distinct overlaps (map (λ realm. realm.sid) dir.realms) ≡ true
  pub members : AllByRecursion (HasDistinctMembers dir.spent_numbers) dir.realms
  pub spns : all_distinct same_text (flat_map (λ realm. flat_map (λ account. account.spns) realm.accounts) dir.realms) ≡ true
  pub keys : all_distinct same_text (map (λ key. key_bytes key.key) dir.spent_keys ++ flat_map keys_of dir.realms) ≡ true

-- each trust's partner is another realm of the directory, which has a trust back, and what it reaches are other realms of it
pub record HasReferences (dir : DirectoryValue) : Type 0 where
  pub trusts : AllByRecursion (λ realm. list_all (has_references dir.realms realm) realm.trusts ≡ true) dir.realms

-- what is tested of a directory
pub record IsConsistent (dir : DirectoryValue) : Type 0 where
  pub forms : HasForms dir
  pub distinct : IsDistinct dir
  pub references : HasReferences dir

-- 32 octets
pub record IsKeyInRange (key : KeyRec) : Type 0 where
  pub version : key.version < 2 ^ 32
  pub size : length key.key.raw ≡ 32
  pub octets : AllByRecursion (λ (octet : ℕ). octet < 256) key.key.raw

-- an authority of 48 bits, and 1 to 15 numbers of 32 bits
pub record IsSidInRange (sid : SidValue) : Type 0 where
  pub authority : sid.authority < 2 ^ 48
  pub some : 1 ≤ length sid.numbers
  pub few : length sid.numbers ≤ 15
  pub numbers : AllByRecursion (λ (number : ℕ). number < 2 ^ 32) sid.numbers

abbrev pub IsText : List ℕ → Type 0
IsText text = is_utf8 text ≡ true

pub record IsAccountInRange (account : Account) : Type 0 where
  pub name : IsText account.name
  pub number : account.number < 2 ^ 32
  pub key : IsKeyInRange account.key
  pub salt : IsText account.salt
  pub spns : AllByRecursion IsText account.spns
  pub classic : AllByRecursion IsText account.classic
  pub resource : AllByRecursion IsSidInRange account.resource
  pub groups : AllByRecursion (λ (group : ℕ). group < 2 ^ 32) account.groups

pub record IsTrustInRange (trust : Trust) : Type 0 where
  pub partner : IsText trust.partner
  pub key : IsKeyInRange trust.key
  pub reach : AllByRecursion IsText trust.reach

pub record IsRealmInRange (realm : RealmRec) : Type 0 where
  pub name : IsText realm.name
  pub sid : IsSidInRange realm.sid
  pub krbtgt : IsKeyInRange realm.krbtgt
  pub life : realm.max_life < 2 ^ 64
  pub accounts : AllByRecursion IsAccountInRange realm.accounts
  pub trusts : AllByRecursion IsTrustInRange realm.trusts

pub record IsSpentNumberInRange (taken : SpentNumber) : Type 0 where
  pub realm : IsText taken.realm
  pub number : taken.number < 2 ^ 32

-- numbers, octets and texts are those of the types, which a value in a law has not by itself
pub record IsInRange (dir : DirectoryValue) : Type 0 where
  pub realms : AllByRecursion IsRealmInRange dir.realms
  pub spent_keys : AllByRecursion IsKeyInRange dir.spent_keys
  pub spent_numbers : AllByRecursion IsSpentNumberInRange dir.spent_numbers

-- a directory
pub record IsDirectory (dir : DirectoryValue) : Type 0 where
  pub consistent : IsConsistent dir
  pub in_range : IsInRange dir
