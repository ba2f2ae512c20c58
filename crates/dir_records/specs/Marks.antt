-- What may stand only once in a realm or in the directory, each with its place.
use Rattle.std.specs.Prelude.{ℕ, List, ◌∷◌, ◌++◌, filter, map, flat_map}
use Rattle.std.specs.List.{enumerate_from}
use denote.Ref.{Bor}
use Rattle.kdc_prelude.specs.Texts.{same_text}
use Rattle.krb_names.specs.Keys.{key_bytes}
use Rattle.dir_records.specs.declared.records.Account.{Account}
use Rattle.dir_records.specs.declared.records.KeyRec.{KeyRec}
use Rattle.dir_records.specs.declared.records.SpentNumber.{SpentNumber}
use Rattle.dir_records.specs.declared.records.Trust.{Trust}
use Rattle.dir_records.specs.declared.records.RealmRec.{RealmRec}
use Rattle.dir_records.specs.declared.refusal.DirPlace.{DirPlace}
use Rattle.dir_records.specs.declared.refusal.DirPlace.TheVariants.{Whole, Realm, Account as AtAccount, Trust as AtTrust}

-- a mark of each account of the realm at an index, where the accounts are counted from a number on
abbrev pub account_marks : {X : Type 0} → (Account → X) → ℕ → ℕ → List Account → List (DirPlace × X)
account_marks mark at number accounts = map (λ entry. (AtAccount at entry.0, mark entry.1)) (enumerate_from number accounts)

abbrev pub trust_marks : {X : Type 0} → (Trust → X) → ℕ → ℕ → List Trust → List (DirPlace × X)
trust_marks mark at number trusts = map (λ entry. (AtTrust at entry.0, mark entry.1)) (enumerate_from number trusts)

-- the names of a realm's accounts
abbrev pub name_marks : ℕ → RealmRec → List (DirPlace × List ℕ)
name_marks at realm = account_marks (λ account. account.name) at 1 realm.accounts

-- their numbers
abbrev pub number_marks : ℕ → RealmRec → List (DirPlace × ℕ)
number_marks at realm = account_marks (λ account. account.number) at 1 realm.accounts

-- the numbers that are spent in a realm, at no place of it
abbrev pub spent_number_marks : List SpentNumber → RealmRec → List (DirPlace × ℕ)
spent_number_marks spent realm = map (λ taken. (Whole, taken.number)) (filter (λ taken. same_text taken.realm realm.name) spent)

-- the service principal names of a realm's accounts, which are counted from a number on
abbrev pub spn_marks_from : ℕ → ℕ → List Account → List (DirPlace × List ℕ)
spn_marks_from at number accounts = flat_map (λ entry. map (λ spn. (AtAccount at entry.0, spn)) entry.1.spns) (enumerate_from number accounts)

-- the service principal names of a realm's accounts
abbrev pub spn_marks : ℕ → RealmRec → List (DirPlace × List ℕ)
spn_marks at realm = spn_marks_from at 1 realm.accounts

-- the octets of a realm's keys: its own, its accounts', its trusts'
abbrev pub key_marks : ℕ → RealmRec → List (DirPlace × List ℕ)
key_marks at realm =
    ((Realm at, key_bytes realm.krbtgt.key) ∷ account_marks (λ account. key_bytes account.key.key) at 1 realm.accounts)
    ++ trust_marks (λ trust. key_bytes trust.key.key) at 1 realm.trusts

-- the octets of the keys that are spent, at no place of a realm
abbrev pub spent_key_marks : List KeyRec → List (DirPlace × List ℕ)
spent_key_marks spent = map (λ key. (Whole, key_bytes key.key)) spent

-- the partners of a realm's trusts
abbrev pub partner_marks : ℕ → RealmRec → List (DirPlace × List ℕ)
partner_marks at realm = trust_marks (λ trust. trust.partner) at 1 realm.trusts

-- the marks of realms, which are counted from an index on
abbrev pub marks_from : {X : Type 0} → (ℕ → RealmRec → List (DirPlace × X)) → ℕ → List RealmRec → List (DirPlace × X)
marks_from marks at realms = flat_map (λ entry. marks entry.0 entry.1) (enumerate_from at realms)

-- the marks of all realms
abbrev pub marks_of : {X : Type 0} → (ℕ → RealmRec → List (DirPlace × X)) → List RealmRec → List (DirPlace × X)
marks_of marks realms = marks_from marks 0 realms

-- a mark as it is read
abbrev pub now_of : DirPlace × Bor (List ℕ) → DirPlace × List ℕ
now_of mark = (mark.0, mark.1.now)
