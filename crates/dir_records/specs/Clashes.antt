-- What stands twice in a directory though it may stand only once, and what is referred to and is not there.
use Rattle.std.specs.Prelude.{ℕ, ◌++◌, ◌&&◌, ◌||◌, ◌==◌, Bool, not, nat_eq, nat_lt, List, map, Option, None, Some, if◌then◌else◌}
use Rattle.std.specs.List.{list_any, list_all, enumerate_from, starts_with}
use Rattle.kdc_prelude.specs.Distinct.{all_distinct}
use Rattle.kdc_prelude.specs.Texts.{same_text}
use Rattle.kdc_prelude.specs.Verdicts.{first_failing, ◌or_else◌}
use Rattle.krb_names.specs.SidValue.{SidValue, same_sid}
use Rattle.dir_records.specs.declared.records.Account.{Account}
use Rattle.dir_records.specs.declared.records.KeyRec.{KeyRec}
use Rattle.dir_records.specs.declared.records.SpentNumber.{SpentNumber}
use Rattle.dir_records.specs.declared.records.Trust.{Trust}
use Rattle.dir_records.specs.declared.records.RealmRec.{RealmRec}
use Rattle.dir_records.specs.declared.refusal.DirPlace.{DirPlace}
use Rattle.dir_records.specs.declared.refusal.DirPlace.TheVariants.{Whole, Realm, Account as AtAccount, Trust as AtTrust, Line}
use Rattle.dir_records.specs.Marks.{account_marks, key_marks, marks_of, name_marks, number_marks, partner_marks, spent_key_marks, spent_number_marks, spn_marks, trust_marks}
use Rattle.dir_records.specs.Members.{first_of}
use Rattle.dir_records.specs.Repeats.{first_repeat}

-- a realm, then its accounts, then its trusts; the whole and lines do not come in between
abbrev pub realm_at : DirPlace → ℕ
realm_at Whole = 0
realm_at (Realm at) = at
realm_at (AtAccount at number) = at
realm_at (AtTrust at number) = at
realm_at (Line number) = 0

abbrev pub kind_at : DirPlace → ℕ
kind_at Whole = 0
kind_at (Realm at) = 0
kind_at (AtAccount at number) = 1
kind_at (AtTrust at number) = 2
kind_at (Line number) = 3

abbrev pub number_at : DirPlace → ℕ
number_at Whole = 0
number_at (Realm at) = 0
number_at (AtAccount at number) = number
number_at (AtTrust at number) = number
number_at (Line number) = number

-- by realm, then by kind, then by number
abbrev pub is_before : DirPlace → DirPlace → Bool
is_before a b =
    nat_lt (realm_at a) (realm_at b)
    || (realm_at a == realm_at b && (nat_lt (kind_at a) (kind_at b) || (kind_at a == kind_at b && nat_lt (number_at a) (number_at b))))

-- the earlier of two places
abbrev pub earlier : Option DirPlace → Option DirPlace → Option DirPlace
earlier None other = other
earlier (Some place) None = Some place
earlier (Some place) (Some other) = if is_before other place then Some other else Some place

infixr 20 ◌or_earlier◌
abbrev pub ◌or_earlier◌ : Option DirPlace → Option DirPlace → Option DirPlace
a or_earlier b = earlier a b

-- the names of realms
abbrev pub realm_names : ℕ → List RealmRec → List (DirPlace × List ℕ)
realm_names at realms = map (λ entry. (Realm entry.0, entry.1.name)) (enumerate_from at realms)

-- the SIDs of realms
abbrev pub realm_sids : ℕ → List RealmRec → List (DirPlace × SidValue)
realm_sids at realms = map (λ entry. (Realm entry.0, entry.1.sid)) (enumerate_from at realms)

-- one SID is the other, with numbers behind it or none
abbrev pub overlaps : SidValue → SidValue → Bool
overlaps a b = a.authority == b.authority && (starts_with nat_eq a.numbers b.numbers || starts_with nat_eq b.numbers a.numbers)

-- no entry of an account's lists stands twice in its list
abbrev pub has_distinct_entries : Account → Bool
has_distinct_entries account =
    all_distinct same_text account.classic
    && all_distinct same_sid account.resource
    && all_distinct nat_eq account.groups

-- the first account or trust of the realm at an index that has an entry twice in a list
abbrev pub entry_repeat : ℕ → RealmRec → Option DirPlace
entry_repeat at realm =
    first_failing (account_marks has_distinct_entries at 1 realm.accounts)
    or_else first_failing (trust_marks (λ trust. all_distinct same_text trust.reach) at 1 realm.trusts)

-- the first of some realms, which are counted from an index on, where something is found
abbrev pub in_realms : (ℕ → RealmRec → Option DirPlace) → ℕ → List RealmRec → Option DirPlace
in_realms found at realms = first_of (λ entry. found entry.0 entry.1) (enumerate_from at realms)

-- of what may stand only once, the earliest place at which something stands again: the names and the SIDs of realms; names,
-- numbers (those spent there included) and partners in a realm; service principal names in the directory; entries in a list
abbrev pub duplicate : List SpentNumber → List RealmRec → Option DirPlace
duplicate spent realms =
    first_repeat same_text (realm_names 0 realms)
    or_earlier first_repeat overlaps (realm_sids 0 realms)
    or_earlier in_realms (λ at realm. first_repeat same_text (name_marks at realm)) 0 realms
    or_earlier in_realms (λ at realm. first_repeat nat_eq (spent_number_marks spent realm ++ number_marks at realm)) 0 realms
    or_earlier in_realms (λ at realm. first_repeat same_text (partner_marks at realm)) 0 realms
    or_earlier first_repeat same_text (marks_of spn_marks realms)
    or_earlier in_realms entry_repeat 0 realms

-- the first place at which a key stands again, the spent ones included
abbrev pub shared_key : List KeyRec → List RealmRec → Option DirPlace
shared_key spent realms = first_repeat same_text (spent_key_marks spent ++ marks_of key_marks realms)

-- the name is that of a realm other than this one
abbrev pub is_other_realm : List RealmRec → RealmRec → List ℕ → Bool
is_other_realm realms realm name = not (same_text name realm.name) && list_any (λ other. same_text other.name name) realms

-- a realm of this name has a trust in the realm
abbrev pub has_trust_back : List RealmRec → RealmRec → List ℕ → Bool
has_trust_back realms realm name =
    list_any (λ other. same_text other.name name && list_any (λ back. same_text back.partner realm.name) other.trusts) realms

-- a trust's partner is another realm, with a trust back, and what it reaches are other realms
abbrev pub has_references : List RealmRec → RealmRec → Trust → Bool
has_references realms realm trust =
    is_other_realm realms realm trust.partner
    && has_trust_back realms realm trust.partner
    && list_all (is_other_realm realms realm) trust.reach

-- the first trust of the realm at an index that refers to what is not among the realms
abbrev pub unknown_in : List RealmRec → ℕ → RealmRec → Option DirPlace
unknown_in realms at realm = first_failing (trust_marks (has_references realms realm) at 1 realm.trusts)

-- the first trust that refers to what is not there
abbrev pub unknown_reference : List RealmRec → Option DirPlace
unknown_reference realms = in_realms (unknown_in realms) 0 realms
