-- Places in realms are within them.
use Rattle.std.proofs.Common.{◌≡◌, ◌<◌, ◌+◌, ℕ, zero, suc, List, [], ◌∷◌, length, subst, arith}
use Rattle.std.specs.Prelude.{Option, None, Some, IfSome, position, slice_get}
use Rattle.dir_records.specs.declared.records.RealmRec.{RealmRec}
use Rattle.krb_names.specs.SidValue.{SidValue}
use Rattle.dir_core.specs.Lookups.{accounts_of, first_place, has_sid, has_spn, sid_place_from, spn_place_from}
use Rattle.dir_core.proofs.Places.{position_within}

-- a place in realms that are counted from an index on
record IsPlaceFrom (n : ℕ) (realms : List RealmRec) (place : ℕ × ℕ) : Type 0 where
  at : ℕ
  is : place.0 ≡ n + at
  within : at < length realms
  account : place.1 < length (accounts_of (slice_get realms at))

first_or_later : (n : ℕ) (realm : RealmRec) (realms : List RealmRec) (found : Option ℕ) (later : Option (ℕ × ℕ))
    → IfSome found (λ account. account < length realm.accounts) → IfSome later (IsPlaceFrom (n + 1) realms) → IfSome (first_place n found later) (IsPlaceFrom n (realm ∷ realms))
first_or_later n realm realms None None h k = tt
first_or_later n realm realms None (Some place) h k =
    let same = k.is in
    let less = k.within in
    record { at = suc k.at; is = omega arith; within = omega arith; account = k.account }
first_or_later n realm realms (Some account) later h k = record { at = zero; is = omega arith; within = omega arith; account = h }

spn_from : (spn : List ℕ) (n : ℕ) (realms : List RealmRec) → IfSome (spn_place_from spn n realms) (IsPlaceFrom n realms)
spn_from spn n [] = tt
spn_from spn n (realm ∷ realms) =
    first_or_later n realm realms (position (has_spn spn) realm.accounts) (spn_place_from spn (n + 1) realms) (position_within (has_spn spn) realm.accounts) (spn_from spn (n + 1) realms)

sid_from : (sid : SidValue) (n : ℕ) (realms : List RealmRec) → IfSome (sid_place_from sid n realms) (IsPlaceFrom n realms)
sid_from sid n [] = tt
sid_from sid n (realm ∷ realms) =
    first_or_later n realm realms (position (has_sid realm.sid sid) realm.accounts) (sid_place_from sid (n + 1) realms) (position_within (has_sid realm.sid sid) realm.accounts) (sid_from sid (n + 1) realms)

-- a place in realms
pub record IsPlace (realms : List RealmRec) (place : ℕ × ℕ) : Type 0 where
  pub realm : place.0 < length realms
  pub account : place.1 < length (accounts_of (slice_get realms place.0))

placed : (realms : List RealmRec) (found : Option (ℕ × ℕ)) → IfSome found (IsPlaceFrom 0 realms) → IfSome found (IsPlace realms)
placed realms None h = tt
placed realms (Some place) h =
    let same : h.at ≡ place.0 = omega (arith, h.is) in
    record {
      realm = subst (λ (i : ℕ). i < length realms) same h.within;
      account = subst (λ (i : ℕ). place.1 < length (accounts_of (slice_get realms i))) same h.account;
    }

pub spn_placed : (spn : List ℕ) (realms : List RealmRec) → IfSome (spn_place_from spn 0 realms) (IsPlace realms)
spn_placed spn realms = placed realms (spn_place_from spn 0 realms) (spn_from spn 0 realms)

pub sid_placed : (sid : SidValue) (realms : List RealmRec) → IfSome (sid_place_from sid 0 realms) (IsPlace realms)
sid_placed sid realms = placed realms (sid_place_from sid 0 realms) (sid_from sid 0 realms)

-- the parts of a place
pub realm_within : (realms : List RealmRec) (found : Option (ℕ × ℕ)) → IfSome found (IsPlace realms) → IfSome found (λ place. place.0 < length realms)
realm_within realms None h = tt
realm_within realms (Some place) h = h.realm

pub account_within : (realms : List RealmRec) (found : Option (ℕ × ℕ)) → IfSome found (IsPlace realms) → IfSome found (λ place. place.1 < length (accounts_of (slice_get realms place.0)))
account_within realms None h = tt
account_within realms (Some place) h = h.account
