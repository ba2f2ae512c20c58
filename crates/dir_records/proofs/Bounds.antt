-- What well-formed realms keep.
use Rattle.std.proofs.Common.{◌≡◌, ◌≤◌, ◌<◌, ◌+◌, ◌^◌, ◌&&◌, ℕ, suc, zero, List, [], ◌∷◌, Bool, true, false, length, get_or, refl, arith}
use Rattle.std.specs.Prelude.{All, Option, None, Some, is_none, nat_le, nat_lt}
use Rattle.std.proofs.lemmas.Bool.{leb-true, ltb-true}
use Rattle.kdc_prelude.proofs.Verdicts.{neither}
use Rattle.krb_names.specs.Pieces.{is_name}
use Rattle.dir_records.specs.Forms.{is_key}
use Rattle.kdc_prelude.specs.Verdicts.{first_failing, ◌or_else◌}
use Rattle.dir_records.specs.declared.records.RealmRec.{RealmRec}
use Rattle.dir_records.specs.declared.refusal.DirCause.{DirCause}
use Rattle.dir_records.specs.declared.refusal.DirCause.TheVariants.{BadField, MissingField, TooMany}
use Rattle.dir_records.specs.declared.refusal.DirPlace.{DirPlace}
use Rattle.dir_records.specs.declared.refusal.DirPlace.TheVariants.{Whole, Realm}
use Rattle.dir_records.specs.Members.{accounts_refusal, members_refusal, realm_refusal, realm_rows, realms_refusal, refused_at, trusts_refusal, whole_rows}
use Rattle.dir_records.specs.DirectoryValue.{DirectoryValue}
use Rattle.dir_records.specs.WellFormed.{clash_refusal, first_refusal, has_few_spent, is_well_formed}

pub from_none : {R : Type 0} (a : Option R) → is_none a ≡ true → a ≡ None
from_none None h = refl
from_none (Some r) h = absurd (cc)

no_fault : (place : DirPlace) (fault : Option DirCause) → refused_at place fault ≡ None → fault ≡ None
no_fault place None h = refl
no_fault place (Some cause) h = absurd (cc)

last_of_five : {R : Type 0} (q r s t u : R) (a b c d e : Bool) → first_failing ((q, a) ∷ (r, b) ∷ (s, c) ∷ (t, d) ∷ (u, e) ∷ []) ≡ None → e ≡ true
last_of_five q r s t u true true true true true h = refl
last_of_five q r s t u true true true true false h = absurd (cc)
last_of_five q r s t u true true true false e h = absurd (cc)
last_of_five q r s t u true true false d e h = absurd (cc)
last_of_five q r s t u true false c d e h = absurd (cc)
last_of_five q r s t u false b c d e h = absurd (cc)

second_of_five : {R : Type 0} (q r s t u : R) (a b c d e : Bool) → first_failing ((q, a) ∷ (r, b) ∷ (s, c) ∷ (t, d) ∷ (u, e) ∷ []) ≡ None → b ≡ true
second_of_five q r s t u true true c d e h = refl
second_of_five q r s t u true false c d e h = absurd (cc)
second_of_five q r s t u false b c d e h = absurd (cc)

last_of_two : {R : Type 0} (q r : R) (a b : Bool) → first_failing ((q, a) ∷ (r, b) ∷ []) ≡ None → b ≡ true
last_of_two q r true true h = refl
last_of_two q r true false h = absurd (cc)
last_of_two q r false b h = absurd (cc)

only_one : {R : Type 0} (q : R) (a : Bool) → first_failing ((q, a) ∷ []) ≡ None → a ≡ true
only_one q true h = refl
only_one q false h = absurd (cc)

pub record IsBounded (realm : RealmRec) : Type 0 where
  pub accounts : length realm.accounts ≤ 100000
  pub trusts : length realm.trusts ≤ 32
  pub subs : length realm.sid.numbers ≤ 14

bounded : (at others : ℕ) (realm : RealmRec) → realm_refusal at others realm ≡ None → IsBounded realm
bounded at others realm h =
    let own = neither (refused_at (Realm at) (first_failing (realm_rows others realm))) (accounts_refusal at 1 realm.accounts or_else (refused_at (Realm at) (first_failing ((TooMany, nat_le (length realm.trusts) 32) ∷ [])) or_else trusts_refusal at 1 realm.trusts)) h in
    let rest = neither (accounts_refusal at 1 realm.accounts) (refused_at (Realm at) (first_failing ((TooMany, nat_le (length realm.trusts) 32) ∷ [])) or_else trusts_refusal at 1 realm.trusts) own.1 in
    let trusts = neither (refused_at (Realm at) (first_failing ((TooMany, nat_le (length realm.trusts) 32) ∷ []))) (trusts_refusal at 1 realm.trusts) rest.1 in
    let all : others + length realm.accounts ≤ 100000 =
    leb-true (others + length realm.accounts) 100000 (last_of_five BadField BadField BadField BadField TooMany (is_name realm.name) (nat_le (length realm.sid.numbers) 14) (is_key realm.krbtgt) (nat_lt 0 realm.max_life && nat_le realm.max_life 31536000) (nat_le (others + length realm.accounts) 100000) (no_fault (Realm at) _ own.0)) in
    let subs = second_of_five BadField BadField BadField BadField TooMany (is_name realm.name) (nat_le (length realm.sid.numbers) 14) (is_key realm.krbtgt) (nat_lt 0 realm.max_life && nat_le realm.max_life 31536000) (nat_le (others + length realm.accounts) 100000) (no_fault (Realm at) _ own.0) in
    record {
      accounts = omega arith;
      subs = leb-true (length realm.sid.numbers) 14 subs;
      trusts = leb-true (length realm.trusts) 32 (only_one TooMany (nat_le (length realm.trusts) 32) (no_fault (Realm at) _ trusts.0));
    }

all_bounded : (at others : ℕ) (realms : List RealmRec) → realms_refusal at others realms ≡ None → (i : ℕ) (d : RealmRec) → i < length realms → IsBounded (get_or realms i d)
all_bounded at others [] h i d l = absurd (omega (arith, l))
all_bounded at others (realm ∷ realms) h zero d l =
    bounded at others realm (neither (realm_refusal at others realm) (realms_refusal (at + 1) (others + length realm.accounts) realms) h).0
all_bounded at others (realm ∷ realms) h (suc i) d l =
    all_bounded (at + 1) (others + length realm.accounts) realms (neither (realm_refusal at others realm) (realms_refusal (at + 1) (others + length realm.accounts) realms) h).1 i d (omega (arith, l))

-- what realms keep whose members keep their limits
pub record AreBounded (realms : List RealmRec) : Type 0 where
  pub some : 0 < length realms
  pub few : length realms ≤ 64
  pub each : (i : ℕ) (d : RealmRec) → i < length realms → IsBounded (get_or realms i d)

first_of_two : {R : Type 0} (q r : R) (a b : Bool) → first_failing ((q, a) ∷ (r, b) ∷ []) ≡ None → a ≡ true
first_of_two q r true b h = refl
first_of_two q r false b h = absurd (cc)

pub are_bounded : (realms : List RealmRec) → members_refusal realms ≡ None → AreBounded realms
are_bounded realms h =
    let both = neither (refused_at Whole (first_failing (whole_rows realms))) (realms_refusal 0 0 realms) h in
    let rows = no_fault Whole (first_failing (whole_rows realms)) both.0 in
    record {
      some = ltb-true 0 (length realms) (first_of_two MissingField TooMany (nat_lt 0 (length realms)) (nat_le (length realms) 64) rows);
      few = leb-true (length realms) 64 (last_of_two MissingField TooMany (nat_lt 0 (length realms)) (nat_le (length realms) 64) rows);
      each = all_bounded 0 0 realms both.1;
    }

pub few_accounts : (realms : List RealmRec) → AreBounded realms → All (λ realm. length realm.accounts ≤ 100000) realms
few_accounts realms h = λ i d l. (h.each i d l).accounts

pub few_trusts : (realms : List RealmRec) → AreBounded realms → All (λ realm. length realm.trusts ≤ 32) realms
few_trusts realms h = λ i d l. (h.each i d l).trusts

pub few_subs : (realms : List RealmRec) → AreBounded realms → All (λ realm. length realm.sid.numbers ≤ 14) realms
few_subs realms h = λ i d l. (h.each i d l).subs

below : (n : ℕ) → n ≤ 100000 → n < 2 ^ 32
below n h = omega arith

pub few_wide_accounts : (realms : List RealmRec) → AreBounded realms → All (λ realm. length realm.accounts < 2 ^ 32) realms
few_wide_accounts realms h = λ i d l. below (length (get_or realms i d).accounts) (h.each i d l).accounts

parts_none : (dir : DirectoryValue) → is_well_formed dir ≡ true → (members_refusal dir.realms ≡ None) × (clash_refusal dir ≡ None)
unfolding is_well_formed
parts_none dir h =
    let spent = refused_at Whole (first_failing ((TooMany, has_few_spent dir) ∷ [])) in
    let members = neither (members_refusal dir.realms) (spent or_else clash_refusal dir) (from_none (first_refusal dir) h) in
    (members.0, (neither spent (clash_refusal dir) members.1).1)

pub clash_none : (dir : DirectoryValue) → is_well_formed dir ≡ true → clash_refusal dir ≡ None
clash_none dir h = (parts_none dir h).1

pub well_bounded : (dir : DirectoryValue) → is_well_formed dir ≡ true → AreBounded dir.realms
well_bounded dir h = are_bounded dir.realms (parts_none dir h).0
