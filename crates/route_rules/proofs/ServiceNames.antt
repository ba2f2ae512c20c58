-- Service principal names of a directory are short.
use Rattle.std.proofs.Common.{◌≡◌, ℕ, ◌+◌, ◌<◌, ◌≤◌, ◌∷◌, ◌++◌, ◌&&◌, ◌||◌, not, cond, List, [], Bool, true, false, length, refl, ap, sym, subst, ◌∙◌, arith, length-append}
use Rattle.std.specs.Prelude.{codes, Option, None, Some, is_ok, nat_eq, nat_le, nat_lt, position, if◌then◌else◌}
use Rattle.std.specs.List.{join_with_byte, list_all, list_any, position_from, starts_with}
use Rattle.std.specs.Cmp.Lexicographic.{same_text as equal_texts}
use Rattle.std.proofs.lemmas.Bool.{ltb-false, ltb-true}
use Rattle.std.proofs.lemmas.Iterator.Adapters.{position_from-zero}
use Rattle.std.proofs.lemmas.List.Splits.{join_with_byte-slice_split}
use Rattle.kdc_prelude.specs.Texts.{is_one_of, same_text}
use Rattle.kdc_prelude.specs.Verdicts.{first_failing, ◌or_else◌}
use Rattle.kdc_prelude.proofs.Bools.{both}
use Rattle.kdc_prelude.proofs.Verdicts.{neither}
use Rattle.kdc_prelude.specs.Results.{unless_refused}
use Rattle.krb_names.specs.declared.refusal.NameRefusal.TheVariants.{Empty, TooLong, BadText}
use Rattle.krb_names.specs.Pieces.{has_forbidden, is_empty, is_long}
use Rattle.krb_names.specs.Spns.{spn_pieces, spn_reading}
use Rattle.dir_records.specs.declared.records.Account.{Account}
use Rattle.dir_records.specs.declared.records.RealmRec.{RealmRec}
use Rattle.dir_records.specs.declared.refusal.DirCause.{DirCause}
use Rattle.dir_records.specs.declared.refusal.DirCause.TheVariants.{BadField, TooMany}
use Rattle.dir_records.specs.declared.refusal.DirPlace.{DirPlace}
use Rattle.dir_records.specs.declared.refusal.DirPlace.TheVariants.{Whole, Realm, Account as AtAccount}
use Rattle.dir_records.specs.DirectoryValue.{DirectoryValue}
use Rattle.dir_records.specs.Forms.{is_service_name}
use Rattle.dir_records.specs.Members.{account_fault, accounts_refusal, identity_rows, list_rows, members_refusal, realm_refusal, realm_rows, realms_refusal, refused_at, trusts_refusal, whole_rows}
use Rattle.dir_records.specs.WellFormed.{clash_refusal, first_refusal, has_few_spent, is_well_formed}
use Rattle.dir_records.proofs.Bounds.{from_none}
use Rattle.dir_core.specs.Lookups.{first_place, has_spn, spn_place, spn_place_from}

-- ---- a service principal name is short

neither_true : (a b : Bool) → (a || b) ≡ false → (a ≡ false) × (b ≡ false)
neither_true true b h = absurd (cc)
neither_true false b h = (refl, h)

few_bytes : (piece : List ℕ) → is_long piece ≡ false → length piece ≤ 255
few_bytes piece h = ltb-false 255 (length piece) h

joined_pieces : (pieces : List (List ℕ)) → length pieces ≤ 3 → list_any is_long pieces ≡ false → length (join_with_byte 47 pieces) ≤ 767
joined_pieces [] few short = omega arith
joined_pieces (a ∷ []) few short =
    let one = few_bytes a (neither_true (is_long a) false short).0 in
    omega (arith, one)
joined_pieces (a ∷ b ∷ []) few short =
    let parts = neither_true (is_long a) (is_long b || false) short in
    let one = few_bytes a parts.0 in
    let two = few_bytes b (neither_true (is_long b) false parts.1).0 in
    omega (arith, one, two, length-append a (47 ∷ b))
joined_pieces (a ∷ b ∷ d ∷ []) few short =
    let parts = neither_true (is_long a) (is_long b || (is_long d || false)) short in
    let later = neither_true (is_long b) (is_long d || false) parts.1 in
    let one = few_bytes a parts.0 in
    let two = few_bytes b later.0 in
    let three = few_bytes d (neither_true (is_long d) false later.1).0 in
    omega (arith, one, two, three, length-append a (47 ∷ (b ++ 47 ∷ d)), length-append b (47 ∷ d))
joined_pieces (a ∷ b ∷ d ∷ e ∷ more) few short = absurd (omega (arith, few))

no_fault_in : (empty long other : Bool) (text : List ℕ)
    → is_ok (unless_refused (if empty then Some Empty else (if long then Some TooLong else (if other then Some BadText else None))) text) ≡ true → (long ≡ false) × (other ≡ false)
no_fault_in true long other text h = absurd (cc)
no_fault_in false true other text h = absurd (cc)
no_fault_in false false true text h = absurd (cc)
no_fault_in false false false text h = (refl, refl)

not_false : (a : Bool) → not a ≡ false → a ≡ true
not_false true h = refl
not_false false h = absurd (cc)

spn_short : (spn : List ℕ) → is_service_name spn ≡ true → length spn ≤ 767
spn_short spn h =
    let pieces = spn_pieces spn in
    let fits : Bool = nat_lt 1 (length pieces) && nat_lt (length pieces) 4 in
    let reads = (both (is_ok (spn_reading spn)) (not (starts_with nat_eq spn (codes "krbtgt/"))) h).0 in
    let sound = no_fault_in (list_any is_empty pieces) (list_any is_long pieces) (not fits || list_any has_forbidden pieces) spn reads in
    let few = (both (nat_lt 1 (length pieces)) (nat_lt (length pieces) 4) (not_false fits (neither_true (not fits) (list_any has_forbidden pieces) sound.1).0)).1 in
    let below : length pieces < 4 = ltb-true (length pieces) 4 few in
    let joined : length (join_with_byte 47 pieces) ≤ 767 = joined_pieces pieces (omega arith) sound.0 in
    subst (λ (text : List ℕ). length text ≤ 767) (join_with_byte-slice_split 47 spn) joined

-- ---- no account has a longer one

second_of_six : {R : Type 0} (q r s t u v : R) (a b c d e f : Bool) → first_failing ((q, a) ∷ (r, b) ∷ (s, c) ∷ (t, d) ∷ (u, e) ∷ (v, f) ∷ []) ≡ None → b ≡ true
second_of_six q r s t u v true true c d e f h = refl
second_of_six q r s t u v true false c d e f h = absurd (cc)
second_of_six q r s t u v false b c d e f h = absurd (cc)

no_fault : (place : DirPlace) (fault : Option DirCause) → refused_at place fault ≡ None → fault ≡ None
no_fault place None h = refl
no_fault place (Some cause) h = absurd (cc)

are_services : (account : Account) → account_fault account ≡ None → list_all is_service_name account.spns ≡ true
are_services account h =
    second_of_six TooMany BadField TooMany BadField TooMany TooMany
    (nat_le (length account.spns) 32) (list_all is_service_name account.spns) (nat_le (length account.classic) 256) (list_all is_service_name account.classic) (nat_le (length account.resource) 256) (nat_le (length account.groups) 128)
    (neither (first_failing (identity_rows account)) (first_failing (list_rows account)) h).1

other_text : (spn other : List ℕ) → 767 < length spn → length other ≤ 767 → same_text spn other ≡ false
other_text spn other long short = by_test (same_text spn other) refl
  where
    by_test : (b : Bool) → same_text spn other ≡ b → same_text spn other ≡ false
    by_test true e =
        let same : length spn ≡ length other = ap length (equal_texts spn other (sym e)) in
        absurd (omega (arith, same))
    by_test false e = e

both_false : (a b : Bool) → a ≡ false → b ≡ false → (a || b) ≡ false
both_false true b h k = absurd (cc)
both_false false b h k = k

not_among : (spn : List ℕ) → 767 < length spn → (spns : List (List ℕ)) → list_all is_service_name spns ≡ true → is_one_of spns spn ≡ false
not_among spn long [] h = refl
not_among spn long (other ∷ spns) h =
    let parts = both (is_service_name other) (list_all is_service_name spns) h in
    both_false (same_text spn other) (is_one_of spns spn) (other_text spn other long (spn_short other parts.0)) (not_among spn long spns parts.1)

found_later : (here : Bool) (first later : Option ℕ) → here ≡ false → later ≡ None → cond here first later ≡ None
found_later true first later h k = absurd (cc)
found_later false first later h k = k

no_account : (spn : List ℕ) → 767 < length spn → (at number : ℕ) (accounts : List Account) → accounts_refusal at number accounts ≡ None → (i : ℕ) → position_from (has_spn spn) i accounts ≡ None
no_account spn long at number [] h i = refl
no_account spn long at number (account ∷ accounts) h i =
    let parts = neither (refused_at (AtAccount at number) (account_fault account)) (accounts_refusal at (number + 1) accounts) h in
    let without : has_spn spn account ≡ false = not_among spn long account.spns (are_services account (no_fault (AtAccount at number) (account_fault account) parts.0)) in
    found_later (has_spn spn account) (Some i) (position_from (has_spn spn) (i + 1) accounts) without (no_account spn long at (number + 1) accounts parts.1 (i + 1))

no_realm : (spn : List ℕ) → 767 < length spn → (at others : ℕ) (realms : List RealmRec) → realms_refusal at others realms ≡ None → (i : ℕ) → spn_place_from spn i realms ≡ None
no_realm spn long at others [] h i = refl
no_realm spn long at others (realm ∷ realms) h i =
    let both_none = neither (realm_refusal at others realm) (realms_refusal (at + 1) (others + length realm.accounts) realms) h in
    let trusts = refused_at (Realm at) (first_failing ((TooMany, nat_le (length realm.trusts) 32) ∷ [])) or_else trusts_refusal at 1 realm.trusts in
    let own = neither (refused_at (Realm at) (first_failing (realm_rows others realm))) (accounts_refusal at 1 realm.accounts or_else trusts) both_none.0 in
    let accounts = (neither (accounts_refusal at 1 realm.accounts) trusts own.1).0 in
    let none : position (has_spn spn) realm.accounts ≡ None = position_from-zero (has_spn spn) realm.accounts ∙ no_account spn long at 1 realm.accounts accounts 0 in
    ap (λ (found : Option ℕ). first_place i found (spn_place_from spn (i + 1) realms)) none
    ∙ no_realm spn long (at + 1) (others + length realm.accounts) realms both_none.1 (i + 1)

members_none : (dir : DirectoryValue) → is_well_formed dir ≡ true → members_refusal dir.realms ≡ None
unfolding is_well_formed
members_none dir h =
    let spent = refused_at Whole (first_failing ((TooMany, has_few_spent dir) ∷ [])) in
    (neither (members_refusal dir.realms) (spent or_else clash_refusal dir) (from_none (first_refusal dir) h)).0

pub no_long_spn : (dir : DirectoryValue) → is_well_formed dir ≡ true → (spn : List ℕ) → 767 < length spn → spn_place dir spn ≡ None
no_long_spn dir h spn long =
    let realms = (neither (refused_at Whole (first_failing (whole_rows dir.realms))) (realms_refusal 0 0 dir.realms) (members_none dir h)).1 in
    no_realm spn long 0 0 dir.realms realms 0
