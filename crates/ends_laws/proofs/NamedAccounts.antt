-- What a directory finds by a name has that name.
use Rattle.std.proofs.Common.{◌≡◌, ◌∙◌, ℕ, ℤ, pos, negsuc, Bool, true, false, cond, ◌||◌, List, [], ◌∷◌, Option, None, Some, refl, sym, ap, subst}
use Rattle.std.specs.Prelude.{◌==◌, is_none, is_some, option_and_then, option_map, position, slice_get}
use Rattle.std.proofs.lemmas.Bool.{eqb-true}
use lib.Pointwise.{bytes_decides}
use Rattle.kdc_prelude.specs.Texts.{same_text}
use Rattle.krb_names.specs.declared.principal.Principal.{Principal}
use Rattle.krb_names.specs.declared.refusal.NameRefusal.{NameRefusal}
use Rattle.krb_names.specs.declared.refusal.NameRefusal.TheVariants.{Empty, TooLong, BadText}
use Rattle.krb_names.specs.Pieces.{fault_of, has_forbidden, is_empty, is_long, is_name}
use Rattle.kdc_prelude.specs.Results.{unless_refused}
use Rattle.krb_names.specs.Principals.{name_of_parts, name_reading, round_last_at}
use Rattle.krb_tickets.specs.NameString.{is_enterprise}
use Rattle.kdc_records.specs.declared.decision.Aim.{Aim}
use Rattle.kdc_records.specs.declared.decision.Aim.TheVariants.{Hop, Account}
use Rattle.dir_records.specs.declared.records.Account.{Account as AccountRec}
use Rattle.dir_records.specs.declared.records.RealmRec.{RealmRec}
use Rattle.dir_records.specs.DirectoryValue.{DirectoryValue}
use Rattle.dir_core.specs.Lookups.{account_named, next_hop, place_in, realm_named}
use Rattle.route_rules.specs.Aims.{aim_at}
use Rattle.route_rules.specs.Meanings.{account_meant, enterprise_pieces, place_of_part}
use Rattle.route_rules.specs.Meanings as meanings
use Rattle.route_rules.proofs.Requestors.{position_at}
use Rattle.s4u_client.specs.Finishing.{is_joined_name}
use Rattle.tgs_core.specs.Grants.{principal_of_account}
use Rattle.tgs_core.proofs.FoundGrants.{mapped_of, named_realm, some_is}
use Rattle.ends_laws.proofs.SamePrincipals.{name_is_same}

-- ---- by its name

pub named_account : (dir : DirectoryValue) (at k : ℕ) (realm : RealmRec) (account : AccountRec) (name : List ℕ) → slice_get dir.realms at ≡ Some realm → account_named dir at name ≡ Some k
    → slice_get realm.accounts k ≡ Some account → account.name ≡ name
named_account dir at k realm account name here found e =
    let by : AccountRec → Bool = λ (one : AccountRec). same_text one.name name in
    let in_realm : position by realm.accounts ≡ Some k = sym (ap (option_and_then (λ (r : RealmRec). position by r.accounts)) here) ∙ found in
    let place = position_at by realm.accounts k in_realm in
    let is : place.0 ≡ account = some_is place.0 account (sym place.1 ∙ e) in
    ap (λ (a : AccountRec). a.name) (sym is) ∙ (bytes_decides place.0.name name).0 place.2

-- ---- what is aimed at, by the place of an account

at_place : (dir : DirectoryValue) (at other j k : ℕ) (here : Bool) → (other == at) ≡ here → (let aim : Option Aim = cond here (Some (Account j)) (option_map Hop (next_hop dir at other)) in aim) ≡ Some (Account k)
    → (other ≡ at) × (j ≡ k)
at_place dir at other j k true e h = (eqb-true other at e, let same : Account j ≡ Account k = some_is (Account j) (Account k) h in cc)
at_place dir at other j k false e h =
    let hop = mapped_of (next_hop dir at other) Hop (Account k) h in
    let never = hop.is in
    absurd (cc)

-- an account that is aimed at stands at that place
pub aimed_account : (dir : DirectoryValue) (at k : ℕ) (place : Option (ℕ × ℕ)) → aim_at dir at (account_meant place) ≡ Some (Account k) → place ≡ Some (at, k)
aimed_account dir at k None h = absurd (cc)
aimed_account dir at k (Some found) h =
    let is = at_place dir at found.0 found.1 k (found.0 == at) refl h in
    λ i. Some (is.0 i, is.1 i)

-- what the place of a name is made of
record IsPlaced (dir : DirectoryValue) (name : List ℕ) (realm : Option ℕ) (at k : ℕ) : Type 0 where
  known : realm ≡ Some at
  found : account_named dir at name ≡ Some k

placed : (dir : DirectoryValue) (name : List ℕ) (realm : Option ℕ) (at k : ℕ) → place_in dir (Some name) realm ≡ Some (at, k) → IsPlaced dir name realm at k
placed dir name None at k h = absurd (cc)
placed dir name (Some other) at k h =
    let pair : ℕ → ℕ × ℕ = λ (j : ℕ). (other, j) in
    let found = mapped_of (account_named dir other name) pair (at, k) h in
    let realm_is : other ≡ at = ap (λ (p : ℕ × ℕ). p.0) found.is in
    let account_is : found.value ≡ k = ap (λ (p : ℕ × ℕ). p.1) found.is in
    record { known = ap Some realm_is; found = sym (ap (λ (i : ℕ). account_named dir i name) realm_is) ∙ found.was ∙ ap Some account_is }

-- ---- enterprise names (RFC 6806, section 5)

one_kind : (kind : ℤ) → meanings.is_enterprise kind ≡ is_enterprise kind
one_kind (pos n) = refl
one_kind (negsuc n) = refl

no_fault : (a b c d e f : Bool) → is_none (cond (a || false) (Some Empty) (cond (b || false) (Some TooLong) (cond (c || false) (Some BadText) None))) ≡ true
    → is_none (cond (d || false) (Some Empty) (cond (e || false) (Some TooLong) (cond (f || false) (Some BadText) None))) ≡ true
    → (let fault : Option NameRefusal = cond (a || (d || false)) (Some Empty) (cond (b || (e || false)) (Some TooLong) (cond (c || (f || false)) (Some BadText) None)) in fault) ≡ None
no_fault true b c d e f h k = absurd (cc)
no_fault false true c d e f h k = absurd (cc)
no_fault false false true d e f h k = absurd (cc)
no_fault false false false true e f h k = absurd (cc)
no_fault false false false false true f h k = absurd (cc)
no_fault false false false false false true h k = absurd (cc)
no_fault false false false false false false h k = refl

joined_fault : (a b : List ℕ) → is_name a ≡ true → is_name b ≡ true → fault_of (a ∷ b ∷ []) true ≡ None
joined_fault a b h k = no_fault (is_empty a) (is_long a) (has_forbidden a) (is_empty b) (is_long b) (has_forbidden b) h k

-- the name `a` in C, where the part is `a@C`
joined_is : (part a c : List ℕ) (realm : RealmRec) (account : AccountRec) → is_name account.name ≡ true → is_name realm.name ≡ true → account.name ≡ a → realm.name ≡ c
    → is_joined_name (principal_of_account realm account) (name_of_parts part (Some (a, c))) ≡ true
joined_is part a c realm account h k same_name same_realm =
    let name : Principal = principal_of_account realm account in
    let fault : fault_of (account.name ∷ realm.name ∷ []) true ≡ None = joined_fault account.name realm.name h k in
    let own : is_joined_name name (name_of_parts part (Some (account.name, realm.name))) ≡ true =
    ap (λ (f : Option NameRefusal). is_joined_name name (unless_refused f (record { kind = pos 1; parts = account.name ∷ []; realm = realm.name }))) fault ∙ name_is_same name in
    subst (λ (p : List ℕ × List ℕ). is_joined_name name (name_of_parts part (Some p)) ≡ true) (λ i. (same_name i, same_realm i)) own

-- the account that is aimed at by an enterprise name
enterprise_by : (dir : DirectoryValue) (at k : ℕ) (realm : RealmRec) (account : AccountRec) (part : List ℕ) (is_kind : Bool) (pieces : Option (List ℕ × List ℕ))
    → slice_get dir.realms at ≡ Some realm → slice_get realm.accounts k ≡ Some account → is_name account.name ≡ true → is_name realm.name ≡ true
    → aim_at dir at (account_meant (place_of_part dir at part (cond is_kind pieces None))) ≡ Some (Account k) → is_some (cond is_kind pieces None) ≡ true
    → (is_kind ≡ true) × (is_joined_name (principal_of_account realm account) (name_of_parts part pieces) ≡ true)
enterprise_by dir at k realm account part false pieces here found h g aimed some = absurd (cc)
enterprise_by dir at k realm account part true None here found h g aimed some = absurd (cc)
enterprise_by dir at k realm account part true (Some pieces) here found h g aimed some =
    let place = placed dir pieces.0 (realm_named dir pieces.1) at k (aimed_account dir at k (place_of_part dir at part (Some pieces)) aimed) in
    let own_realm : realm.name ≡ pieces.1 = named_realm dir pieces.1 at realm place.known here in
    let own_name : account.name ≡ pieces.0 = named_account dir at k realm account pieces.0 here place.found found in
    (refl, joined_is part pieces.0 pieces.1 realm account h g own_name own_realm)

pub enterprise_account : (dir : DirectoryValue) (at k : ℕ) (realm : RealmRec) (account : AccountRec) (kind : ℤ) (part : List ℕ)
    → slice_get dir.realms at ≡ Some realm → slice_get realm.accounts k ≡ Some account → is_name account.name ≡ true → is_name realm.name ≡ true
    → aim_at dir at (account_meant (place_of_part dir at part (enterprise_pieces kind part))) ≡ Some (Account k) → is_some (enterprise_pieces kind part) ≡ true
    → (is_enterprise kind ≡ true) × (is_joined_name (principal_of_account realm account) (name_reading part) ≡ true)
enterprise_account dir at k realm account kind part here found h g aimed some =
    let is = enterprise_by dir at k realm account part (meanings.is_enterprise kind) (round_last_at part) here found h g aimed some in
    (sym (one_kind kind) ∙ is.0, is.1)
