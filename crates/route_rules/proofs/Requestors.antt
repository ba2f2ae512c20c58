-- The account that asks is the one that its name gives in the whole directory.
use Rattle.std.proofs.Common.{◌≡◌, ℕ, suc, ◌+◌, List, [], ◌∷◌, ◌∙◌, Bool, true, false, cond, arith, refl, sym, ap}
use Rattle.std.specs.Prelude.{◌↔◌, Option, None, Some, option_and_then, option_map, position, slice_get}
use Rattle.std.specs.List.{position_from}
use Rattle.std.specs.Cmp.Lexicographic.{same_text as equal_texts}
use Rattle.std.proofs.lemmas.Cmp.{nat_list_eq_equiv}
use Rattle.std.proofs.lemmas.Iterator.Adapters.{position_from-zero}
use Rattle.kdc_prelude.specs.Steps.{◌>>=◌}
use Rattle.kdc_prelude.specs.Texts.{same_text}
use Rattle.krb_names.specs.declared.principal.Principal.{Principal}
use Rattle.dir_records.specs.DirectoryValue.{DirectoryValue}
use Rattle.dir_records.specs.WellFormed.{is_well_formed}
use Rattle.dir_records.proofs.Apart.{are_apart}
use Rattle.dir_core.specs.Lookups.{account_at, account_named, account_of, only_part, place_in, place_of, realm_named}
use Rattle.route_rules.specs.Requestor.{account_of_realm, requestor_account}
use Rattle.route_rules.proofs.FoundOnce.{found_once}

one_of : {X : Type 0} (x y : X) → Some x ≡ Some y → x ≡ y
one_of x y e = cc

stepped : {A B : Type 0} (a : Option A) (f : A → Option B) (b : B) → (a >>= f) ≡ Some b → (x : A) × (a ≡ Some x) × (f x ≡ Some b)
stepped None f b h = absurd (cc)
stepped (Some x) f b h = (x, refl, h)

chosen : {A : Type 0} (test : Bool) (a : Option A) (x : A) → (let found : Option A = cond test a None in found) ≡ Some x → (test ≡ true) × (a ≡ Some x)
chosen true a x h = (refl, h)
chosen false a x h = absurd (cc)

-- what stands at the place that is found passes
from_at : {X : Type 0} (p : X → Bool) (xs : List X) (n i : ℕ) → position_from p n xs ≡ Some i → (k : ℕ) × (i ≡ n + k) × (x : X) × (slice_get xs k ≡ Some x) × (p x ≡ true)
from_at p [] n i h = absurd (cc)
from_at {X = X} p (x ∷ xs) n i h = by_test (p x) refl (λ later. from_at p xs (n + 1) i later) h
  where
    by_test : (b : Bool) → p x ≡ b → (position_from p (n + 1) xs ≡ Some i → (k : ℕ) × (i ≡ n + 1 + k) × (y : X) × (slice_get xs k ≡ Some y) × (p y ≡ true))
        → cond b (Some n) (position_from p (n + 1) xs) ≡ Some i → (k : ℕ) × (i ≡ n + k) × (y : X) × (slice_get (x ∷ xs) k ≡ Some y) × (p y ≡ true)
    by_test true e rest h = let same = one_of n i h in (0, omega (arith, same), x, refl, e)
    by_test false e rest h = let later = rest h in (suc later.0, omega (arith, later.1), later.2, later.3, later.4)

pub position_at : {X : Type 0} (p : X → Bool) (xs : List X) (i : ℕ) → position p xs ≡ Some i → (x : X) × (slice_get xs i ≡ Some x) × (p x ≡ true)
position_at p xs i h =
    let found = from_at p xs 0 i (sym (position_from-zero p xs) ∙ h) in
    let same : i ≡ found.0 = omega (arith, found.1) in
    (found.2, ap (slice_get xs) same ∙ found.3, found.4)

-- what the place of a name is made of
placed : (dir : DirectoryValue) (part : Option (List ℕ)) (realm : Option ℕ) (at account : ℕ) → place_in dir part realm ≡ Some (at, account)
    → (name : List ℕ) × (part ≡ Some name) × (realm ≡ Some at) × (account_named dir at name ≡ Some account)
placed dir None realm at account h = absurd (cc)
placed dir (Some name) None at account h = absurd (cc)
placed dir (Some name) (Some found) at account h = mapped (account_named dir found name) refl h
  where
    mapped : (o : Option ℕ) → account_named dir found name ≡ o → option_map (λ (a : ℕ). let pair : ℕ × ℕ = (found, a) in pair) o ≡ Some (at, account)
        → (text : List ℕ) × (Some name ≡ Some text) × (Some found ≡ Some at) × (account_named dir at text ≡ Some account)
    mapped None e h = absurd (cc)
    mapped (Some a) e h =
        let both : (let pair : ℕ × ℕ = (found, a) in pair) ≡ (at, account) = one_of (found, a) (at, account) h in
        let realm_is : found ≡ at = ap (λ (place : ℕ × ℕ). place.0) both in
        let account_is : a ≡ account = ap (λ (place : ℕ × ℕ). place.1) both in
        (name, refl, ap Some realm_is, sym (ap (λ i. account_named dir i name) realm_is) ∙ e ∙ ap Some account_is)

requestor_place : (dir : DirectoryValue) (at account : ℕ) (client : Principal) → is_well_formed dir ≡ true → requestor_account dir at client ≡ Some account
    → place_of dir client ≡ Some (at, account)
unfolding requestor_account
requestor_place dir at account client well h =
    let here = stepped (slice_get dir.realms at) (λ realm. account_of_realm dir at realm client) account h in
    let realm = here.0 in
    let asked = chosen (same_text client.realm realm.name) (only_part client.parts >>= account_named dir at) account here.2 in
    let named = stepped (only_part client.parts) (account_named dir at) account asked.1 in
    let same : client.realm ≡ realm.name = equal_texts client.realm realm.name (sym asked.0) in
    let own : same_text realm.name realm.name ≡ true = sym (ap (λ name. same_text name realm.name) same) ∙ asked.0 in
    let found : realm_named dir client.realm ≡ Some at = ap (realm_named dir) same ∙ found_once (λ r. r.name) dir.realms (are_apart dir well).names at realm here.1 own in
    let pair : ℕ → ℕ × ℕ = λ number. (at, number) in
    ap (λ part. place_in dir part (realm_named dir client.realm)) named.1 ∙ ap (place_in dir (Some named.0)) found ∙ ap (option_map pair) named.2

place_requestor : (dir : DirectoryValue) (at account : ℕ) (client : Principal) → place_of dir client ≡ Some (at, account) → requestor_account dir at client ≡ Some account
unfolding requestor_account
place_requestor dir at account client h =
    let is = placed dir (only_part client.parts) (realm_named dir client.realm) at account h in
    let here = position_at (λ realm. same_text realm.name client.realm) dir.realms at is.2 in
    let same : same_text client.realm here.0.name ≡ true = nat_list_eq_equiv.symm client.realm here.0.name ∙ here.2 in
    ap (λ found. found >>= λ realm. account_of_realm dir at realm client) here.1
    ∙ ap (λ (b : Bool). let asked : Option ℕ = cond b (only_part client.parts >>= account_named dir at) None in asked) same
    ∙ ap (λ part. part >>= account_named dir at) is.1 ∙ is.3

pub requestor_placed : (dir : DirectoryValue) (at account : ℕ) (client : Principal) → is_well_formed dir ≡ true
    → (requestor_account dir at client ≡ Some account) ↔ (place_of dir client ≡ Some (at, account))
requestor_placed dir at account client well = (requestor_place dir at account client well, place_requestor dir at account client)

pub requestor_is : (dir : DirectoryValue) (at account : ℕ) (client : Principal) → is_well_formed dir ≡ true → requestor_account dir at client ≡ Some account
    → account_of dir client ≡ account_at dir at account
requestor_is dir at account client well h =
    ap (option_and_then (λ (place : ℕ × ℕ). account_at dir place.0 place.1)) (requestor_place dir at account client well h)
