-- After a change whose values have their forms, the members of well-formed realms break no more than a limit.
use Rattle.std.proofs.Common.{◌≡◌, ℕ, ◌+◌, ◌≤◌, List, [], ◌∷◌, ◌++◌, ◌&&◌, ◌||◌, ◌∙◌, ap, Bool, true, false, not, cond, map, length, refl, arith, length-append}
use Rattle.std.specs.Prelude.{nat_le, nat_lt, codes, filter, if◌then◌else◌, IfSome, Option, None, Some, is_none}
use Rattle.std.specs.List.{list_all, list_any}
use Rattle.std.proofs.lemmas.Bool.{le-leb, ltb-false}
use Rattle.std.proofs.lemmas.List.{length-map}
use Rattle.kdc_prelude.proofs.Verdicts.{neither}
use Rattle.kdc_prelude.specs.Texts.{same_text}
use Rattle.kdc_prelude.specs.Verdicts.{first_failing, ◌or_else◌}
use Rattle.krb_names.specs.Pieces.{has_forbidden, is_empty, is_long, is_name}
use Rattle.krb_names.specs.declared.refusal.NameRefusal.TheVariants.{Empty, TooLong, BadText}
use Rattle.dir_records.specs.declared.change.Change.{Change}
use Rattle.dir_records.specs.declared.change.Change.TheVariants.{AddAccount, RemoveAccount, SetMark, SetKey, AddSpn, RemoveSpn, AddClassic, RemoveClassic, AddResource, RemoveResource, AddGroup, RemoveGroup, SetLife, AddReach, RemoveReach}
use Rattle.dir_records.specs.declared.change.Mark.{Mark}
use Rattle.dir_records.specs.declared.change.Mark.TheVariants.{Disabled, NotDelegated, TrustedToAuth, Preauth}
use Rattle.dir_records.specs.declared.records.Account.{Account}
use Rattle.dir_records.specs.declared.records.KeyRec.{KeyRec}
use Rattle.dir_records.specs.declared.records.RealmRec.{RealmRec}
use Rattle.dir_records.specs.declared.records.Trust.{Trust}
use Rattle.dir_records.specs.declared.refusal.DirCause.{DirCause}
use Rattle.dir_records.specs.declared.refusal.DirCause.TheVariants.{NotJson, MissingField, BadField, Duplicate, SameKey, UnknownRef, TooMany, NoMemory}
use Rattle.dir_records.specs.declared.refusal.DirPlace.{DirPlace}
use Rattle.dir_records.specs.declared.refusal.DirPlace.TheVariants.{Whole, Realm, Account as AtAccount, Trust as AtTrust}
use Rattle.dir_records.specs.declared.refusal.DirRefusal.{DirRefusal}
use Rattle.dir_records.specs.Changes.{named_account, has_forms, has_value_forms, partner_of, passes, realm_of}
use Rattle.dir_records.specs.DirectoryValue.{DirectoryValue}
use Rattle.dir_records.specs.Forms.{is_account_name, is_key, is_positive, is_service_name}
use Rattle.dir_records.specs.Members.{account_fault, accounts_refusal, identity_rows, list_rows, members_refusal, realm_refusal, realm_rows, realms_refusal, refused_at, trust_rows, trusts_refusal, whole_rows}
use Rattle.dir_records.specs.WellFormed.{clash_refusal, first_refusal, has_few_spent, is_well_formed}
use Rattle.dir_records.proofs.Bounds.{from_none}
use Rattle.dir_core.specs.Edits.{account_after, accounts_after, edited, edited_account, edited_realm, edited_trust, is_named, life_after, marked, new_account, realm_after, trust_after, without}

both_true : (a b : Bool) → (a && b) ≡ true → (a ≡ true) × (b ≡ true)
both_true true b h = (refl, h)
both_true false b h = absurd (cc)

abbrev is_limit : DirCause → Bool
is_limit TooMany = true
is_limit _ = false

-- no fault, or a limit
abbrev limits : Option DirCause → Bool
limits None = true
limits (Some cause) = is_limit cause

abbrev limits_at : Option DirRefusal → Bool
limits_at None = true
limits_at (Some refusal) = is_limit refusal.cause

at_place : (place : DirPlace) (fault : Option DirCause) → limits fault ≡ true → limits_at (refused_at place fault) ≡ true
at_place place None h = refl
at_place place (Some cause) h = h

no_fault : (place : DirPlace) (fault : Option DirCause) → refused_at place fault ≡ None → fault ≡ None
no_fault place None h = refl
no_fault place (Some cause) h = absurd (cc)

one_then : (a b : Option DirRefusal) → limits_at a ≡ true → limits_at b ≡ true → limits_at (a or_else b) ≡ true
one_then None b h k = k
one_then (Some refusal) b h k = h

-- the forms of an account
abbrev has_identity : Account → Bool
has_identity account = is_account_name account.name && is_positive account.number && is_key account.key && nat_le (length account.salt) 1024

abbrev has_services : Account → Bool
has_services account = list_all is_service_name account.spns && list_all is_service_name account.classic

four : (a b c d : Bool) → first_failing ((BadField, a) ∷ (BadField, b) ∷ (BadField, c) ∷ (BadField, d) ∷ []) ≡ None → (a && b && c && d) ≡ true
four true true true true h = refl
four true true true false h = absurd (cc)
four true true false d h = absurd (cc)
four true false c d h = absurd (cc)
four false b c d h = absurd (cc)

four_pass : (a b c d : Bool) → (a && b && c && d) ≡ true → first_failing ((BadField, a) ∷ (BadField, b) ∷ (BadField, c) ∷ (BadField, d) ∷ []) ≡ None
four_pass true true true true h = refl
four_pass true true true false h = absurd (cc)
four_pass true true false d h = absurd (cc)
four_pass true false c d h = absurd (cc)
four_pass false b c d h = absurd (cc)

six : (p q r s t u : Bool) → first_failing ((TooMany, p) ∷ (BadField, q) ∷ (TooMany, r) ∷ (BadField, s) ∷ (TooMany, t) ∷ (TooMany, u) ∷ []) ≡ None → (q && s) ≡ true
six true true true true t u h = refl
six true true true false t u h = absurd (cc)
six true true false s t u h = absurd (cc)
six true false r s t u h = absurd (cc)
six false q r s t u h = absurd (cc)

six_limits : (p q r s t u : Bool) → (q && s) ≡ true → limits (first_failing ((TooMany, p) ∷ (BadField, q) ∷ (TooMany, r) ∷ (BadField, s) ∷ (TooMany, t) ∷ (TooMany, u) ∷ [])) ≡ true
six_limits p false r s t u h = absurd (cc)
six_limits p true r false t u h = absurd (cc)
six_limits false true r true t u h = refl
six_limits true true false true t u h = refl
six_limits true true true true false u h = refl
six_limits true true true true true false h = refl
six_limits true true true true true true h = refl

abbrev has_account_forms : Account → Bool
has_account_forms account = has_identity account && has_services account

account_forms : (account : Account) → account_fault account ≡ None → has_account_forms account ≡ true
account_forms account h =
    let parts = neither (first_failing (identity_rows account)) (first_failing (list_rows account)) h in
    let identity = four (is_account_name account.name) (is_positive account.number) (is_key account.key) (nat_le (length account.salt) 1024) parts.0 in
    let services = six (nat_le (length account.spns) 32) (list_all is_service_name account.spns) (nat_le (length account.classic) 256) (list_all is_service_name account.classic) (nat_le (length account.resource) 256) (nat_le (length account.groups) 128) parts.1 in
    rw (identity, services) refl

account_limits : (account : Account) → has_account_forms account ≡ true → limits (account_fault account) ≡ true
account_limits account h =
    let parts = both_true (has_identity account) (has_services account) h in
    let identity = four_pass (is_account_name account.name) (is_positive account.number) (is_key account.key) (nat_le (length account.salt) 1024) parts.0 in
    let services = six_limits (nat_le (length account.spns) 32) (list_all is_service_name account.spns) (nat_le (length account.classic) 256) (list_all is_service_name account.classic) (nat_le (length account.resource) 256) (nat_le (length account.groups) 128) parts.1 in
    ap (λ fault. limits (fault or_else first_failing (list_rows account))) identity ∙ services

accounts_forms : (at number : ℕ) (accounts : List Account) → accounts_refusal at number accounts ≡ None → list_all has_account_forms accounts ≡ true
accounts_forms at number [] h = refl
accounts_forms at number (account ∷ accounts) h =
    let parts = neither (refused_at (AtAccount at number) (account_fault account)) (accounts_refusal at (number + 1) accounts) h in
    rw (account_forms account (no_fault (AtAccount at number) (account_fault account) parts.0), accounts_forms at (number + 1) accounts parts.1) refl

accounts_limits : (at number : ℕ) (accounts : List Account) → list_all has_account_forms accounts ≡ true → limits_at (accounts_refusal at number accounts) ≡ true
accounts_limits at number [] h = refl
accounts_limits at number (account ∷ accounts) h =
    let parts = both_true (has_account_forms account) (list_all has_account_forms accounts) h in
    one_then (refused_at (AtAccount at number) (account_fault account)) (accounts_refusal at (number + 1) accounts)
    (at_place (AtAccount at number) (account_fault account) (account_limits account parts.0)) (accounts_limits at (number + 1) accounts parts.1)

-- the forms of a trust
abbrev has_trust_forms : Trust → Bool
has_trust_forms trust = is_name trust.partner && is_key trust.key && list_all is_name trust.reach

trust_four : (a b c d : Bool) → first_failing ((BadField, a) ∷ (BadField, b) ∷ (TooMany, c) ∷ (BadField, d) ∷ []) ≡ None → (a && b && d) ≡ true
trust_four true true true true h = refl
trust_four true true true false h = absurd (cc)
trust_four true true false d h = absurd (cc)
trust_four true false c d h = absurd (cc)
trust_four false b c d h = absurd (cc)

trust_limits : (a b c d : Bool) → (a && b && d) ≡ true → limits (first_failing ((BadField, a) ∷ (BadField, b) ∷ (TooMany, c) ∷ (BadField, d) ∷ [])) ≡ true
trust_limits true true true true h = refl
trust_limits true true false true h = refl
trust_limits true true c false h = absurd (cc)
trust_limits true false c d h = absurd (cc)
trust_limits false b c d h = absurd (cc)

trusts_forms : (at number : ℕ) (trusts : List Trust) → trusts_refusal at number trusts ≡ None → list_all has_trust_forms trusts ≡ true
trusts_forms at number [] h = refl
trusts_forms at number (trust ∷ trusts) h =
    let parts = neither (refused_at (AtTrust at number) (first_failing (trust_rows trust))) (trusts_refusal at (number + 1) trusts) h in
    let here = trust_four (is_name trust.partner) (is_key trust.key) (nat_le (length trust.reach) 63) (list_all is_name trust.reach) (no_fault (AtTrust at number) (first_failing (trust_rows trust)) parts.0) in
    rw (here, trusts_forms at (number + 1) trusts parts.1) refl

trusts_limits : (at number : ℕ) (trusts : List Trust) → list_all has_trust_forms trusts ≡ true → limits_at (trusts_refusal at number trusts) ≡ true
trusts_limits at number [] h = refl
trusts_limits at number (trust ∷ trusts) h =
    let parts = both_true (has_trust_forms trust) (list_all has_trust_forms trusts) h in
    one_then (refused_at (AtTrust at number) (first_failing (trust_rows trust))) (trusts_refusal at (number + 1) trusts)
    (at_place (AtTrust at number) (first_failing (trust_rows trust)) (trust_limits (is_name trust.partner) (is_key trust.key) (nat_le (length trust.reach) 63) (list_all is_name trust.reach) parts.0))
    (trusts_limits at (number + 1) trusts parts.1)

-- the forms of a realm's own members
abbrev has_own_forms : RealmRec → Bool
has_own_forms realm = is_name realm.name && nat_le (length realm.sid.numbers) 14 && is_key realm.krbtgt && (nat_lt 0 realm.max_life && nat_le realm.max_life 31536000)

abbrev has_realm_forms : RealmRec → Bool
has_realm_forms realm = has_own_forms realm && list_all has_account_forms realm.accounts && list_all has_trust_forms realm.trusts

five : (a b c d e : Bool) → first_failing ((BadField, a) ∷ (BadField, b) ∷ (BadField, c) ∷ (BadField, d) ∷ (TooMany, e) ∷ []) ≡ None → (a && b && c && d) ≡ true
five true true true true e h = refl
five true true true false e h = absurd (cc)
five true true false d e h = absurd (cc)
five true false c d e h = absurd (cc)
five false b c d e h = absurd (cc)

five_limits : (a b c d e : Bool) → (a && b && c && d) ≡ true → limits (first_failing ((BadField, a) ∷ (BadField, b) ∷ (BadField, c) ∷ (BadField, d) ∷ (TooMany, e) ∷ [])) ≡ true
five_limits true true true true true h = refl
five_limits true true true true false h = refl
five_limits true true true false e h = absurd (cc)
five_limits true true false d e h = absurd (cc)
five_limits true false c d e h = absurd (cc)
five_limits false b c d e h = absurd (cc)

limit_row : (a : Bool) → limits (first_failing ((TooMany, a) ∷ [])) ≡ true
limit_row true = refl
limit_row false = refl

realm_forms : (at others : ℕ) (realm : RealmRec) → realm_refusal at others realm ≡ None → has_realm_forms realm ≡ true
realm_forms at others realm h =
    let count = refused_at (Realm at) (first_failing ((TooMany, nat_le (length realm.trusts) 32) ∷ [])) in
    let own = neither (refused_at (Realm at) (first_failing (realm_rows others realm))) (accounts_refusal at 1 realm.accounts or_else (count or_else trusts_refusal at 1 realm.trusts)) h in
    let rest = neither (accounts_refusal at 1 realm.accounts) (count or_else trusts_refusal at 1 realm.trusts) own.1 in
    let trusts = neither count (trusts_refusal at 1 realm.trusts) rest.1 in
    let own_forms = five (is_name realm.name) (nat_le (length realm.sid.numbers) 14) (is_key realm.krbtgt) (nat_lt 0 realm.max_life && nat_le realm.max_life 31536000) (nat_le (others + length realm.accounts) 100000) (no_fault (Realm at) (first_failing (realm_rows others realm)) own.0) in
    rw (own_forms, accounts_forms at 1 realm.accounts rest.0, trusts_forms at 1 realm.trusts trusts.1) refl

three_true : (a b c : Bool) → (a && b && c) ≡ true → (a ≡ true) × (b ≡ true) × (c ≡ true)
three_true true true c h = (refl, refl, h)
three_true true false c h = absurd (cc)
three_true false b c h = absurd (cc)

realm_limits : (at others : ℕ) (realm : RealmRec) → has_realm_forms realm ≡ true → limits_at (realm_refusal at others realm) ≡ true
realm_limits at others realm h =
    let parts = three_true (has_own_forms realm) (list_all has_account_forms realm.accounts) (list_all has_trust_forms realm.trusts) h in
    let count = refused_at (Realm at) (first_failing ((TooMany, nat_le (length realm.trusts) 32) ∷ [])) in
    let own = at_place (Realm at) (first_failing (realm_rows others realm)) (five_limits (is_name realm.name) (nat_le (length realm.sid.numbers) 14) (is_key realm.krbtgt) (nat_lt 0 realm.max_life && nat_le realm.max_life 31536000) (nat_le (others + length realm.accounts) 100000) parts.0) in
    one_then (refused_at (Realm at) (first_failing (realm_rows others realm))) (accounts_refusal at 1 realm.accounts or_else (count or_else trusts_refusal at 1 realm.trusts)) own
    (one_then (accounts_refusal at 1 realm.accounts) (count or_else trusts_refusal at 1 realm.trusts) (accounts_limits at 1 realm.accounts parts.1)
    (one_then count (trusts_refusal at 1 realm.trusts) (at_place (Realm at) (first_failing ((TooMany, nat_le (length realm.trusts) 32) ∷ [])) (limit_row (nat_le (length realm.trusts) 32))) (trusts_limits at 1 realm.trusts parts.2)))

realms_forms : (at others : ℕ) (realms : List RealmRec) → realms_refusal at others realms ≡ None → list_all has_realm_forms realms ≡ true
realms_forms at others [] h = refl
realms_forms at others (realm ∷ realms) h =
    let parts = neither (realm_refusal at others realm) (realms_refusal (at + 1) (others + length realm.accounts) realms) h in
    rw (realm_forms at others realm parts.0, realms_forms (at + 1) (others + length realm.accounts) realms parts.1) refl

realms_limits : (at others : ℕ) (realms : List RealmRec) → list_all has_realm_forms realms ≡ true → limits_at (realms_refusal at others realms) ≡ true
realms_limits at others [] h = refl
realms_limits at others (realm ∷ realms) h =
    let parts = both_true (has_realm_forms realm) (list_all has_realm_forms realms) h in
    one_then (realm_refusal at others realm) (realms_refusal (at + 1) (others + length realm.accounts) realms)
    (realm_limits at others realm parts.0) (realms_limits (at + 1) (others + length realm.accounts) realms parts.1)

all_append : {X : Type 0} (p : X → Bool) (xs : List X) (x : X) → list_all p xs ≡ true → p x ≡ true → list_all p (xs ++ x ∷ []) ≡ true
all_append p [] x h k = rw k refl
all_append p (y ∷ xs) x h k =
    let parts = both_true (p y) (list_all p xs) h in rw (parts.0, all_append p xs x parts.1 k) refl

all_filter : {X : Type 0} (p q : X → Bool) (xs : List X) → list_all p xs ≡ true → list_all p (filter q xs) ≡ true
all_filter p q [] h = refl
all_filter p q (x ∷ xs) h =
    let parts = both_true (p x) (list_all p xs) h in by_test (q x) parts.0 (all_filter p q xs parts.1)
  where
    by_test : (b : Bool) → p x ≡ true → list_all p (filter q xs) ≡ true → list_all p (cond b (x ∷ filter q xs) (filter q xs)) ≡ true
    by_test true here rest = rw (here, rest) refl
    by_test false here rest = rest

all_map : {X : Type 0} (p : X → Bool) (f : X → X) → ((x : X) → p x ≡ true → p (f x) ≡ true) → (xs : List X) → list_all p xs ≡ true → list_all p (map f xs) ≡ true
all_map p f keeps [] h = refl
all_map p f keeps (x ∷ xs) h =
    let parts = both_true (p x) (list_all p xs) h in rw (keeps x parts.0, all_map p f keeps xs parts.1) refl

four_true : (a b c d : Bool) → (a && b && c && d) ≡ true → (a ≡ true) × (b ≡ true) × (c ≡ true) × (d ≡ true)
four_true true true true d h = (refl, refl, refl, h)
four_true true true false d h = absurd (cc)
four_true true false c d h = absurd (cc)
four_true false b c d h = absurd (cc)

-- what the forms of an account are
forms_of : (account : Account) → has_account_forms account ≡ true
    → (has_identity account ≡ true) × (list_all is_service_name account.spns ≡ true) × (list_all is_service_name account.classic ≡ true)
forms_of account h =
    let parts = both_true (has_identity account) (has_services account) h in
    let services = both_true (list_all is_service_name account.spns) (list_all is_service_name account.classic) parts.1 in
    (parts.0, services.0, services.1)

marked_forms : (mark : Mark) (on : Bool) (account : Account) → has_account_forms account ≡ true → has_account_forms (marked mark on account) ≡ true
marked_forms Disabled on account h = h
marked_forms NotDelegated on account h = h
marked_forms TrustedToAuth on account h = h
marked_forms Preauth on account h = h

rekeyed_forms : (key : KeyRec) (account : Account) → is_key key ≡ true → has_account_forms account ≡ true → has_account_forms (record account { key = key }) ≡ true
rekeyed_forms key account k h =
    let forms = forms_of account h in
    let identity = four_true (is_account_name account.name) (is_positive account.number) (is_key account.key) (nat_le (length account.salt) 1024) forms.0 in
    rw (identity.0, identity.1, k, identity.3, forms.1, forms.2) refl

spns_forms : (spns : List (List ℕ)) (account : Account) → list_all is_service_name spns ≡ true → has_account_forms account ≡ true → has_account_forms (record account { spns = spns }) ≡ true
spns_forms spns account k h = let forms = forms_of account h in rw (forms.0, k, forms.2) refl

classic_forms : (classic : List (List ℕ)) (account : Account) → list_all is_service_name classic ≡ true → has_account_forms account ≡ true → has_account_forms (record account { classic = classic }) ≡ true
classic_forms classic account k h = let forms = forms_of account h in rw (forms.0, forms.1, k) refl

edited_forms : (change : Change) → has_value_forms change ≡ true → (account : Account) → has_account_forms account ≡ true → has_account_forms (edited_account change account) ≡ true
edited_forms (SetMark realm name mark on) v account h = marked_forms mark on account h
edited_forms (SetKey realm name key) v account h = rekeyed_forms key account v h
edited_forms (AddSpn realm name spn) v account h = spns_forms (account.spns ++ spn ∷ []) account (all_append is_service_name account.spns spn (forms_of account h).1 v) h
edited_forms (RemoveSpn realm name spn) v account h =
    spns_forms (without same_text spn account.spns) account (all_filter is_service_name (λ other. not (same_text other spn)) account.spns (forms_of account h).1) h
edited_forms (AddClassic realm name spn) v account h = classic_forms (account.classic ++ spn ∷ []) account (all_append is_service_name account.classic spn (forms_of account h).2 v) h
edited_forms (RemoveClassic realm name spn) v account h =
    classic_forms (without same_text spn account.classic) account (all_filter is_service_name (λ other. not (same_text other spn)) account.classic (forms_of account h).2) h
edited_forms (AddResource realm name sid) v account h = h
edited_forms (RemoveResource realm name sid) v account h = h
edited_forms (AddGroup realm name number) v account h = h
edited_forms (RemoveGroup realm name number) v account h = h
edited_forms (AddAccount realm name number key) v account h = h
edited_forms (RemoveAccount realm name) v account h = h
edited_forms (SetLife realm life) v account h = h
edited_forms (AddReach realm partner reach) v account h = h
edited_forms (RemoveReach realm partner reach) v account h = h

either_account : (b : Bool) (old new : Account) → has_account_forms old ≡ true → has_account_forms new ≡ true → has_account_forms (if b then new else old) ≡ true
either_account true old new h k = k
either_account false old new h k = h

after_forms : (change : Change) → has_value_forms change ≡ true → (account : Account) → has_account_forms account ≡ true → has_account_forms (account_after change account) ≡ true
after_forms change v account h = either_account (is_named (named_account change) account.name) account (edited_account change account) h (edited_forms change v account h)

or_false : (b : Bool) → (b || false) ≡ false → b ≡ false
or_false true h = absurd (cc)
or_false false h = refl

-- a name has at most 255 octets
short : (text : List ℕ) → is_name text ≡ true → length text ≤ 255
short text h = ltb-false 255 (length text) (or_false (is_long text) (by_tests (list_any is_empty (text ∷ [])) (list_any is_long (text ∷ [])) (not true || list_any has_forbidden (text ∷ [])) h))
  where
    by_tests : (e l f : Bool) → is_none (if e then Some Empty else (if l then Some TooLong else (if f then Some BadText else None))) ≡ true → l ≡ false
    by_tests true l f h = absurd (cc)
    by_tests false true f h = absurd (cc)
    by_tests false false f h = refl

new_forms : (realm name : List ℕ) (number : ℕ) (key : KeyRec) → is_name realm ≡ true → (is_account_name name && is_positive number && is_key key) ≡ true
    → has_account_forms (new_account realm name number key) ≡ true
new_forms realm name number key r h =
    let parts = three_true (is_account_name name) (is_positive number) (is_key key) h in
    let is_text = both_true (is_name name) (not (same_text name (codes "krbtgt"))) parts.0 in
    let front = short realm r in
    let back = short name is_text.0 in
    let fits : length (realm ++ name) ≤ 1024 = omega (arith, length-append realm name) in
    rw (parts.0, parts.1, parts.2, le-leb (length (realm ++ name)) 1024 fits) refl

accounts_after_forms : (change : Change) → is_name (realm_of change) ≡ true → has_value_forms change ≡ true
    → (accounts : List Account) → list_all has_account_forms accounts ≡ true → list_all has_account_forms (accounts_after change accounts) ≡ true
accounts_after_forms (AddAccount realm name number key) r v accounts h =
    all_append has_account_forms accounts (new_account realm name number key) h (new_forms realm name number key r v)
accounts_after_forms (RemoveAccount realm name) r v accounts h = all_filter has_account_forms (λ account. not (same_text account.name name)) accounts h
accounts_after_forms (SetMark realm name mark on) r v accounts h = all_map has_account_forms (account_after (SetMark realm name mark on)) (after_forms (SetMark realm name mark on) v) accounts h
accounts_after_forms (SetKey realm name key) r v accounts h = all_map has_account_forms (account_after (SetKey realm name key)) (after_forms (SetKey realm name key) v) accounts h
accounts_after_forms (AddSpn realm name spn) r v accounts h = all_map has_account_forms (account_after (AddSpn realm name spn)) (after_forms (AddSpn realm name spn) v) accounts h
accounts_after_forms (RemoveSpn realm name spn) r v accounts h = all_map has_account_forms (account_after (RemoveSpn realm name spn)) (after_forms (RemoveSpn realm name spn) v) accounts h
accounts_after_forms (AddClassic realm name spn) r v accounts h = all_map has_account_forms (account_after (AddClassic realm name spn)) (after_forms (AddClassic realm name spn) v) accounts h
accounts_after_forms (RemoveClassic realm name spn) r v accounts h = all_map has_account_forms (account_after (RemoveClassic realm name spn)) (after_forms (RemoveClassic realm name spn) v) accounts h
accounts_after_forms (AddResource realm name sid) r v accounts h = all_map has_account_forms (account_after (AddResource realm name sid)) (after_forms (AddResource realm name sid) v) accounts h
accounts_after_forms (RemoveResource realm name sid) r v accounts h = all_map has_account_forms (account_after (RemoveResource realm name sid)) (after_forms (RemoveResource realm name sid) v) accounts h
accounts_after_forms (AddGroup realm name number) r v accounts h = all_map has_account_forms (account_after (AddGroup realm name number)) (after_forms (AddGroup realm name number) v) accounts h
accounts_after_forms (RemoveGroup realm name number) r v accounts h = all_map has_account_forms (account_after (RemoveGroup realm name number)) (after_forms (RemoveGroup realm name number) v) accounts h
accounts_after_forms (SetLife realm life) r v accounts h = all_map has_account_forms (account_after (SetLife realm life)) (after_forms (SetLife realm life) v) accounts h
accounts_after_forms (AddReach realm partner reach) r v accounts h = all_map has_account_forms (account_after (AddReach realm partner reach)) (after_forms (AddReach realm partner reach) v) accounts h
accounts_after_forms (RemoveReach realm partner reach) r v accounts h = all_map has_account_forms (account_after (RemoveReach realm partner reach)) (after_forms (RemoveReach realm partner reach) v) accounts h

reach_forms : (reach : List (List ℕ)) (trust : Trust) → list_all is_name reach ≡ true → has_trust_forms trust ≡ true → has_trust_forms (record trust { reach = reach }) ≡ true
reach_forms reach trust k h = let forms = three_true (is_name trust.partner) (is_key trust.key) (list_all is_name trust.reach) h in rw (forms.0, forms.1, k) refl

edited_trust_forms : (change : Change) → has_value_forms change ≡ true → (trust : Trust) → has_trust_forms trust ≡ true → has_trust_forms (edited_trust change trust) ≡ true
edited_trust_forms (AddReach realm partner reach) v trust h =
    reach_forms (trust.reach ++ reach ∷ []) trust (all_append is_name trust.reach reach (three_true (is_name trust.partner) (is_key trust.key) (list_all is_name trust.reach) h).2 v) h
edited_trust_forms (RemoveReach realm partner reach) v trust h =
    reach_forms (without same_text reach trust.reach) trust (all_filter is_name (λ other. not (same_text other reach)) trust.reach (three_true (is_name trust.partner) (is_key trust.key) (list_all is_name trust.reach) h).2) h
edited_trust_forms (SetMark realm name mark on) v trust h = h
edited_trust_forms (SetKey realm name key) v trust h = h
edited_trust_forms (AddSpn realm name spn) v trust h = h
edited_trust_forms (RemoveSpn realm name spn) v trust h = h
edited_trust_forms (AddClassic realm name spn) v trust h = h
edited_trust_forms (RemoveClassic realm name spn) v trust h = h
edited_trust_forms (AddResource realm name sid) v trust h = h
edited_trust_forms (RemoveResource realm name sid) v trust h = h
edited_trust_forms (AddGroup realm name number) v trust h = h
edited_trust_forms (RemoveGroup realm name number) v trust h = h
edited_trust_forms (AddAccount realm name number key) v trust h = h
edited_trust_forms (RemoveAccount realm name) v trust h = h
edited_trust_forms (SetLife realm life) v trust h = h

either_trust : (b : Bool) (old new : Trust) → has_trust_forms old ≡ true → has_trust_forms new ≡ true → has_trust_forms (if b then new else old) ≡ true
either_trust true old new h k = k
either_trust false old new h k = h

trust_after_forms : (change : Change) → has_value_forms change ≡ true → (trust : Trust) → has_trust_forms trust ≡ true → has_trust_forms (trust_after change trust) ≡ true
trust_after_forms change v trust h = either_trust (is_named (partner_of change) trust.partner) trust (edited_trust change trust) h (edited_trust_forms change v trust h)

abbrev is_life : ℕ → Bool
is_life life = nat_lt 0 life && nat_le life 31536000

life_forms : (change : Change) → has_value_forms change ≡ true → (old : ℕ) → is_life old ≡ true → is_life (life_after change old) ≡ true
life_forms (SetLife realm life) v old h = v
life_forms (SetMark realm name mark on) v old h = h
life_forms (SetKey realm name key) v old h = h
life_forms (AddSpn realm name spn) v old h = h
life_forms (RemoveSpn realm name spn) v old h = h
life_forms (AddClassic realm name spn) v old h = h
life_forms (RemoveClassic realm name spn) v old h = h
life_forms (AddResource realm name sid) v old h = h
life_forms (RemoveResource realm name sid) v old h = h
life_forms (AddGroup realm name number) v old h = h
life_forms (RemoveGroup realm name number) v old h = h
life_forms (AddAccount realm name number key) v old h = h
life_forms (RemoveAccount realm name) v old h = h
life_forms (AddReach realm partner reach) v old h = h
life_forms (RemoveReach realm partner reach) v old h = h

edited_realm_forms : (change : Change) → is_name (realm_of change) ≡ true → has_value_forms change ≡ true
    → (realm : RealmRec) → has_realm_forms realm ≡ true → has_realm_forms (edited_realm change realm) ≡ true
edited_realm_forms change r v realm h =
    let parts = three_true (has_own_forms realm) (list_all has_account_forms realm.accounts) (list_all has_trust_forms realm.trusts) h in
    let own = four_true (is_name realm.name) (nat_le (length realm.sid.numbers) 14) (is_key realm.krbtgt) (is_life realm.max_life) parts.0 in
    rw (own.0, own.1, own.2, life_forms change v realm.max_life own.3, accounts_after_forms change r v realm.accounts parts.1, all_map has_trust_forms (trust_after change) (trust_after_forms change v) realm.trusts parts.2) refl

either_realm : (b : Bool) (old new : RealmRec) → has_realm_forms old ≡ true → has_realm_forms new ≡ true → has_realm_forms (if b then new else old) ≡ true
either_realm true old new h k = k
either_realm false old new h k = h

realm_after_forms : (change : Change) → is_name (realm_of change) ≡ true → has_value_forms change ≡ true
    → (realm : RealmRec) → has_realm_forms realm ≡ true → has_realm_forms (realm_after change realm) ≡ true
realm_after_forms change r v realm h =
    either_realm (same_text realm.name (realm_of change)) realm (edited_realm change realm) h (edited_realm_forms change r v realm h)

is_too_many : (cause : DirCause) → is_limit cause ≡ true → cause ≡ TooMany
is_too_many TooMany h = refl
is_too_many NotJson h = absurd (cc)
is_too_many MissingField h = absurd (cc)
is_too_many BadField h = absurd (cc)
is_too_many Duplicate h = absurd (cc)
is_too_many SameKey h = absurd (cc)
is_too_many UnknownRef h = absurd (cc)
is_too_many NoMemory h = absurd (cc)

limit_is : (found : Option DirRefusal) → limits_at found ≡ true → IfSome found (λ refusal. refusal.cause ≡ TooMany)
limit_is None h = tt
limit_is (Some refusal) h = is_too_many refusal.cause h

whole_passes : (change : Change) (realms : List RealmRec) → refused_at Whole (first_failing (whole_rows realms)) ≡ None
    → refused_at Whole (first_failing (whole_rows (map (realm_after change) realms))) ≡ None
whole_passes change realms h = rw (length-map realms (realm_after change)) h

pub only_limits : (dir : DirectoryValue) (change : Change) → is_well_formed dir ≡ true → has_forms change ≡ true
    → IfSome (members_refusal (edited dir change).realms) (λ refusal. refusal.cause ≡ TooMany)
unfolding is_well_formed edited
only_limits dir change h f =
    let realms = dir.realms in
    let forms = four_true (is_name (realm_of change)) (passes is_account_name (named_account change)) (passes is_name (partner_of change)) (has_value_forms change) f in
    let members = (neither (members_refusal realms) (refused_at Whole (first_failing ((TooMany, has_few_spent dir) ∷ [])) or_else clash_refusal dir) (from_none (first_refusal dir) h)).0 in
    let parts = neither (refused_at Whole (first_failing (whole_rows realms))) (realms_refusal 0 0 realms) members in
    let old = realms_forms 0 0 realms parts.1 in
    let new = all_map has_realm_forms (realm_after change) (realm_after_forms change forms.0 forms.3) realms old in
    let rest = realms_limits 0 0 (map (realm_after change) realms) new in
    limit_is (members_refusal (map (realm_after change) realms))
    (ap (λ whole. limits_at (whole or_else realms_refusal 0 0 (map (realm_after change) realms))) (whole_passes change realms parts.0) ∙ rest)
