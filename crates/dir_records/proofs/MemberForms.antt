-- The members of realms are refused nothing exactly where they have their forms and limits.
use Rattle.std.proofs.Common.{◌≡◌, ℕ, ◌+◌, ◌≤◌, ◌<◌, List, [], ◌∷◌, ◌&&◌, Bool, true, false, length, refl, arith}
use Rattle.std.specs.Prelude.{Option, None, nat_le, nat_lt, sum_by}
use Rattle.std.specs.List.{AllByRecursion}
use Rattle.std.proofs.lemmas.Bool.{le-leb, leb-true, lt-ltb, ltb-true}
use Rattle.std.proofs.lemmas.List.Sums.{sum_by-cons}
use Rattle.kdc_prelude.proofs.Verdicts.{neither}
use Rattle.kdc_prelude.specs.Verdicts.{first_failing, ◌or_else◌}
use Rattle.dir_records.specs.declared.records.Account.{Account}
use Rattle.dir_records.specs.declared.records.RealmRec.{RealmRec}
use Rattle.dir_records.specs.declared.records.Trust.{Trust}
use Rattle.dir_records.specs.declared.refusal.DirCause.{DirCause}
use Rattle.dir_records.specs.declared.refusal.DirCause.TheVariants.{TooMany}
use Rattle.dir_records.specs.declared.refusal.DirPlace.TheVariants.{Whole, Realm, Account as AtAccount, Trust as AtTrust}
use Rattle.dir_records.specs.IsDirectory.{IsAccount, IsRealm, IsTrust}
use Rattle.dir_records.specs.Members.{account_fault, accounts_refusal, identity_rows, list_rows, members_refusal, realm_refusal, realm_rows, realms_refusal, refused_at, trust_rows, trusts_refusal, whole_rows}
use Rattle.dir_records.proofs.Tables.{both_none, no_fault, not_refused, rows_hold, rows_pass}

account_is : (account : Account) → account_fault account ≡ None → IsAccount account
account_is account h =
    let parts = neither (first_failing (identity_rows account)) (first_failing (list_rows account)) h in
    let own = rows_hold (identity_rows account) parts.0 in
    let lists = rows_hold (list_rows account) parts.1 in
    record {
      name = own.0;
      number = own.1.0;
      key = own.1.1.0;
      salt = leb-true (length account.salt) 1024 own.1.1.1.0;
      few_spns = leb-true (length account.spns) 32 lists.0;
      spns = lists.1.0;
      few_classic = leb-true (length account.classic) 256 lists.1.1.0;
      classic = lists.1.1.1.0;
      few_resource = leb-true (length account.resource) 256 lists.1.1.1.1.0;
      few_groups = leb-true (length account.groups) 128 lists.1.1.1.1.1.0;
    }

account_passes : (account : Account) → IsAccount account → account_fault account ≡ None
account_passes account h =
    both_none (first_failing (identity_rows account)) (first_failing (list_rows account))
    (rows_pass (identity_rows account) (h.name, (h.number, (h.key, (le-leb (length account.salt) 1024 h.salt, tt)))))
    (rows_pass (list_rows account) (le-leb (length account.spns) 32 h.few_spns, (h.spns, (le-leb (length account.classic) 256 h.few_classic, (h.classic, (le-leb (length account.resource) 256 h.few_resource, (le-leb (length account.groups) 128 h.few_groups, tt)))))))

accounts_are : (at number : ℕ) (accounts : List Account) → accounts_refusal at number accounts ≡ None → AllByRecursion IsAccount accounts
accounts_are at number [] h = tt
accounts_are at number (account ∷ accounts) h =
    let parts = neither (refused_at (AtAccount at number) (account_fault account)) (accounts_refusal at (number + 1) accounts) h in
    (account_is account (no_fault (AtAccount at number) (account_fault account) parts.0), accounts_are at (number + 1) accounts parts.1)

accounts_pass : (at number : ℕ) (accounts : List Account) → AllByRecursion IsAccount accounts → accounts_refusal at number accounts ≡ None
accounts_pass at number [] h = refl
accounts_pass at number (account ∷ accounts) h =
    both_none (refused_at (AtAccount at number) (account_fault account)) (accounts_refusal at (number + 1) accounts)
    (not_refused (AtAccount at number) (account_fault account) (account_passes account h.0)) (accounts_pass at (number + 1) accounts h.1)

trust_is : (trust : Trust) → first_failing (trust_rows trust) ≡ None → IsTrust trust
trust_is trust h =
    let rows = rows_hold (trust_rows trust) h in
    record {
      partner = rows.0;
      key = rows.1.0;
      few_reach = leb-true (length trust.reach) 63 rows.1.1.0;
      reach = rows.1.1.1.0;
    }

trust_passes : (trust : Trust) → IsTrust trust → first_failing (trust_rows trust) ≡ None
trust_passes trust h = rows_pass (trust_rows trust) (h.partner, (h.key, (le-leb (length trust.reach) 63 h.few_reach, (h.reach, tt))))

trusts_are : (at number : ℕ) (trusts : List Trust) → trusts_refusal at number trusts ≡ None → AllByRecursion IsTrust trusts
trusts_are at number [] h = tt
trusts_are at number (trust ∷ trusts) h =
    let parts = neither (refused_at (AtTrust at number) (first_failing (trust_rows trust))) (trusts_refusal at (number + 1) trusts) h in
    (trust_is trust (no_fault (AtTrust at number) (first_failing (trust_rows trust)) parts.0), trusts_are at (number + 1) trusts parts.1)

trusts_pass : (at number : ℕ) (trusts : List Trust) → AllByRecursion IsTrust trusts → trusts_refusal at number trusts ≡ None
trusts_pass at number [] h = refl
trusts_pass at number (trust ∷ trusts) h =
    both_none (refused_at (AtTrust at number) (first_failing (trust_rows trust))) (trusts_refusal at (number + 1) trusts)
    (not_refused (AtTrust at number) (first_failing (trust_rows trust)) (trust_passes trust h.0)) (trusts_pass at (number + 1) trusts h.1)

both : (a b : Bool) → (a && b) ≡ true → (a ≡ true) × (b ≡ true)
both true b h = (refl, h)
both false b h = absurd (cc)

together : (a b : Bool) → a ≡ true → b ≡ true → (a && b) ≡ true
together true b h k = k
together false b h k = absurd (cc)

abbrev few_trusts : RealmRec → Option DirCause
few_trusts realm = first_failing ((TooMany, nat_le (length realm.trusts) 32) ∷ [])

realm_is : (at others : ℕ) (realm : RealmRec) → realm_refusal at others realm ≡ None → IsRealm realm × (others + length realm.accounts ≤ 100000)
realm_is at others realm h =
    let count = refused_at (Realm at) (few_trusts realm) in
    let own = neither (refused_at (Realm at) (first_failing (realm_rows others realm))) (accounts_refusal at 1 realm.accounts or_else (count or_else trusts_refusal at 1 realm.trusts)) h in
    let accounts = neither (accounts_refusal at 1 realm.accounts) (count or_else trusts_refusal at 1 realm.trusts) own.1 in
    let trusts = neither count (trusts_refusal at 1 realm.trusts) accounts.1 in
    let rows = rows_hold (realm_rows others realm) (no_fault (Realm at) (first_failing (realm_rows others realm)) own.0) in
    let life = both (nat_lt 0 realm.max_life) (nat_le realm.max_life 31536000) rows.1.1.1.0 in
    let some_life = ltb-true 0 realm.max_life life.0 in (
      record {
        name = rows.0;
        sid = leb-true (length realm.sid.numbers) 14 rows.1.0;
        krbtgt = rows.1.1.0;
        some_life = omega arith;
        few_life = leb-true realm.max_life 31536000 life.1;
        accounts = accounts_are at 1 realm.accounts accounts.0;
        few_trusts = leb-true (length realm.trusts) 32 (rows_hold ((TooMany, nat_le (length realm.trusts) 32) ∷ []) (no_fault (Realm at) (few_trusts realm) trusts.0)).0;
        trusts = trusts_are at 1 realm.trusts trusts.1;
      },
      leb-true (others + length realm.accounts) 100000 rows.1.1.1.1.0,
    )

realm_passes : (at others : ℕ) (realm : RealmRec) → IsRealm realm → others + length realm.accounts ≤ 100000 → realm_refusal at others realm ≡ None
realm_passes at others realm h few =
    let count = refused_at (Realm at) (few_trusts realm) in
    let life = together (nat_lt 0 realm.max_life) (nat_le realm.max_life 31536000) (lt-ltb 0 realm.max_life (omega (arith, h.some_life))) (le-leb realm.max_life 31536000 h.few_life) in
    let rows = rows_pass (realm_rows others realm) (h.name, (le-leb (length realm.sid.numbers) 14 h.sid, (h.krbtgt, (life, (le-leb (others + length realm.accounts) 100000 few, tt))))) in
    let trusts_few = rows_pass ((TooMany, nat_le (length realm.trusts) 32) ∷ []) (le-leb (length realm.trusts) 32 h.few_trusts, tt) in
    both_none (refused_at (Realm at) (first_failing (realm_rows others realm))) (accounts_refusal at 1 realm.accounts or_else (count or_else trusts_refusal at 1 realm.trusts))
    (not_refused (Realm at) (first_failing (realm_rows others realm)) rows)
    (both_none (accounts_refusal at 1 realm.accounts) (count or_else trusts_refusal at 1 realm.trusts) (accounts_pass at 1 realm.accounts h.accounts)
    (both_none count (trusts_refusal at 1 realm.trusts) (not_refused (Realm at) (few_trusts realm) trusts_few) (trusts_pass at 1 realm.trusts h.trusts)))

abbrev accounts_in : List RealmRec → ℕ
accounts_in realms = sum_by (λ realm. length realm.accounts) realms

realms_are : (at others : ℕ) (realms : List RealmRec) → others ≤ 100000 → realms_refusal at others realms ≡ None → AllByRecursion IsRealm realms × (others + accounts_in realms ≤ 100000)
realms_are at others [] few h = (tt, omega arith)
realms_are at others (realm ∷ realms) few h =
    let parts = neither (realm_refusal at others realm) (realms_refusal (at + 1) (others + length realm.accounts) realms) h in
    let first = realm_is at others realm parts.0 in
    let rest = realms_are (at + 1) (others + length realm.accounts) realms first.1 parts.1 in
    ((first.0, rest.0), omega (arith, rest.1, sum_by-cons (λ (other : RealmRec). length other.accounts) realm realms))

realms_pass : (at others : ℕ) (realms : List RealmRec) → AllByRecursion IsRealm realms → others + accounts_in realms ≤ 100000 → realms_refusal at others realms ≡ None
realms_pass at others [] h few = refl
realms_pass at others (realm ∷ realms) h few =
    let count = sum_by-cons (λ (other : RealmRec). length other.accounts) realm realms in
    both_none (realm_refusal at others realm) (realms_refusal (at + 1) (others + length realm.accounts) realms)
    (realm_passes at others realm h.0 (omega (arith, count, few))) (realms_pass (at + 1) (others + length realm.accounts) realms h.1 (omega (arith, count, few)))

-- what realms are whose members are refused nothing
pub record AreRealms (realms : List RealmRec) : Type 0 where
  pub some : 1 ≤ length realms
  pub few : length realms ≤ 64
  pub each : AllByRecursion IsRealm realms
  pub accounts : sum_by (λ realm. length realm.accounts) realms ≤ 100000

pub are_realms : (realms : List RealmRec) → members_refusal realms ≡ None → AreRealms realms
are_realms realms h =
    let parts = neither (refused_at Whole (first_failing (whole_rows realms))) (realms_refusal 0 0 realms) h in
    let rows = rows_hold (whole_rows realms) (no_fault Whole (first_failing (whole_rows realms)) parts.0) in
    let each = realms_are 0 0 realms (omega arith) parts.1 in
    let some = ltb-true 0 (length realms) rows.0 in
    record {
      some = omega arith;
      few = leb-true (length realms) 64 rows.1.0;
      each = each.0;
      accounts = omega (arith, each.1);
    }

pub realms_are_passed : (realms : List RealmRec) → AreRealms realms → members_refusal realms ≡ None
realms_are_passed realms h =
    both_none (refused_at Whole (first_failing (whole_rows realms))) (realms_refusal 0 0 realms)
    (not_refused Whole (first_failing (whole_rows realms)) (rows_pass (whole_rows realms) (lt-ltb 0 (length realms) (omega (arith, h.some)), (le-leb (length realms) 64 h.few, tt))))
    (realms_pass 0 0 realms h.each (omega (arith, h.accounts)))
