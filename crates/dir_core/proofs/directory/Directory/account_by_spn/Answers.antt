use Rattle.std.proofs.Common.{◌≡◌, ◌<◌, ◌≤◌, ◌∙◌, ℕ, ap, length, subst, sym}
use Rattle.std.specs.Prelude.{IfSome, Option, count_by, flat_map, slice_get, sum_by}
use Rattle.std.proofs.Math.Nat.{le_trans}
use Rattle.std.proofs.lemmas.Cmp.{nat_list_eq_equiv}
use Rattle.kdc_prelude.specs.Texts.{same_text}
use Rattle.dir_core.specs.Lookups.{accounts_of, has_spn, spn_place_from}
use Rattle.dir_records.proofs.Apart.{are_apart}
use Rattle.dir_core.proofs.Once.{in_all, once}
use Rattle.dir_core.proofs.Served.{account_within, realm_within, spn_placed}
use Rattle.dir_core.proofs.directory.Directory.account_by_spn.Goals as goal

is_placed : (c : goal.After-find) → c.find.result ≡ spn_place_from c.args.spn.now 0 c.args.self.now.realms
is_placed c = c.find.ensures ∙ c.self.invariant.1.spns c.args.spn.now ∙ ap (λ d. spn_place_from c.args.spn.now 0 d.realms) c.self.view_is

pub returns-clause-found : goal.returns-clause-found
returns-clause-found c = is_placed c

pub returns-clause-within : goal.returns-clause-within
returns-clause-within c =
    let realms = c.args.self.now.realms in
    subst (λ (o : Option (ℕ × ℕ)). IfSome o (λ place. place.0 < length realms)) (sym (is_placed c))
    (realm_within realms (spn_place_from c.args.spn.now 0 realms) (spn_placed c.args.spn.now realms))

pub returns-clause-account : goal.returns-clause-account
returns-clause-account c =
    let realms = c.args.self.now.realms in
    subst (λ (o : Option (ℕ × ℕ)). IfSome o (λ place. place.1 < length (accounts_of (slice_get realms place.0)))) (sym (is_placed c))
    (account_within realms (spn_place_from c.args.spn.now 0 realms) (spn_placed c.args.spn.now realms))

pub returns-clause-only : goal.returns-clause-only
returns-clause-only c =
    let spn = c.args.spn.now in
    let realms = c.self.inside.contents.realms in
    let all = flat_map (λ realm. flat_map (λ account. account.spns) realm.accounts) realms in
    let few : sum_by (λ realm. count_by (has_spn spn) realm.accounts) realms ≤ 1 =
    le_trans (in_all (same_text spn) (λ account. account.spns) (λ realm. realm.accounts) realms) (once same_text nat_list_eq_equiv spn all (are_apart c.self.inside.contents c.self.invariant.0).spns) in
    let same = ap (λ d. d.realms) c.self.view_is in
    rw same at few
