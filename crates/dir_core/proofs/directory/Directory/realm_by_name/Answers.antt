use Rattle.std.proofs.Common.{◌≡◌, ◌<◌, ◌∙◌, ℕ, ap, length, subst, sym}
use Rattle.std.specs.Prelude.{IfSome, Option}
use Rattle.std.proofs.lemmas.Cmp.{nat_list_eq_equiv}
use Rattle.kdc_prelude.specs.Texts.{same_text}
use Rattle.dir_records.proofs.Apart.{are_apart}
use Rattle.dir_core.specs.Lookups.{realm_named}
use Rattle.dir_core.proofs.Once.{at_most_one}
use Rattle.dir_core.proofs.Places.{position_within}
use Rattle.dir_core.proofs.directory.Directory.realm_by_name.Goals as goal

is_named : (c : goal.After-find) → c.find.result ≡ realm_named c.args.self.now c.args.name.now
is_named c = c.find.ensures ∙ c.self.invariant.1.names c.args.name.now ∙ ap (λ d. realm_named d c.args.name.now) c.self.view_is

pub returns-clause-found : goal.returns-clause-found
returns-clause-found c = is_named c

pub returns-clause-within : goal.returns-clause-within
returns-clause-within c =
    let realms = c.args.self.now.realms in
    subst (λ (o : Option ℕ). IfSome o (λ i. i < length realms)) (sym (is_named c)) (position_within (λ realm. same_text realm.name c.args.name.now) realms)

pub returns-clause-only : goal.returns-clause-only
returns-clause-only c =
    let once = at_most_one same_text nat_list_eq_equiv (λ realm. realm.name) c.args.name.now c.self.inside.contents.realms (are_apart c.self.inside.contents c.self.invariant.0).names in
    let realms = ap (λ d. d.realms) c.self.view_is in
    rw realms at once
