use Rattle.std.proofs.Common.{◌≤◌, ◌<◌, ◌∙◌, ℕ, ap, length, sym, subst}
use Rattle.std.specs.Prelude.{IfSome, Option, count_by, option_and_then, position, slice_get}
use Rattle.std.proofs.lemmas.Cmp.{nat_list_eq_equiv}
use Rattle.kdc_prelude.specs.Texts.{same_text}
use Rattle.dir_records.specs.declared.records.RealmRec.{RealmRec}
use Rattle.dir_records.proofs.Apart.{apart_names}
use Rattle.dir_core.specs.Indexed.{IsRealmIndexed}
use Rattle.dir_core.specs.Lookups.{accounts_at, accounts_of}
use Rattle.dir_core.proofs.Once.{at_most_one}
use Rattle.dir_core.proofs.Places.{holds_of_some, position_within, some_at}
use Rattle.dir_core.proofs.directory.Directory.account_by_name.Goals as goal

pub returns-clause-found : goal.returns-clause-found
returns-clause-found c =
    let realms = c.args.self.now.realms in
    let name = c.args.name.now in
    let there = some_at realms c.args.realm c.requires in
    let index = holds_of_some (IsRealmIndexed c.index_of.result.now) (slice_get realms c.args.realm) there.0 there.1 c.index_of.ensures.indexed in
    c.find.ensures ∙ index.names name
    ∙ sym (ap (λ (o : Option RealmRec). option_and_then (λ realm. position (λ account. same_text account.name name) realm.accounts) o) there.1)

pub returns-clause-within : goal.returns-clause-within
returns-clause-within c =
    let realms = c.args.self.now.realms in
    let name = c.args.name.now in
    let there = some_at realms c.args.realm c.requires in
    let index = holds_of_some (IsRealmIndexed c.index_of.result.now) (slice_get realms c.args.realm) there.0 there.1 c.index_of.ensures.indexed in
    let found = c.find.ensures ∙ index.names name in
    subst (λ (o : Option ℕ). IfSome o (λ account. account < length (accounts_at c.args.self.now c.args.realm))) (sym found)
    (subst (λ (o : Option RealmRec). IfSome (position (λ account. same_text account.name name) there.0.accounts) (λ account. account < length (accounts_of o))) (sym there.1) (position_within (λ account. same_text account.name name) there.0.accounts))

pub returns-clause-only : goal.returns-clause-only
returns-clause-only c =
    let dir = c.args.self.now in
    let name = c.args.name.now in
    let there = some_at dir.realms c.args.realm c.requires in
    let apart = apart_names dir c.index_of.ensures.well c.args.realm there.0 there.1 in
    subst (λ (o : Option RealmRec). IfSome o (λ realm. count_by (λ account. same_text account.name name) realm.accounts ≤ 1)) (sym there.1)
    (at_most_one same_text nat_list_eq_equiv (λ account. account.name) name there.0.accounts apart)
