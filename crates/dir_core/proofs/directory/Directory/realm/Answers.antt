use Rattle.std.proofs.Common.{◌≡◌, ◌<◌, sym, ◌∙◌, ap, get_or, length, refl, arith}
use Rattle.std.specs.Prelude.{Some, slice_get}
use Rattle.std.proofs.lemmas.Option.{slice_get_read}
use Rattle.dir_records.proofs.Apart.{apart_names}
use Rattle.dir_records.specs.IsDirectory.{IsRealm}
use Rattle.dir_records.proofs.Bounds.{IsBounded, well_bounded}
use Rattle.dir_records.proofs.Consistent.{is_consistent}
use Rattle.dir_records.proofs.Tables.{each}
use Rattle.dir_core.proofs.directory.Directory.realm.Goals as goal

within : (c : goal.After-index-as_slice-i) → c.args.i < length c.self.inside.contents.realms
within c = omega (arith, ap length c.as_slice.ensures, ap (λ d. length d.realms) c.self.view_is)

is_read : (c : goal.After-index-as_slice-i) → c.index-as_slice-i.result ≡ get_or c.self.inside.contents.realms c.args.i c.index-as_slice-i.result
is_read c = c.index-as_slice-i.is ∙ ap (λ l. get_or l c.args.i c.index-as_slice-i.result) c.as_slice.ensures

bounded : (c : goal.After-index-as_slice-i) → IsBounded c.index-as_slice-i.result
bounded c =
    let realm = c.index-as_slice-i.result in
    let realms = c.self.inside.contents.realms in
    let same : get_or realms c.args.i realm ≡ realm = sym (is_read c) in
    let at_index : IsBounded (get_or realms c.args.i realm) = (well_bounded c.self.inside.contents c.self.invariant.0).each c.args.i realm (within c) in
    rw same at at_index

pub returns-clause-accounts : goal.returns-clause-accounts
returns-clause-accounts c = (bounded c).accounts

pub returns-clause-trusts : goal.returns-clause-trusts
returns-clause-trusts c = (bounded c).trusts

is_there : (c : goal.After-index-as_slice-i) → slice_get c.self.inside.contents.realms c.args.i ≡ Some c.index-as_slice-i.result
is_there c = slice_get_read c.self.inside.contents.realms (length c.self.inside.contents.realms) c.args.i c.index-as_slice-i.result refl (within c) (is_read c)

pub returns-clause-forms : goal.returns-clause-forms
returns-clause-forms c = each IsRealm c.self.inside.contents.realms c.args.i c.index-as_slice-i.result (is_consistent c.self.inside.contents c.self.invariant.0).forms.realms (is_there c)

pub returns-clause-names : goal.returns-clause-names
returns-clause-names c = apart_names c.self.inside.contents c.self.invariant.0 c.args.i c.index-as_slice-i.result (is_there c)
