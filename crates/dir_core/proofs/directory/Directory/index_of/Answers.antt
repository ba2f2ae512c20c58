use Rattle.std.proofs.Common.{◌<◌, ◌∙◌, ap, get_or, length, arith}
use Rattle.std.proofs.lemmas.Slice.Zip.{AllZip-long}
use Rattle.dir_core.specs.Indexed.{IsRealmIndexed}
use Rattle.dir_core.proofs.Places.{zip_at}
use Rattle.dir_core.proofs.directory.Directory.index_of.Goals as goal

pub bounds-as_slice-realm : goal.bounds-as_slice-realm
bounds-as_slice-realm c =
    let long = AllZip-long IsRealmIndexed c.self.inside.indexes.realms c.self.inside.contents.realms c.self.invariant.1.realms in
    omega (arith, ap length c.as_slice.ensures, ap (λ d. length d.realms) c.self.view_is)

pub returns-clause-indexed : goal.returns-clause-indexed
returns-clause-indexed c =
    let indexes = c.self.inside.indexes.realms in
    let realms = c.self.inside.contents.realms in
    let long = AllZip-long IsRealmIndexed indexes realms c.self.invariant.1.realms in
    let within : c.args.realm < length indexes = omega (arith, ap (λ d. length d.realms) c.self.view_is) in
    let is = c.index-as_slice-realm.is ∙ ap (λ l. get_or l c.args.realm c.index-as_slice-realm.result) c.as_slice.ensures in
    let found = zip_at IsRealmIndexed indexes realms c.args.realm c.index-as_slice-realm.result c.self.invariant.1.realms within is in
    rw c.self.view_is at found
