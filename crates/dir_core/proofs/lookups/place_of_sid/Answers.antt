use Rattle.std.proofs.Common.{length, refl, arith}
use Rattle.std.specs.Prelude.{slice_get}
use Rattle.std.proofs.lemmas.Option.{slice_get_read}
use Rattle.std.proofs.lemmas.Slice.Zip.{AllZip-long}
use Rattle.dir_core.specs.Indexed.{IsRealmIndexed}
use Rattle.dir_core.proofs.Places.{holds_of_some, zip_at}
use Rattle.dir_core.proofs.lookups.place_of_sid.Goals as goal

pub bounds-indexes-i : goal.bounds-indexes-i
bounds-indexes-i c = omega (arith, AllZip-long IsRealmIndexed c.args.indexes.now c.args.realms.now c.requires.indexed)

pub place_of_number-requires : goal.place_of_number-requires
place_of_number-requires c =
    let realms = c.args.realms.now in
    let i = c.loop-i.i in
    let realm = c.index-realms-i.result in
    holds_of_some (IsRealmIndexed c.index-indexes-i.result) (slice_get realms i) realm
    (slice_get_read realms (length realms) i realm refl c.loop-i-test.true c.index-realms-i.is)
    (zip_at IsRealmIndexed c.args.indexes.now realms i c.index-indexes-i.result c.requires.indexed (omega (arith, AllZip-long IsRealmIndexed c.args.indexes.now realms c.requires.indexed)) c.index-indexes-i.is)
