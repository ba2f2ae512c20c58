use Rattle.kdc_prelude.specs.Texts.{same_text}
use Rattle.dir_indexes.specs.Places.{place_of_text}
use Rattle.dir_core.proofs.Places.{added_next}
use Rattle.dir_core.proofs.indexes.index_realm_names.Goals as goal

pub loop-i-preserved : goal.loop-i-preserved
loop-i-preserved c =
    added_next same_text (λ realm. realm.name) (place_of_text c.loop-i.index) (place_of_text c.add.new.self) c.args.realms.now c.loop-i.i c.index-realms-i.result
    c.loop-i-test.true c.index-realms-i.is c.loop-i.invariant (rw c.as_str.ensures at c.in_ok-add.ensures.ok)
