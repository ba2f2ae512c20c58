use Rattle.std.proofs.Common.{arith, ap, sym, ◌∙◌}
use Rattle.dir_text.proofs.Entries.{next_realm}
use Rattle.dir_text.proofs.realm.realms_of.Goals as goal

pub loop-value-preserved : goal.loop-value-preserved
loop-value-preserved c =
    let step = next_realm c.loop-value.i c.loop-value.room c.loop-value.value-index c.args.values.now c.value-item.result c.in_ok-realm.realm c.loop-value.realms c.loop-value-test.true c.value-item.is c.in_ok-realm.ensures.value in
    record {
      read = rw (c.len-room.ensures, c.in_ok-push.ensures.ok) (step ∙ c.loop-value.invariant.read);
      number = omega arith;
      room = omega arith;
    }
