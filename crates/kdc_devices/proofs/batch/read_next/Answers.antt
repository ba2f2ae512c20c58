use Rattle.std.proofs.Common.{◌<◌, length, arith}
use Rattle.std.proofs.lemmas.List.{length-take}
use Rattle.kdc_devices.proofs.Fronts.{all_read, limit_read}
use Rattle.kdc_devices.proofs.batch.read_next.Goals as goal

pub returns-in-Ok-eq0-clause-value : goal.returns-in-Ok-eq0-clause-value
returns-in-Ok-eq0-clause-value g c =
    let room : 0 < length c.read.new.buf = omega (arith, length-take c.min-room.result c.loop-buf.buf) in
    all_read 1048576 _ _ _ c.loop-buf.next.items _ _ (omega arith) room c.loop-buf.invariant.within c.loop-buf.invariant.read c.in-Ok-eq0.ensures.bytes

pub returns-clause-value : goal.returns-clause-value
returns-clause-value g c =
    limit_read 1048576 _ _ c.loop-buf.next.items (omega (arith, c.loop-buf.invariant.within)) c.loop-buf.invariant.read
