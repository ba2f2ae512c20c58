use Rattle.std.proofs.Common.{◌≡◌, ◌-◌, ◌≤◌, length}
use Rattle.std.specs.Io.KnownBytes.{Consumes}
use Rattle.kdc_devices.proofs.batch.read_next.Given as goal

abbrev pub invariant-loop-buf : goal.invariant-loop-buf
invariant-loop-buf g l =
    record {
      within : length l.next.items ≤ 1048576;
      room : length l.buf ≡ 4096;
      read : Consumes (g.F.Read.remaining l.fn.file) (g.F.Read.remaining l.file) l.next.items;
    }

abbrev pub decreases-loop-buf : goal.decreases-loop-buf
decreases-loop-buf g l = 1048576 - length l.next.items
