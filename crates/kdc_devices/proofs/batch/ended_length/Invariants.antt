use Rattle.std.proofs.Common.{◌≤◌, ◌≢◌, All, drop, length}
use Rattle.kdc_devices.proofs.batch.ended_length.Given as goal

abbrev pub invariant-loop-count : goal.invariant-loop-count
invariant-loop-count l =
    record {
      within : l.count ≤ length l.bytes;
      later : All (λ byte. byte ≢ 10) (drop l.count l.bytes);
    }

abbrev pub decreases-loop-count : goal.decreases-loop-count
decreases-loop-count l = l.count
