use Rattle.std.proofs.Common.{◌≡◌, length, ◌+◌, ◌-◌}
use Rattle.std.specs.Io.KnownBytes.{Consumes}
use Rattle.kdc_frames.specs.Moves.{Moves}
use Rattle.kdc_commands.specs.Inputs.{current_left}
use Rattle.kdc_commands.proofs.Listening.{Kept}
use Rattle.kdc_commands.proofs.input.read_caller.Given as goal

abbrev pub invariant-loop-buf : goal.invariant-loop-buf
invariant-loop-buf g l =
    record {
      read : Consumes (current_left (g.L.Door.callers l.fn.door)) (current_left (g.L.Door.callers l.door)) l.bytes.items;
      heard : Moves Kept (g.L.Door.callers l.fn.door) (g.L.Door.callers l.door);
      kept : g.L.Door.faults l.door ≡ g.L.Door.faults l.fn.door;
      accepted : g.L.Door.accept_faults l.door ≡ g.L.Door.accept_faults l.fn.door;
    }

abbrev pub decreases-loop-buf : goal.decreases-loop-buf
decreases-loop-buf g l = l.limit + 1 - length l.bytes.items
