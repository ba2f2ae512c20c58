use Rattle.std.proofs.Common.{refl}
use Rattle.std.proofs.KnownBytes.{Consumes-nil}
use Rattle.kdc_commands.specs.Inputs.{current_left}
use Rattle.kdc_commands.proofs.Listening.{kept_none}
use Rattle.kdc_commands.proofs.input.read_caller.Goals as goal

pub loop-buf-init : goal.loop-buf-init
loop-buf-init g c = record {
  read = rw c.new-bytes.ensures.items (Consumes-nil (current_left (g.L.Door.callers c.args.door.now)));
  heard = kept_none (g.L.Door.callers c.args.door.now);
  kept = refl;
  accepted = refl;
}
