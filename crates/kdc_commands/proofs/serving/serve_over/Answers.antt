use Rattle.std.proofs.Common.{refl}
use Rattle.std.specs.Prelude.{Ok, Err}
use Rattle.kdc_commands.specs.Devices.{devices}
use Rattle.kdc_commands.proofs.Served.{ran}
use Rattle.kdc_commands.proofs.serving.serve_over.Goals as goal

pub returns-in-Ok-clause-devices : goal.returns-in-Ok-clause-devices
returns-in-Ok-clause-devices g c =
    ran c.args.callers (g.D.Source.left c.args.dir.now) _ _ _ (Ok c.in-Ok.field-0)
    (devices (g.L.Door.callers c.args.door.now) (g.G.Changes.batches c.args.changes.now) (g.C.Clock.moments c.args.clock.now) (g.E.Entropy.blocks c.args.entropy.now) (g.O.Sink.held c.args.out.now))
    (devices (g.L.Door.callers c.serve.new.door) (g.G.Changes.batches c.serve.new.changes) (g.C.Clock.moments c.serve.new.clock) (g.E.Entropy.blocks c.serve.new.entropy) (g.O.Sink.held c.serve.new.out))
    c.in-Ok-Directory.field-0-is c.in-Ok-Directory.ensures.value 0 refl c.in-Ok.ensures.run c.in-Ok.ensures.chains

pub returns-clause-devices : goal.returns-clause-devices
returns-clause-devices g c =
    ran c.args.callers (g.D.Source.left c.args.dir.now) _ _ _ (Err c.in-Err.fault)
    (devices (g.L.Door.callers c.args.door.now) (g.G.Changes.batches c.args.changes.now) (g.C.Clock.moments c.args.clock.now) (g.E.Entropy.blocks c.args.entropy.now) (g.O.Sink.held c.args.out.now))
    (devices (g.L.Door.callers c.serve.new.door) (g.G.Changes.batches c.serve.new.changes) (g.C.Clock.moments c.serve.new.clock) (g.E.Entropy.blocks c.serve.new.entropy) (g.O.Sink.held c.serve.new.out))
    c.in-Ok-Directory.field-0-is c.in-Ok-Directory.ensures.value _ c.fault_status.ensures.value c.in-Err.ensures.run c.in-Err.ensures.chains
