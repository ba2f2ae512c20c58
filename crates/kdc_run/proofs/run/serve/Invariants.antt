use Rattle.std.proofs.Common.{◌≡◌, ◌*◌, ◌≤◌}
use Rattle.kdc_run.specs.Worlds.{Known, world}
use Rattle.kdc_run.proofs.Runs.{IsVisited}
use Rattle.kdc_run.proofs.run.serve.Given as goal

abbrev pub invariant-loop-count : goal.invariant-loop-count
invariant-loop-count g l =
    record {
      visited : Known (IsVisited l.count l.requests) (world (g.L.Door.callers l.fn.door) (g.G.Changes.batches l.fn.changes) (g.C.Clock.moments l.fn.clock) (g.E.Entropy.blocks l.fn.entropy) l.fn.dir (g.O.Sink.held l.fn.out)) (world (g.L.Door.callers l.door) (g.G.Changes.batches l.changes) (g.C.Clock.moments l.clock) (g.E.Entropy.blocks l.entropy) l.dir (g.O.Sink.held l.out));
      few : l.requests ≤ 10000 * l.count;
      changes : g.G.Changes.faults l.changes ≡ g.G.Changes.faults l.fn.changes;
      entropy : g.E.Entropy.faults l.entropy ≡ g.E.Entropy.faults l.fn.entropy;
      out : g.O.Sink.faults l.out ≡ g.O.Sink.faults l.fn.out;
      accept : g.L.Door.accept_faults l.door ≡ g.L.Door.accept_faults l.fn.door;
    }
