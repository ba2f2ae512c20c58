use Rattle.std.proofs.Common.{◌∙◌}
use Rattle.dir_core.proofs.Indexing.{copied_indexes}
use Rattle.dir_core.proofs.indexes.Indexes.try_clone.Goals as goal

pub returns : goal.returns
returns c = λ dir indexed. record {
  names = λ name. c.in_ok-try_clone.ensures name ∙ indexed.names name;
  realms = copied_indexes c.args.self.now.realms c.in_ok-copy_indexes.field-0 dir.realms (rw c.as_slice.ensures at c.in_ok-copy_indexes.ensures) indexed.realms;
  spns = λ spn. c.in_ok-try_clone-2.ensures spn ∙ indexed.spns spn;
}
