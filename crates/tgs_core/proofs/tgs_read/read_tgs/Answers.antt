use Rattle.std.proofs.Common.{sym, ◌∙◌}
use Rattle.tgs_core.proofs.JudgedRequests.{wish_is}
use Rattle.tgs_core.proofs.tgs_read.read_tgs.Goals as goal

pub returns-clause-ok : goal.returns-clause-ok
returns-clause-ok c = record {
  asked = c.in_ok-asked.ensures;
  wish = c.in_ok-wish.ensures.value ∙ sym (wish_is c.args.message.now c.requires.kind);
  header = c.in_ok-header.ensures.found;
  known = c.in_ok-header.ensures.known;
  ruled = c.in_ok-header.ensures.ok;
}
