use Rattle.kdc_run.proofs.Chained.{chained}
use Rattle.kdc_run.proofs.run.keeps_chains.Goals as goal

pub returns : goal.returns
returns c = chained c.runs_keep_chains.ensures.chains c.args.dir.now c.keeps_directory.ensures
