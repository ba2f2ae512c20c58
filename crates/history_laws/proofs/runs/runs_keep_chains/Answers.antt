use Rattle.history_laws.proofs.CallersHistories.{callers_law}
use Rattle.history_laws.proofs.RunHistories.{run_law}
use Rattle.history_laws.proofs.runs.runs_keep_chains.Goals as goal

pub returns : goal.returns
returns c = record {
  chains = run_law c.chain_law.ensures.chain c.chain_law.ensures.list c.chain_law.ensures.user c.chain_law.ensures.opens c.chain_law.ensures.granted;
  callers = callers_law;
}
