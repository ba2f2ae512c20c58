use Rattle.history_laws.proofs.Grants.{entries_are_granted}
use Rattle.history_laws.proofs.Histories.{chain_at, list_at, user_at}
use Rattle.history_laws.proofs.Impersonating.{impersonating_at}
use Rattle.history_laws.proofs.Openings.{opens_at}
use Rattle.history_laws.proofs.laws.chain_law.Goals as goal

pub returns : goal.returns
returns c = record { chain = chain_at; list = list_at; user = user_at; opens = opens_at; granted = entries_are_granted; impersonating = impersonating_at }
