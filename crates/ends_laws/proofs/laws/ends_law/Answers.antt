use Rattle.ends_laws.proofs.Denials.{denials_reach}
use Rattle.ends_laws.proofs.Finishes.{askers_finish}
use Rattle.ends_laws.proofs.ServiceAccepts.{services_accept}
use Rattle.ends_laws.proofs.laws.ends_law.Goals as goal

pub returns : goal.returns
returns c = record { denied = denials_reach; finished = askers_finish; accepted = services_accept }
