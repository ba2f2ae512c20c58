use Rattle.ends_laws.proofs.Askers.{askers_open}
use Rattle.ends_laws.proofs.GrantedReplies.{grants_open}
use Rattle.ends_laws.proofs.laws.replies_open.Goals as goal

pub returns : goal.returns
returns c = record { opened = grants_open; known = askers_open }
