use Rattle.tgs_core.proofs.GivenGrants.{grants_are_given}
use Rattle.tgs_core.proofs.GrantedRequests.{granted_in_is_grant}
use Rattle.tgs_core.proofs.SoundGrants.{grant_is_sound}
use Rattle.tgs_core.proofs.laws.grants_keep_laws.Goals as goal

pub returns : goal.returns
returns c = record {
  sound = λ dir now bytes block grant directory request random long allowed granted. grant_is_sound grant block (granted_in_is_grant dir now bytes grant directory request allowed granted) long random;
  given = grants_are_given;
}
