use Rattle.ticket_parts.specs.Sound.{IsSound}
use Rattle.ticket_parts.proofs.Calls.{if_ok}
use Rattle.tgs_core.specs.Grants.{granted_record}
use Rattle.tgs_core.proofs.SoundGrants.{grant_is_sound}
use Rattle.tgs_core.proofs.grant.GrantView.granted_record.Goals as goal

pub returns-clause-sound : goal.returns-clause-sound
returns-clause-sound c =
    if_ok IsSound c.make_record.result (granted_record c.args.self.now c.args.random.now) c.make_record.ensures
    (grant_is_sound c.args.self.now c.args.random.now c.keeps_grant.ensures c.told-random c.bytes_fit.ensures)
