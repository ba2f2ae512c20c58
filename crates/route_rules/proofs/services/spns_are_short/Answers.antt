use Rattle.route_rules.proofs.ServiceNames.{no_long_spn}
use Rattle.route_rules.proofs.services.spns_are_short.Goals as goal

pub returns : goal.returns
returns c = no_long_spn c.args.dir.now c.realm_count.ensures.well
