use Rattle.s4u_rules.proofs.OneParts.{no_joined_account}
use Rattle.s4u_rules.proofs.self_user.names_have_one_part.Goals as goal

pub returns : goal.returns
returns c = no_joined_account c.args.dir.now c.keeps_directory.ensures
