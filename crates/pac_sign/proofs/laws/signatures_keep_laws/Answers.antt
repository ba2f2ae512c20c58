use Rattle.pac_sign.proofs.Verifies.{signed_sound, others_stay, signed_right, built_right}
use Rattle.pac_sign.proofs.laws.signatures_keep_laws.Goals as goal

pub returns-clause-value : goal.returns-clause-value
returns-clause-value c = signed_right

pub returns-clause-built : goal.returns-clause-built
returns-clause-built c = built_right

pub returns-clause-ok : goal.returns-clause-ok
returns-clause-ok c = signed_sound

pub returns-clause-unchanged : goal.returns-clause-unchanged
returns-clause-unchanged c = others_stay
