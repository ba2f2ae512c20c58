use Rattle.std.proofs.Common.{subst}
use Rattle.tgs_core.specs.Grants.{IsGrant}
use Rattle.tgs_core.proofs.grant.GrantView.keeps_grant.Goals as goal

pub returns : goal.returns
returns c = subst IsGrant c.self.view_is c.self.invariant
