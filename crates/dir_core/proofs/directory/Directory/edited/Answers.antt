use Rattle.std.proofs.Common.{◌≡◌, map}
use Rattle.dir_records.proofs.Bounds.{well_bounded}
use Rattle.dir_core.specs.Edits.{realm_after}
use Rattle.dir_core.proofs.EditedBounds.{accounts_bounded_after, few_realms_after, trusts_bounded_after}
use Rattle.dir_core.proofs.directory.Directory.edited.Goals as goal

is_after : (c : goal.In_ok-realms_after) → c.in_ok-realms_after.field-0 ≡ map (realm_after c.args.change.now) c.self.inside.contents.realms
is_after c = rw c.as_slice.ensures at c.in_ok-realms_after.ensures

pub returns-clause-few : goal.returns-clause-few
returns-clause-few c =
    rw (is_after c) (few_realms_after c.args.change.now c.self.inside.contents.realms (well_bounded c.self.inside.contents c.self.invariant.0))

pub returns-clause-accounts : goal.returns-clause-accounts
returns-clause-accounts c =
    rw (is_after c) (accounts_bounded_after c.args.change.now c.self.inside.contents.realms (well_bounded c.self.inside.contents c.self.invariant.0))

pub returns-clause-trusts : goal.returns-clause-trusts
returns-clause-trusts c =
    rw (is_after c) (trusts_bounded_after c.args.change.now c.self.inside.contents.realms (well_bounded c.self.inside.contents c.self.invariant.0))
