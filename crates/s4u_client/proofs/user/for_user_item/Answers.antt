use Rattle.std.proofs.Common.{◌<◌, ◌≤◌, ◌^◌, length, ap, sym, subst, arith}
use Rattle.s4u_padata.specs.declared.for_user.ForUser.{ForUser}
use Rattle.s4u_padata.specs.ForUser.{for_user}
use Rattle.s4u_client.proofs.UserForms.{for_user_fits, for_user_short}
use Rattle.s4u_client.proofs.user.for_user_item.Goals as goal

pub write-requires-clause-fits : goal.write-requires-clause-fits
write-requires-clause-fits c =
    let few = subst (λ (x : ForUser). length x.sum ≤ 16) c.in_ok-made.ensures.value c.in_ok-made.ensures.short in
    subst for_user.Fits (sym c.in_ok-made.ensures.value) (for_user_fits c.args.user.now c.args.session.now c.requires few)

pub write-requires-clause-short : goal.write-requires-clause-short
write-requires-clause-short c =
    let few = subst (λ (x : ForUser). length x.sum ≤ 16) c.in_ok-made.ensures.value c.in_ok-made.ensures.short in
    let short = for_user_short c.args.user.now c.args.session.now c.requires few in
    subst (λ (x : ForUser). length (for_user.spelling x) < 2 ^ 32) (sym c.in_ok-made.ensures.value) (omega (arith, short))

pub returns-clause-short : goal.returns-clause-short
returns-clause-short c =
    let few = subst (λ (x : ForUser). length x.sum ≤ 16) c.in_ok-made.ensures.value c.in_ok-made.ensures.short in
    let short = for_user_short c.args.user.now c.args.session.now c.requires few in
    let own = subst (λ (x : ForUser). length (for_user.spelling x) ≤ 3000) (sym c.in_ok-made.ensures.value) short in
    record { kind = record { sfits = omega arith }; few = omega (arith, own, ap length c.in_ok-write.ensures.ok) }
