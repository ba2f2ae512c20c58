use Rattle.std.proofs.Common.{◌<◌, ◌^◌, length, sym, subst, arith}
use Rattle.s4u_padata.specs.declared.x509_user.X509User.{X509User}
use Rattle.s4u_padata.specs.X509User.{x509_user}
use Rattle.tgs_core.proofs.EchoForms.{echo_fits, echo_short}
use Rattle.tgs_core.proofs.echo.echo_padata.Goals as goal

pub write-requires-clause-fits : goal.write-requires-clause-fits
write-requires-clause-fits c = subst x509_user.Fits (sym c.in_ok-made.ensures) (echo_fits c.args.key.now c.args.asked.now c.requires)

pub write-requires-clause-short : goal.write-requires-clause-short
write-requires-clause-short c =
    let few = c.requires.few in
    let short = echo_short c.args.key.now c.args.asked.now in
    subst (λ (x : X509User). length (x509_user.spelling x) < 2 ^ 32) (sym c.in_ok-made.ensures) (omega (arith, few, short))
