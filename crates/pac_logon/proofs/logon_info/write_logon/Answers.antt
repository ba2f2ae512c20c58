use Rattle.std.proofs.Common.{◌≡◌, ◌<◌, ◌≤◌, ◌^◌, ◌∙◌, ℕ, List, Ok, length, sym, ap, subst, arith}
use Rattle.ndr_core.specs.Layout.{Written}
use Rattle.ndr_core.specs.Object.{finished, object}
use Rattle.ndr_core.proofs.ObjectLaws.{headed}
use Rattle.pac_logon.specs.Logon.{logon}
use Rattle.pac_logon.proofs.Fitting.{logon_again}
use Rattle.pac_logon.proofs.LogonLaws.{logon_lawful}
use Rattle.pac_logon.proofs.Sizes.{logon_most, logon_short}
use Rattle.pac_logon.proofs.logon_info.write_logon.Goals as goal

pub finish-requires-clause-headed : goal.finish-requires-clause-headed
finish-requires-clause-headed c =
    let written = c.in_ok-put_info.ensures ∙ ap (λ (w : Written). logon.written w c.args.info.now) c.in_ok-to.ensures.ok in
    subst (λ (w : Written). 16 ≤ length w.bytes) (sym written) (headed logon c.args.info.now logon_lawful)

pub finish-requires-clause-short : goal.finish-requires-clause-short
finish-requires-clause-short c =
    let written = c.in_ok-put_info.ensures ∙ ap (λ (w : Written). logon.written w c.args.info.now) c.in_ok-to.ensures.ok in
    let few = c.requires.sid in
    let most = logon_most c.args.info.now c.requires.name c.requires.domain (omega arith) c.requires.few in
    subst (λ (w : Written). length w.bytes < 2 ^ 31) (sym written) (omega arith)

pub returns : goal.returns
returns c =
    let written = c.in_ok-put_info.ensures ∙ ap (λ (w : Written). logon.written w c.args.info.now) c.in_ok-to.ensures.ok in
    let spelt = c.from_vec.ensures ∙ c.in_ok-finish.ensures.ok ∙ ap (λ (w : Written). finished w.bytes) written in
    let again = logon_again c.args.info.now c.keeps_bounds.ensures in
    let few = c.requires.sid in
    let short = logon_short c.args.info.now c.requires.name c.requires.domain (omega arith) c.requires.few in
    record { ok = spelt; exact = subst (λ (b : List ℕ). object logon b ≡ Ok c.args.info.now) (sym spelt) again; short = subst (λ (b : List ℕ). length b < 2 ^ 30) (sym spelt) short }
