use Rattle.std.proofs.Common.{◌≡◌, ◌<◌, ◌≤◌, ◌^◌, ◌∙◌, ℕ, List, Ok, length, sym, ap, subst, arith}
use Rattle.ndr_core.specs.Layout.{Written}
use Rattle.ndr_core.specs.Object.{finished, object}
use Rattle.ndr_core.proofs.ObjectLaws.{headed}
use Rattle.pac_buffers.specs.Delegation.{delegation}
use Rattle.pac_buffers.proofs.InfoLaws.{delegation_lawful}
use Rattle.pac_buffers.proofs.InfoFits.{delegation_again}
use Rattle.pac_buffers.proofs.Sizes.{delegation_most, delegation_short}
use Rattle.pac_buffers.proofs.delegation_info.DelegationInfo.write.Goals as goal

pub finish-requires-clause-headed : goal.finish-requires-clause-headed
finish-requires-clause-headed c =
    let written = c.in_ok-put_info.ensures.ok ∙ ap (λ (w : Written). delegation.written w c.args.self.now) c.in_ok-to.ensures.ok in
    subst (λ (w : Written). 16 ≤ length w.bytes) (sym written) (headed delegation c.args.self.now delegation_lawful)

pub finish-requires-clause-short : goal.finish-requires-clause-short
finish-requires-clause-short c =
    let written = c.in_ok-put_info.ensures.ok ∙ ap (λ (w : Written). delegation.written w c.args.self.now) c.in_ok-to.ensures.ok in
    let most = delegation_most c.args.self.now c.requires.target c.requires.few c.requires.texts in
    subst (λ (w : Written). length w.bytes < 2 ^ 31) (sym written) (omega arith)

pub returns : goal.returns
returns c =
    let written = c.in_ok-put_info.ensures.ok ∙ ap (λ (w : Written). delegation.written w c.args.self.now) c.in_ok-to.ensures.ok in
    let spelt = c.from_vec.ensures ∙ c.in_ok-finish.ensures.ok ∙ ap (λ (w : Written). finished w.bytes) written in
    let again = delegation_again c.args.self.now c.requires.target c.requires.few c.requires.texts c.in_ok-put_info.ensures.fits.0 c.in_ok-put_info.ensures.fits.1 in
    record { ok = spelt; exact = subst (λ (b : List ℕ). object delegation b ≡ Ok c.args.self.now) (sym spelt) again; short = subst (λ (b : List ℕ). length b < 2 ^ 30) (sym spelt) (delegation_short c.args.self.now c.requires.target c.requires.few c.requires.texts) }
