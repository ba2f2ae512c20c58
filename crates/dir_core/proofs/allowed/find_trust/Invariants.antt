use Rattle.std.proofs.Common.{◌≡◌, drop}
use Rattle.std.specs.Prelude.{find}
use Rattle.kdc_prelude.specs.Texts.{same_text}
use Rattle.dir_core.proofs.allowed.find_trust.Given as goal

abbrev pub invariant-loop-trust : goal.invariant-loop-trust
invariant-loop-trust l =
    find (λ trust. same_text trust.partner l.partner) (drop l.trust-index l.trusts) ≡ find (λ trust. same_text trust.partner l.partner) l.trusts
