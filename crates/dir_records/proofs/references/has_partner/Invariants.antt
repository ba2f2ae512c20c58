use Rattle.std.proofs.Common.{◌≡◌, drop}
use Rattle.std.specs.List.{list_any}
use Rattle.kdc_prelude.specs.Texts.{same_text}
use Rattle.dir_records.proofs.references.has_partner.Given as goal

abbrev pub invariant-loop-trust : goal.invariant-loop-trust
invariant-loop-trust l =
    list_any (λ back. same_text back.partner l.name) (drop l.trust-index l.trusts) ≡ list_any (λ back. same_text back.partner l.name) l.trusts
