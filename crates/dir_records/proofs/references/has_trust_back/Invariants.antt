use Rattle.std.proofs.Common.{◌≡◌, ◌&&◌, drop}
use Rattle.std.specs.List.{list_any}
use Rattle.kdc_prelude.specs.Texts.{same_text}
use Rattle.dir_records.proofs.references.has_trust_back.Given as goal

abbrev pub invariant-loop-other : goal.invariant-loop-other
invariant-loop-other l =
    list_any (λ other. same_text other.name l.name && list_any (λ back. same_text back.partner l.realm.name) other.trusts) (drop l.other-index l.realms) ≡ list_any (λ other. same_text other.name l.name && list_any (λ back. same_text back.partner l.realm.name) other.trusts) l.realms
