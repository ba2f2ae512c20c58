use Rattle.std.proofs.Common.{◌≡◌, drop}
use Rattle.std.specs.List.{list_any}
use Rattle.kdc_prelude.specs.Texts.{same_text}
use Rattle.dir_records.proofs.references.has_realm.Given as goal

abbrev pub invariant-loop-other : goal.invariant-loop-other
invariant-loop-other l =
    list_any (λ other. same_text other.name l.name) (drop l.other-index l.realms) ≡ list_any (λ other. same_text other.name l.name) l.realms
