use Rattle.std.proofs.Common.{◌≡◌, ℕ, List, ◌++◌, subst}
use Rattle.std.specs.Prelude.{OnOk}
use Rattle.der_core.specs.Elements.{element}
use Rattle.der_forms.proofs.time.KTimeForm.write_to.Goals as goal

pub returns : goal.returns
returns c = record {
  ok = subst (λ (text : List ℕ). OnOk c.time.result (c.time.new.self ≡ c.args.to.now ++ element 0x18 text)) c.ktime_write.ensures.value c.time.ensures.ok;
}
