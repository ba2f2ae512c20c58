use Rattle.std.proofs.Common.{sym, ap, ◌∙◌, List, ℕ, Bor}
use Rattle.std.specs.Prelude.{flat_map}
use Rattle.kdc_commands.specs.Questions.{answer_to}
use Rattle.kdc_prelude.proofs.Lists.{finished, flat_map-map}
use Rattle.kdc_commands.proofs.ask.answers.Goals as goal

pub returns : goal.returns
returns c =
    let by_line : Bor (List ℕ) → List ℕ = λ line. answer_to c.args.dir.now line.now in
    finished by_line c.loop-line.text.items c.deref-line-items.result.now c.loop-line.line-index c.loop-line-test.false c.loop-line.invariant
    ∙ ap (flat_map by_line) c.deref-line-items.ensures.value
    ∙ sym (flat_map-map (answer_to c.args.dir.now) (λ (line : Bor (List ℕ)). line.now) c.in_ok-lines.lines.items)
    ∙ ap (flat_map (answer_to c.args.dir.now)) c.in_ok-lines.ensures
