use Rattle.std.proofs.Common.{◌≡◌, ◌++◌, drop}
use Rattle.std.specs.Prelude.{flat_map}
use Rattle.kdc_commands.specs.Questions.{answer_to}
use Rattle.kdc_commands.proofs.ask.answers.Given as goal

abbrev pub invariant-loop-line : goal.invariant-loop-line
invariant-loop-line l =
    l.text.items ++ flat_map (λ line. answer_to l.dir line.now) (drop l.line-index l.line-items) ≡ flat_map (λ line. answer_to l.dir line.now) l.line-items
