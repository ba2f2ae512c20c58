use Rattle.std.proofs.Common.{List, ℕ, ◌++◌, ap, ◌∙◌}
use Rattle.pac_buffers.specs.Buffers.{pac, contents}
use Rattle.pac_buffers.proofs.draft.Draft.finish.Goals as goal

pub returns : goal.returns
unfolding pac
returns c = record {
  ok = λ bs held. c.in_ok-extend_from_slice.ensures.items ∙ ap (λ (l : List ℕ). c.args.self.list.items ++ l) (c.as_slice.ensures.value ∙ held.body) ∙ ap (λ (l : List ℕ). l ++ contents bs) held.list;
}
