use Rattle.std.proofs.Common.{List, ℕ, ap, ◌∙◌}
use Rattle.std.specs.Prelude.{option_map}
use Rattle.pac_buffers.specs.Container.{entry_of}
use Rattle.pac_buffers.specs.Places.{place_of}
use Rattle.pac_buffers.proofs.Sums.{place_whole}
use Rattle.pac_buffers.proofs.container.Pac.place.Goals as goal

pub returns-clause-whole : goal.returns-clause-whole
returns-clause-whole c = λ signature.
    place_whole c.args.kind c.args.self.now c.place.result c.view.ensures.sound signature (c.place.ensures.exact ∙ ap (λ (l : List ℕ). option_map place_of (entry_of c.args.kind l)) c.view.ensures.value)
