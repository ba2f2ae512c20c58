use Rattle.std.proofs.Common.{◌∙◌, ap, List, ℕ}
use Rattle.std.specs.List.{find}
use Rattle.std.specs.Option.{option_map}
use Rattle.pac_buffers.specs.InfoBuffers.{info_buffer, is_kind}
use Rattle.pac_buffers.proofs.Lists.{found_lies_in}
use Rattle.pac_buffers.proofs.view.PacView.entry.Goals as goal

pub returns-clause-within : goal.returns-clause-within
returns-clause-within c =
    let kind = c.args.kind in
    let bytes = c.self.inside.bytes.now in
    let is = c.entry.ensures ∙ ap (λ (list : List (List ℕ)). option_map info_buffer (find (λ raw. is_kind kind (info_buffer raw)) list)) c.self.invariant.listed in
    rw (← c.self.view_is) (found_lies_in kind bytes c.entry.result c.self.invariant.sound c.self.invariant.short is)
