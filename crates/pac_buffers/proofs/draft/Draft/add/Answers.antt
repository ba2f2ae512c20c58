use Rattle.std.proofs.Common.{◌≡◌, ℕ, ◌+◌, ◌++◌, length, refl, ap, ◌∙◌}
use Rattle.pac_buffers.specs.declared.info_buffer.InfoBuffer.{InfoBuffer}
use Rattle.pac_buffers.specs.Buffers.{entry_bytes}
use Rattle.pac_buffers.proofs.Drafts.{holds_more}
use Rattle.pac_buffers.proofs.draft.Draft.add.Goals as goal

pub returns-clause-ok : goal.returns-clause-ok
returns-clause-ok c = λ count bs held.
    let self = c.args.self.now in
    let entry : ℕ → InfoBuffer = λ n. record { kind = c.args.kind; size = length c.args.content.now; offset = c.args.self.now.start + n } in
    let list : c.put_entry.new.list.items ≡ c.args.self.now.list.items ++ entry_bytes (entry c.len.result) = c.in_ok-put_entry.ensures in
    holds_more self (record { list = c.put_entry.new.list; body = c.put_padded.new.body; start = self.start }) count bs (record { kind = c.args.kind; content = c.args.content.now }) held refl
    (list ∙ ap (λ (n : ℕ). c.args.self.now.list.items ++ entry_bytes (entry n)) (c.len.ensures ∙ c.args.self.now.body.ok.0)) c.in_ok-put_padded.ensures
