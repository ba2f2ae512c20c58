use Rattle.pac_buffers.proofs.Drafts.{joined}
use Rattle.pac_buffers.proofs.draft.put_entry.Goals as goal

pub returns : goal.returns
returns c =
    joined _ _ _ _ _ _ _ _ _ _ c.in_ok-extend_from_slice.ensures.items c.in_ok-extend_from_slice-2.ensures.items c.in_ok-extend_from_slice-3.ensures.items c.to_le_bytes.ensures c.to_le_bytes-2.ensures c.to_le_bytes-3.ensures
