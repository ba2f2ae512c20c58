-- A PAC that is being put together.
use Rattle.std.specs.Prelude.{◌≡◌, ℕ, List, ◌++◌}
use Rattle.std.specs.List.{flat_map}
use Rattle.pac_buffers.specs.declared.draft.Draft.{Draft}
use Rattle.pac_buffers.specs.Container.{list_end}
use Rattle.pac_buffers.specs.Buffers.{Buffer, placed, entry_bytes, header, contents}

-- the buffers so far, of so many
pub record Holds (draft : Draft) (count : ℕ) (bs : List Buffer) : Type 0 where
  pub start : draft.start ≡ list_end count
  pub list : draft.list.items ≡ header count ++ flat_map entry_bytes (placed (list_end count) bs)
  pub body : draft.body.items ≡ contents bs
