-- Bytes that buffers have in common.
use Rattle.std.specs.Prelude.{ℕ, List, [], ◌∷◌, ◌++◌, Bool, false, ◌&&◌, ◌||◌, nat_le, nat_lt}
use Rattle.pac_buffers.specs.declared.info_buffer.InfoBuffer.{InfoBuffer}
use Rattle.pac_buffers.specs.InfoBuffers.{info_buffer, end_of}
use Rattle.pac_buffers.specs.Container.{any_entry}

-- the buffer has the byte at this place
abbrev pub has_byte : ℕ → InfoBuffer → Bool
has_byte place buffer = nat_le buffer.offset place && nat_lt place (end_of buffer)

-- an entry has the byte at this place, and an earlier one too
abbrev pub is_shared : ℕ → List (List ℕ) → List (List ℕ) → Bool
is_shared place earlier [] = false
is_shared place earlier (raw ∷ raws) = (has_byte place (info_buffer raw) && any_entry (has_byte place) earlier) || is_shared place (earlier ++ raw ∷ []) raws
