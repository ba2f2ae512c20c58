-- Where a buffer lies.
use Rattle.std.specs.Prelude.{ℕ}
use Rattle.std.specs.declared.ops.Range.{Range}
use Rattle.pac_buffers.specs.declared.info_buffer.InfoBuffer.{InfoBuffer}
use Rattle.pac_buffers.specs.InfoBuffers.{end_of}

-- from its first byte to the one behind its last
abbrev pub place_of : InfoBuffer → Range ℕ
place_of buffer = record { start = buffer.offset; end = end_of buffer }
