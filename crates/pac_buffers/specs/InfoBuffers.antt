-- PAC_INFO_BUFFER (MS-PAC, section 2.4): ULONG ulType; ULONG cbBufferSize; ULONG64 Offset.
use Rattle.std.specs.Prelude.{ℕ, ◌+◌, ◌%◌, List, drop, Bool, not, ◌&&◌, nat_lt, nat_eq}
use Rattle.std.specs.Int.{w32, w64, from_le_bytes}
use Rattle.pac_buffers.specs.declared.info_buffer.InfoBuffer.{InfoBuffer}

-- the entry of 16 bytes
abbrev pub info_buffer : List ℕ → InfoBuffer
info_buffer raw = record {
  kind = from_le_bytes w32 raw;
  size = from_le_bytes w32 (drop 4 raw);
  offset = from_le_bytes w64 (drop 8 raw);
}

abbrev pub is_kind : ℕ → InfoBuffer → Bool
is_kind kind buffer = nat_eq buffer.kind kind

abbrev pub end_of : InfoBuffer → ℕ
end_of buffer = buffer.offset + buffer.size

-- the buffer ends behind this many bytes
abbrev pub leaves : ℕ → InfoBuffer → Bool
leaves len buffer = nat_lt len (end_of buffer)

abbrev pub is_misaligned : InfoBuffer → Bool
is_misaligned buffer = not (nat_eq (buffer.offset % 8) 0)

-- the buffer has a byte among the first len, which are the header's and the list's
abbrev pub meets_list : ℕ → InfoBuffer → Bool
meets_list len buffer = nat_lt 0 buffer.size && nat_lt buffer.offset len

-- a byte is in both buffers
abbrev pub share_byte : InfoBuffer → InfoBuffer → Bool
share_byte a b = nat_lt 0 a.size && nat_lt 0 b.size && nat_lt a.offset (end_of b) && nat_lt b.offset (end_of a)
