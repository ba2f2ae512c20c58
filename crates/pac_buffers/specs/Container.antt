-- PACTYPE (MS-PAC, section 2.3): ULONG cBuffers; ULONG Version; PAC_INFO_BUFFER Buffers[cBuffers]; and the buffers behind them.
use Rattle.std.specs.Prelude.{ℕ, ◌+◌, ◌*◌, List, [], ◌∷◌, ◌++◌, length, take, drop, Bool, false, ◌||◌, ◌&&◌, nat_le, Option, None, Some, if◌then◌else◌, option_map}
use Rattle.std.specs.List.{list_any, find}
use Rattle.std.specs.Int.{w32, from_le_bytes}
use Rattle.std.specs.Simd.{first_chunks}
use Rattle.pac_buffers.specs.declared.buffer_type.TheConstants.{LOGON_INFO, SERVER_CHECKSUM, PRIVSVR_CHECKSUM, CLIENT_INFO}
use Rattle.pac_buffers.specs.declared.refusal.PacRefusal.{PacRefusal}
use Rattle.pac_buffers.specs.declared.refusal.PacRefusal.TheVariants.{Truncated, Misaligned, Overlap, Twice, Missing}
use Rattle.pac_buffers.specs.declared.info_buffer.InfoBuffer.{InfoBuffer}
use Rattle.pac_buffers.specs.InfoBuffers.{info_buffer, is_kind, leaves, is_misaligned, meets_list, share_byte}

-- how many buffers are listed
abbrev pub count_of : List ℕ → ℕ
count_of bytes = from_le_bytes w32 bytes

-- how many bytes the header and the list of n buffers have
abbrev pub list_end : ℕ → ℕ
list_end n = 8 + 16 * n

-- the list, 16 bytes an entry
unfoldable pub list_of : List ℕ → List (List ℕ)
list_of bytes = first_chunks 16 (count_of bytes) (drop 8 bytes)

-- an entry passes the test
abbrev pub any_entry : (InfoBuffer → Bool) → List (List ℕ) → Bool
any_entry test list = list_any (λ raw. test (info_buffer raw)) list

abbrev pub has_kind : ℕ → List (List ℕ) → Bool
has_kind kind list = any_entry (is_kind kind) list

-- an entry has a byte in common with an earlier one
abbrev pub overlap : List (List ℕ) → List (List ℕ) → Bool
overlap earlier [] = false
overlap earlier (raw ∷ raws) = any_entry (share_byte (info_buffer raw)) earlier || overlap (earlier ++ raw ∷ []) raws

-- the first type that an entry has and an earlier one too
abbrev pub first_twice : List (List ℕ) → List (List ℕ) → Option ℕ
first_twice earlier [] = None
first_twice earlier (raw ∷ raws) = if has_kind (info_buffer raw).kind earlier then Some (info_buffer raw).kind else first_twice (earlier ++ raw ∷ []) raws

-- the first of these types that no entry has
abbrev pub first_missing : List ℕ → List (List ℕ) → Option ℕ
first_missing [] list = None
first_missing (kind ∷ kinds) list = if has_kind kind list then first_missing kinds list else Some kind

-- the types that each PAC has: logon information, server and KDC signature, client information
abbrev pub needed : List ℕ
needed = LOGON_INFO ∷ SERVER_CHECKSUM ∷ PRIVSVR_CHECKSUM ∷ CLIENT_INFO ∷ []

abbrev pub or_missing : Option ℕ → Option PacRefusal
or_missing None = None
or_missing (Some kind) = Some (Missing kind)

abbrev pub kinds_fault : Option ℕ → List (List ℕ) → Option PacRefusal
kinds_fault (Some kind) list = Some (Twice kind)
kinds_fault None list = or_missing (first_missing needed list)

-- the first fault of a list of a PAC of this many bytes
abbrev pub buffers_fault : ℕ → List (List ℕ) → Option PacRefusal
buffers_fault len list =
    if any_entry (leaves len) list then Some Truncated
    else if any_entry is_misaligned list then Some Misaligned
    else if any_entry (meets_list (list_end (length list))) list || overlap [] list then Some Overlap
    else kinds_fault (first_twice [] list) list

-- the header and the list lie in the bytes
abbrev pub is_listed : List ℕ → Bool
is_listed bytes = nat_le 8 (length bytes) && nat_le (list_end (count_of bytes)) (length bytes)

-- the first fault of a PAC
abbrev pub pac_fault : List ℕ → Option PacRefusal
pac_fault bytes = if is_listed bytes then buffers_fault (length bytes) (list_of bytes) else Some Truncated

-- the entry of a type
abbrev pub entry_of : ℕ → List ℕ → Option InfoBuffer
entry_of kind bytes = option_map info_buffer (find (λ raw. is_kind kind (info_buffer raw)) (list_of bytes))

-- the bytes that an entry names
abbrev pub slice_of : List ℕ → InfoBuffer → List ℕ
slice_of bytes buffer = take buffer.size (drop buffer.offset bytes)

-- the buffer of a type
abbrev pub buffer_of : ℕ → List ℕ → Option (List ℕ)
buffer_of kind bytes = option_map (slice_of bytes) (entry_of kind bytes)
