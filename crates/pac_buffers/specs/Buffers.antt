-- A PAC from its buffers (MS-PAC, sections 2.3 and 2.4): the header, the list, and the buffers behind it, each at the next multiple of 8 with zeros between.
use Rattle.std.specs.Prelude.{◌≡◌, ℕ, ◌+◌, ◌<◌, ◌^◌, ℤ, List, [], ◌∷◌, ◌++◌, length, take, map, replicate, Bool, true, not, ◌||◌, nat_eq, nat_lt, Option, None, Some, option_map, if◌then◌else◌}
use Rattle.std.specs.List.{flat_map, find, list_any, list_all}
use Rattle.std.specs.Int.{w32, w64, to_le_bytes}
use Rattle.kdc_prelude.specs.Distinct.{all_distinct}
use Rattle.ndr_core.specs.Object.{padded}
use Rattle.pac_buffers.specs.declared.buffer_type.TheConstants.{LOGON_INFO, SERVER_CHECKSUM, PRIVSVR_CHECKSUM, CLIENT_INFO, DELEGATION_INFO, TICKET_CHECKSUM}
use Rattle.pac_buffers.specs.declared.info_buffer.InfoBuffer.{InfoBuffer}
use Rattle.pac_buffers.specs.InfoBuffers.{info_buffer}
use Rattle.pac_buffers.specs.Container.{list_end, list_of, needed, slice_of}
use Rattle.pac_buffers.specs.Signature.{natural}

-- a buffer: its type and its bytes
pub record Buffer : Type 0 where
  pub kind : ℕ
  pub content : List ℕ

-- the entries of buffers of which the first starts here
abbrev pub placed : ℕ → List Buffer → List InfoBuffer
placed at [] = []
placed at (b ∷ bs) = record { kind = b.kind; size = length b.content; offset = at } ∷ placed (at + length (padded b.content)) bs

-- the 16 bytes of an entry
abbrev pub entry_bytes : InfoBuffer → List ℕ
entry_bytes e = to_le_bytes w32 e.kind ++ (to_le_bytes w32 e.size ++ to_le_bytes w64 e.offset)

-- how many buffers, and version 0
abbrev pub header : ℕ → List ℕ
header n = to_le_bytes w32 n ++ to_le_bytes w32 0

-- the buffers, with zeros behind each up to the next multiple of 8
abbrev pub contents : List Buffer → List ℕ
contents bs = flat_map (λ b. padded b.content) bs

-- the bytes of a PAC of these buffers
unfoldable pub pac : List Buffer → List ℕ
pac bs = (header (length bs) ++ flat_map entry_bytes (placed (list_end (length bs)) bs)) ++ contents bs

-- the bytes of the buffer of a type
abbrev pub content_of : ℕ → List Buffer → Option (List ℕ)
content_of kind bs = option_map (λ b. b.content) (find (λ b. nat_eq b.kind kind) bs)

-- ---- the buffers that are built

-- a signature buffer: the type of its checksum, and 12 zeros in the place of the checksum
abbrev pub unsigned : ℕ → ℤ → Buffer
unsigned kind sum_type = record { kind = kind; content = to_le_bytes w32 (natural sum_type) ++ replicate 12 0 }

abbrev pub if_there : ℕ → Option (List ℕ) → List Buffer
if_there kind None = []
if_there kind (Some content) = record { kind = kind; content = content } ∷ []

-- logon information, client information, delegation information, server signature, KDC signature, ticket signature
abbrev pub built : List ℕ → List ℕ → Option (List ℕ) → Bool → ℤ → ℤ → List Buffer
built logon client delegation ticket server_type realm_type =
    record { kind = LOGON_INFO; content = logon } ∷ record { kind = CLIENT_INFO; content = client } ∷ (if_there DELEGATION_INFO delegation
    ++ (unsigned SERVER_CHECKSUM server_type ∷ unsigned PRIVSVR_CHECKSUM realm_type ∷ (if ticket then unsigned TICKET_CHECKSUM realm_type ∷ [] else [])))

-- how many bytes a buffer has that may be absent
abbrev pub size_of : Option (List ℕ) → ℕ
size_of None = 0
size_of (Some content) = length content

-- ---- signatures

-- the types of signature buffers
abbrev pub is_signature : ℕ → Bool
is_signature kind = nat_eq kind SERVER_CHECKSUM || nat_eq kind PRIVSVR_CHECKSUM || nat_eq kind TICKET_CHECKSUM

abbrev pub with_value : ℕ → List ℕ → Buffer → Buffer
with_value kind sum b = if nat_eq b.kind kind then record { kind = b.kind; content = take 4 b.content ++ sum } else b

-- the same buffers with this checksum in the signature of this type
abbrev pub with_sum : ℕ → List ℕ → List Buffer → List Buffer
with_sum kind sum bs = map (with_value kind sum) bs

-- ---- what is kept

abbrev pub has_buffer : ℕ → List Buffer → Bool
has_buffer kind bs = list_any (λ b. nat_eq b.kind kind) bs

abbrev pub is_whole : Buffer → Bool
is_whole b = not (is_signature b.kind) || nat_eq (length b.content) 16

-- the types are distinct, those that each PAC has are there, a signature has 16 bytes, and places fit in 32 bits
pub record IsSound (bs : List Buffer) : Type 0 where
  pub short : length (pac bs) < 2 ^ 32
  pub small : list_all (λ b. nat_lt b.kind (2 ^ 32)) bs ≡ true
  pub distinct : all_distinct nat_eq (map (λ b. b.kind) bs) ≡ true
  pub needed : list_all (λ kind. has_buffer kind bs) needed ≡ true
  pub signed : list_all is_whole bs ≡ true

-- the buffers that the bytes of a PAC list
unfoldable pub buffers_of : List ℕ → List Buffer
buffers_of bytes = map (λ e. record { kind = e.kind; content = slice_of bytes e }) (map info_buffer (list_of bytes))
