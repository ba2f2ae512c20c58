-- Security identifiers.
use Rattle.std.specs.Prelude.{ℕ, ◌∷◌, length, drop}
use Rattle.std.specs.Int.{w8, w32, w64, from_be_bytes, to_be_bytes}
use Rattle.ndr_core.specs.declared.refusal.NdrCause.TheVariants.{BadCount}
use Rattle.ndr_core.specs.Layout.{Layout, field, followed, mapped}
use Rattle.ndr_core.specs.Fields.{number, within, exactly, raw}
use Rattle.ndr_core.specs.Arrays.{repeated}
use Rattle.krb_names.specs.SidValue.{SidValue}

-- IdentifierAuthority: six bytes, the highest first
abbrev pub authority : Layout ℕ
authority = mapped (raw 6) (λ bytes. from_be_bytes w64 (0 ∷ 0 ∷ bytes)) (λ n. drop 2 (to_be_bytes w64 n))

-- IdentifierAuthority, and n SubAuthority
abbrev pub sid_body : ℕ → Layout SidValue
sid_body n = mapped (field authority (repeated n (number w32))) (λ p. record { authority = p.0; numbers = p.1 }) (λ s. (s.authority, s.numbers))

-- SID (MS-DTYP, section 2.4.2.2): UCHAR Revision; UCHAR SubAuthorityCount; SID_IDENTIFIER_AUTHORITY IdentifierAuthority; ULONG SubAuthority[SubAuthorityCount]
abbrev pub packed_sid : Layout SidValue
packed_sid =
    mapped (
    field (exactly w8 1 BadCount) (
    followed (within w8 1 15 BadCount) (λ n.
    sid_body n)))
    (λ p. p.1.1)
    (λ s. (1, (length s.numbers, s)))

-- RPC_SID (MS-DTYP, section 2.4.2.3): the same behind the count of its array, which is at most most
abbrev pub rpc_sid : ℕ → Layout SidValue
rpc_sid most =
    mapped (
    followed (within w32 1 most BadCount) (λ n.
    field (exactly w8 1 BadCount) (
    field (exactly w8 n BadCount) (
    sid_body n))))
    (λ p. p.1.1.1)
    (λ s. (length s.numbers, (1, (length s.numbers, s))))
