-- S4U_DELEGATION_INFO (MS-PAC, section 2.9): RPC_UNICODE_STRING S4U2proxyTarget; ULONG TransitedListSize; [size_is(TransitedListSize)] PRPC_UNICODE_STRING S4UTransitedServices.
use Rattle.std.specs.Prelude.{ℕ, Bool, not, nat_eq, List, [], length, map}
use Rattle.std.specs.Int.{w32}
use Rattle.ndr_core.specs.declared.refusal.NdrCause.TheVariants.{TooMany}
use Rattle.ndr_core.specs.Layout.{Layout, field, followed, mapped, pointed}
use Rattle.ndr_core.specs.Fields.{within, pointer_to}
use Rattle.ndr_core.specs.Arrays.{count, each, repeated}
use Rattle.ndr_values.specs.declared.text.StringHead.{StringHead}
use Rattle.ndr_values.specs.Texts.{string_head, text_of, head_of}
use Rattle.pac_buffers.specs.declared.delegation_info.DelegationInfo.{DelegationInfo}

-- the structure itself; at most 32 services
abbrev pub fixed : Layout (StringHead × (ℕ × Bool))
fixed = field string_head (followed (within w32 0 32 TooMany) (λ n. pointer_to n))

-- the array of n strings, and the texts that they point to
abbrev pub listed : ℕ → Layout (List (List ℕ))
listed n =
    mapped (followed (count n) (λ _. followed (repeated n string_head) (λ heads. each text_of heads)))
    (λ p. p.1.1)
    (λ texts. (length texts, (map head_of texts, texts)))

-- how the structure itself is written
abbrev pub fixed_of : DelegationInfo → StringHead × (ℕ × Bool)
fixed_of d = (head_of d.target, (length d.services, not (nat_eq (length d.services) 0)))

abbrev pub delegation : Layout DelegationInfo
delegation =
    mapped (followed fixed (λ f. field (text_of f.0) (pointed f.1.1 (listed f.1.0) [])))
    (λ p. record { target = p.1.0; services = p.1.1 })
    (λ d. (fixed_of d, (d.target, d.services)))
