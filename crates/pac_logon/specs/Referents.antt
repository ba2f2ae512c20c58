-- What the members of KERB_VALIDATION_INFO point to, in their order (MS-PAC, section 2.5).
use Rattle.std.specs.Prelude.{ℕ, Bool, true, List, [], replicate}
use Rattle.std.specs.Int.{w32}
use Rattle.ndr_core.specs.Layout.{Layout, field, followed, mapped, pointed}
use Rattle.ndr_core.specs.Fields.{number, pointer}
use Rattle.ndr_core.specs.Arrays.{count, each, repeated}
use Rattle.krb_names.specs.SidValue.{SidValue}
use Rattle.ndr_values.specs.Sids.{rpc_sid}
use Rattle.ndr_values.specs.Texts.{text_of, octets_of}
use Rattle.pac_logon.specs.declared.members.ArrayHead.{ArrayHead}
use Rattle.pac_logon.specs.declared.members.NameHeads.{NameHeads}
use Rattle.pac_logon.specs.declared.members.DomainHeads.{DomainHeads}
use Rattle.pac_logon.specs.declared.members.ExtraHeads.{ExtraHeads}
use Rattle.pac_logon.specs.declared.members.Members.{Members}
use Rattle.pac_logon.specs.declared.logon_info.Subject4.{Subject4}

-- a value that is read past; this one is written
abbrev pub skipped : {X : Type 0} → Layout X → X → Layout (Unit {0})
skipped c x = mapped c (λ _. tt) (λ _. x)

-- the effective name, and past the other strings, which need not be UTF-16
unfoldable pub name_behind : NameHeads → Layout (List ℕ)
name_behind h =
    mapped (
    field (text_of h.effective_name) (
    field (octets_of h.full_name) (
    field (octets_of h.logon_script) (
    field (octets_of h.profile_path) (
    field (octets_of h.home_directory)
    (octets_of h.home_directory_drive))))))
    (λ (effective, (full, (script, (profile, (home, drive))))). effective)
    (λ name. (name, ([], ([], ([], ([], []))))))

-- GROUP_MEMBERSHIP (MS-PAC, section 2.2.2): ULONG RelativeId; ULONG Attributes. Written is that the group is mandatory, enabled and enabled by default (7).
unfoldable pub group : Layout ℕ
group = mapped (field (number w32) (number w32)) (λ (relative_id, attributes). relative_id) (λ relative_id. (relative_id, 7))

-- the numbers of an array of n groups
unfoldable pub group_array : ℕ → Layout (List ℕ)
group_array n = mapped (field (count n) (repeated n group)) (λ p. p.1) (λ groups. (n, groups))

abbrev pub groups_behind : ArrayHead → Layout (List ℕ)
groups_behind h = pointed h.there (group_array h.count) []

-- past the server's name to the domain's name, and the domain's SID, which leaves room for a number
unfoldable pub domain_behind : DomainHeads → Layout (List ℕ × SidValue)
domain_behind h =
    mapped (
    field (octets_of h.logon_server) (
    field (text_of h.logon_domain_name)
    (rpc_sid 14)))
    (λ p. p.1)
    (λ d. ([], d))

-- ---- what is read past

-- no SID: what is told of a null pointer
abbrev pub no_sid : SidValue
no_sid = record { authority = 0; numbers = [] }

-- past the SID that a pointer points to
unfoldable pub sid_past : Bool → Layout (Unit {0})
sid_past there = pointed there (skipped (rpc_sid 15) no_sid) tt

-- KERB_SID_AND_ATTRIBUTES (MS-PAC, section 2.2.1): PISID Sid; ULONG Attributes.
unfoldable pub sid_pointer : Layout Bool
sid_pointer = mapped (field pointer (number w32)) (λ (there, attributes). there) (λ there. (there, 7))

-- past n SIDs with attributes, and the SIDs that they point to
unfoldable pub listed_sids : ℕ → Layout (Unit {0})
listed_sids n =
    mapped (
    followed (repeated n sid_pointer) (λ there.
    skipped (each sid_past there) (replicate n tt)))
    (λ _. tt)
    (λ _. (replicate n true, tt))

-- the same behind the count of their array
unfoldable pub sid_array : ℕ → Layout (Unit {0})
sid_array n = mapped (field (count n) (listed_sids n)) (λ _. tt) (λ _. (n, tt))

-- past an array of n groups
unfoldable pub skipped_groups : ℕ → Layout (Unit {0})
skipped_groups n = mapped (field (count n) (skipped (repeated n group) (replicate n 0))) (λ _. tt) (λ _. (n, tt))

unfoldable pub extra_behind : ExtraHeads → Layout (Unit {0})
extra_behind h =
    mapped (
    field (pointed h.extra_sids.there (sid_array h.extra_sids.count) tt) (
    field (sid_past h.resource_group_domain_sid)
    (pointed h.resource_group_ids.there (skipped_groups h.resource_group_ids.count) tt)))
    (λ _. tt)
    (λ _. (tt, (tt, tt)))

-- ---- the subject

-- the subject of these members, and of what they point to
unfoldable pub subject_behind : Members → Layout Subject4
subject_behind m =
    mapped (
    field (name_behind m.names) (
    field (groups_behind m.account.group_ids) (
    field (domain_behind m.domain)
    (extra_behind m.extra))))
    (λ (name, (groups, (domain, past))). record { name = name; domain = domain.0; domain_sid = domain.1; number = m.account.user_id; control = m.user_account_control; groups = groups })
    (λ s. (s.name, (s.groups, ((s.domain, s.domain_sid), tt))))
