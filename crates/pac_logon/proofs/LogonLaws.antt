-- The layouts of logon information are lawful.
use Rattle.std.proofs.Common.{ℕ, Bool, true, [], replicate}
use Rattle.ndr_core.specs.Laws.{IsLayout}
use Rattle.ndr_core.specs.Layout.{Layout}
use Rattle.ndr_core.proofs.LayoutLaws.{field_lawful, followed_lawful, mapped_lawful, pointed_lawful}
use Rattle.ndr_core.proofs.FieldLaws.{raw_lawful, number16_lawful, number32_lawful, pointer_lawful, pointer_to_lawful}
use Rattle.ndr_core.proofs.ArrayLaws.{count_lawful, each_lawful, repeated_lawful}
use Rattle.ndr_values.proofs.SidLaws.{rpc_sid_lawful}
use Rattle.ndr_values.proofs.TextLaws.{string_head_lawful, text_of_lawful, octets_of_lawful}
use Rattle.pac_logon.specs.declared.members.ArrayHead.{ArrayHead}
use Rattle.pac_logon.specs.declared.members.NameHeads.{NameHeads}
use Rattle.pac_logon.specs.declared.members.DomainHeads.{DomainHeads}
use Rattle.pac_logon.specs.declared.members.ExtraHeads.{ExtraHeads}
use Rattle.pac_logon.specs.declared.members.Members.{Members}
use Rattle.pac_logon.specs.Members.{filetime, logon_times, name_heads, array_head, account_heads, domain_heads, control_fields, extra_heads, members}
use Rattle.pac_logon.specs.Referents.{skipped, name_behind, group, group_array, groups_behind, domain_behind, no_sid, sid_past, sid_pointer, listed_sids, sid_array, skipped_groups, extra_behind, subject_behind}
use Rattle.pac_logon.specs.Logon.{logon}

-- ---- members

filetime_lawful : IsLayout filetime
unfolding filetime
filetime_lawful = mapped_lawful _ _ _ (field_lawful _ _ number32_lawful number32_lawful)

times_lawful : IsLayout logon_times
unfolding logon_times
times_lawful =
    mapped_lawful _ _ _ (
    field_lawful _ _ filetime_lawful (
    field_lawful _ _ filetime_lawful (
    field_lawful _ _ filetime_lawful (
    field_lawful _ _ filetime_lawful (
    field_lawful _ _ filetime_lawful filetime_lawful)))))

names_lawful : IsLayout name_heads
unfolding name_heads
names_lawful =
    mapped_lawful _ _ _ (
    field_lawful _ _ string_head_lawful (
    field_lawful _ _ string_head_lawful (
    field_lawful _ _ string_head_lawful (
    field_lawful _ _ string_head_lawful (
    field_lawful _ _ string_head_lawful string_head_lawful)))))

array_lawful : IsLayout array_head
unfolding array_head
array_lawful = mapped_lawful _ _ _ (followed_lawful _ _ number32_lawful (λ n. pointer_to_lawful n))

account_lawful : IsLayout account_heads
unfolding account_heads
account_lawful =
    mapped_lawful _ _ _ (
    field_lawful _ _ number16_lawful (
    field_lawful _ _ number16_lawful (
    field_lawful _ _ number32_lawful (
    field_lawful _ _ number32_lawful (
    field_lawful _ _ array_lawful (
    field_lawful _ _ number32_lawful (raw_lawful 16)))))))

domain_lawful : IsLayout domain_heads
unfolding domain_heads
domain_lawful = mapped_lawful _ _ (λ (d : DomainHeads). (d.logon_server, (d.logon_domain_name, true))) (field_lawful _ _ string_head_lawful (field_lawful _ _ string_head_lawful (pointer_to_lawful 1)))

control_lawful : IsLayout control_fields
unfolding control_fields
control_lawful =
    mapped_lawful _ _ _ (
    field_lawful _ _ number32_lawful (
    field_lawful _ _ number32_lawful (
    field_lawful _ _ number32_lawful (
    field_lawful _ _ number32_lawful (
    field_lawful _ _ filetime_lawful (
    field_lawful _ _ filetime_lawful (
    field_lawful _ _ number32_lawful number32_lawful)))))))

extra_lawful : IsLayout extra_heads
unfolding extra_heads
extra_lawful = mapped_lawful _ _ _ (field_lawful _ _ array_lawful (field_lawful _ _ pointer_lawful array_lawful))

members_lawful : IsLayout members
unfolding members
members_lawful =
    mapped_lawful _ _ _ (
    field_lawful _ _ times_lawful (
    field_lawful _ _ names_lawful (
    field_lawful _ _ account_lawful (
    field_lawful _ _ domain_lawful (
    field_lawful _ _ control_lawful extra_lawful)))))

-- ---- what they point to

skipped_lawful : {X : Type 0} (c : Layout X) (x : X) → IsLayout c → IsLayout (skipped c x)
skipped_lawful c x lawful = mapped_lawful c _ _ lawful

name_behind_lawful : (h : NameHeads) → IsLayout (name_behind h)
unfolding name_behind
name_behind_lawful h =
    mapped_lawful _ _ _ (
    field_lawful _ _ (text_of_lawful h.effective_name) (
    field_lawful _ _ (octets_of_lawful h.full_name) (
    field_lawful _ _ (octets_of_lawful h.logon_script) (
    field_lawful _ _ (octets_of_lawful h.profile_path) (
    field_lawful _ _ (octets_of_lawful h.home_directory) (octets_of_lawful h.home_directory_drive))))))

group_lawful : IsLayout group
unfolding group
group_lawful = mapped_lawful _ _ _ (field_lawful _ _ number32_lawful number32_lawful)

group_array_lawful : (n : ℕ) → IsLayout (group_array n)
unfolding group_array
group_array_lawful n = mapped_lawful _ _ _ (field_lawful _ _ (count_lawful n) (repeated_lawful n group group_lawful))

groups_behind_lawful : (h : ArrayHead) → IsLayout (groups_behind h)
groups_behind_lawful h = pointed_lawful h.there (group_array h.count) [] (group_array_lawful h.count)

domain_behind_lawful : (h : DomainHeads) → IsLayout (domain_behind h)
unfolding domain_behind
domain_behind_lawful h = mapped_lawful _ _ _ (field_lawful _ _ (octets_of_lawful h.logon_server) (field_lawful _ _ (text_of_lawful h.logon_domain_name) (rpc_sid_lawful 14)))

sid_past_lawful : (there : Bool) → IsLayout (sid_past there)
unfolding sid_past
sid_past_lawful there = pointed_lawful there _ tt (skipped_lawful _ no_sid (rpc_sid_lawful 15))

sid_pointer_lawful : IsLayout sid_pointer
unfolding sid_pointer
sid_pointer_lawful = mapped_lawful _ _ _ (field_lawful _ _ pointer_lawful number32_lawful)

listed_sids_lawful : (n : ℕ) → IsLayout (listed_sids n)
unfolding listed_sids
listed_sids_lawful n = mapped_lawful _ _ _ (followed_lawful _ _ (repeated_lawful n sid_pointer sid_pointer_lawful) (λ there. skipped_lawful _ (replicate n tt) (each_lawful sid_past there sid_past_lawful)))

sid_array_lawful : (n : ℕ) → IsLayout (sid_array n)
unfolding sid_array
sid_array_lawful n = mapped_lawful _ _ _ (field_lawful _ _ (count_lawful n) (listed_sids_lawful n))

skipped_groups_lawful : (n : ℕ) → IsLayout (skipped_groups n)
unfolding skipped_groups
skipped_groups_lawful n = mapped_lawful _ _ _ (field_lawful _ _ (count_lawful n) (skipped_lawful _ _ (repeated_lawful n group group_lawful)))

extra_behind_lawful : (h : ExtraHeads) → IsLayout (extra_behind h)
unfolding extra_behind
extra_behind_lawful h =
    mapped_lawful _ _ _ (
    field_lawful _ _ (pointed_lawful h.extra_sids.there _ tt (sid_array_lawful h.extra_sids.count)) (
    field_lawful _ _ (sid_past_lawful h.resource_group_domain_sid)
    (pointed_lawful h.resource_group_ids.there _ tt (skipped_groups_lawful h.resource_group_ids.count))))

subject_behind_lawful : (m : Members) → IsLayout (subject_behind m)
unfolding subject_behind
subject_behind_lawful m =
    mapped_lawful _ _ _ (
    field_lawful _ _ (name_behind_lawful m.names) (
    field_lawful _ _ (groups_behind_lawful m.account.group_ids) (
    field_lawful _ _ (domain_behind_lawful m.domain) (extra_behind_lawful m.extra))))

pub logon_lawful : IsLayout logon
logon_lawful = mapped_lawful _ _ _ (followed_lawful members _ members_lawful subject_behind_lawful)
