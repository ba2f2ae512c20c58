-- KERB_VALIDATION_INFO (MS-PAC, section 2.5): its members, in order. What they point to stands behind them.
use Rattle.std.specs.Prelude.{ℕ, ◌+◌, ◌-◌, ◌*◌, ◌/◌, ◌%◌, ◌^◌, true, false, not, nat_eq, List, [], length, replicate}
use Rattle.std.specs.Int.{w16, w32}
use Rattle.ndr_core.specs.Layout.{Layout, field, followed, mapped}
use Rattle.ndr_core.specs.Fields.{number, raw, pointer, pointer_to}
use Rattle.ndr_values.specs.declared.text.StringHead.{StringHead}
use Rattle.ndr_values.specs.Texts.{string_head, head_of}
use Rattle.pac_logon.specs.declared.members.ArrayHead.{ArrayHead}
use Rattle.pac_logon.specs.declared.members.NameHeads.{NameHeads}
use Rattle.pac_logon.specs.declared.members.AccountHeads.{AccountHeads}
use Rattle.pac_logon.specs.declared.members.DomainHeads.{DomainHeads}
use Rattle.pac_logon.specs.declared.members.ExtraHeads.{ExtraHeads}
use Rattle.pac_logon.specs.declared.members.Members.{Members}

-- FILETIME (MS-DTYP, section 2.3.3): DWORD dwLowDateTime; DWORD dwHighDateTime.
unfoldable pub filetime : Layout ℕ
filetime = mapped (field (number w32) (number w32)) (λ p. p.0 + p.1 * 2 ^ 32) (λ t. (t % 2 ^ 32, t / 2 ^ 32))

-- a time that never comes
abbrev pub never : ℕ
never = 2 ^ 63 - 1

-- FILETIME LogonTime; FILETIME LogoffTime; FILETIME KickOffTime; FILETIME PasswordLastSet; FILETIME PasswordCanChange; FILETIME PasswordMustChange.
unfoldable pub logon_times : Layout ℕ
logon_times =
    mapped (field filetime (field filetime (field filetime (field filetime (field filetime filetime)))))
    (λ (logon, (logoff, (kick_off, (last_set, (can_change, must_change))))). logon)
    (λ logon. (logon, (never, (never, (0, (0, never))))))

-- RPC_UNICODE_STRING EffectiveName; RPC_UNICODE_STRING FullName; RPC_UNICODE_STRING LogonScript; RPC_UNICODE_STRING ProfilePath; RPC_UNICODE_STRING HomeDirectory; RPC_UNICODE_STRING HomeDirectoryDrive.
unfoldable pub name_heads : Layout NameHeads
name_heads =
    mapped (field string_head (field string_head (field string_head (field string_head (field string_head string_head)))))
    (λ (effective, (full, (script, (profile, (home, drive))))). record { effective_name = effective; full_name = full; logon_script = script; profile_path = profile; home_directory = home; home_directory_drive = drive })
    (λ n. (n.effective_name, (n.full_name, (n.logon_script, (n.profile_path, (n.home_directory, n.home_directory_drive))))))

-- a count, and a pointer to an array of so many elements
unfoldable pub array_head : Layout ArrayHead
array_head = mapped (followed (number w32) (λ count. pointer_to count)) (λ (count, there). record { count = count; there = there }) (λ h. (h.count, h.there))

-- USHORT LogonCount; USHORT BadPasswordCount; ULONG UserId; ULONG PrimaryGroupId; ULONG GroupCount; [size_is(GroupCount)] PGROUP_MEMBERSHIP GroupIds; ULONG UserFlags; USER_SESSION_KEY UserSessionKey.
-- The primary group is written as 513, the domain's users.
unfoldable pub account_heads : Layout AccountHeads
account_heads =
    mapped (field (number w16) (field (number w16) (field (number w32) (field (number w32) (field array_head (field (number w32) (raw 16)))))))
    (λ (logons, (bad_passwords, (user, (primary_group, (groups, (flags, session_key)))))). record { user_id = user; group_ids = groups })
    (λ a. (0, (0, (a.user_id, (513, (a.group_ids, (0, replicate 16 0)))))))

-- RPC_UNICODE_STRING LogonServer; RPC_UNICODE_STRING LogonDomainName; PISID LogonDomainId, which is not null.
unfoldable pub domain_heads : Layout DomainHeads
domain_heads =
    mapped (field string_head (field string_head (pointer_to 1)))
    (λ (server, (name, there)). record { logon_server = server; logon_domain_name = name })
    (λ d. (d.logon_server, (d.logon_domain_name, true)))

-- ULONG Reserved1[2]; ULONG UserAccountControl; ULONG SubAuthStatus; FILETIME LastSuccessfulILogon; FILETIME LastFailedILogon; ULONG FailedILogonCount; ULONG Reserved3.
unfoldable pub control_fields : Layout ℕ
control_fields =
    mapped (field (number w32) (field (number w32) (field (number w32) (field (number w32) (field filetime (field filetime (field (number w32) (number w32))))))))
    (λ (reserved, (more_reserved, (control, (status, (last_logon, (last_failed, (failed, reserved_3))))))). control)
    (λ control. (0, (0, (control, (0, (0, (0, (0, 0))))))))

-- ULONG SidCount; [size_is(SidCount)] PKERB_SID_AND_ATTRIBUTES ExtraSids; PISID ResourceGroupDomainSid; ULONG ResourceGroupCount; [size_is(ResourceGroupCount)] PGROUP_MEMBERSHIP ResourceGroupIds.
unfoldable pub extra_heads : Layout ExtraHeads
extra_heads =
    mapped (field array_head (field pointer array_head))
    (λ (sids, (domain_sid, groups)). record { extra_sids = sids; resource_group_domain_sid = domain_sid; resource_group_ids = groups })
    (λ e. (e.extra_sids, (e.resource_group_domain_sid, e.resource_group_ids)))

unfoldable pub members : Layout Members
members =
    mapped (field logon_times (field name_heads (field account_heads (field domain_heads (field control_fields extra_heads)))))
    (λ (time, (names, (account, (domain, (control, extra))))). record { logon_time = time; names = names; account = account; domain = domain; user_account_control = control; extra = extra })
    (λ m. (m.logon_time, (m.names, (m.account, (m.domain, (m.user_account_control, m.extra))))))

-- ---- how they are written

-- an empty string
abbrev pub no_string : StringHead
no_string = record { len = 0; there = false }

-- no elements are written as a null pointer
abbrev pub array_of : List ℕ → ArrayHead
array_of elements = record { count = length elements; there = not (nat_eq (length elements) 0) }

abbrev pub names_of : List ℕ → NameHeads
names_of name = record { effective_name = head_of name; full_name = no_string; logon_script = no_string; profile_path = no_string; home_directory = no_string; home_directory_drive = no_string }

abbrev pub account_heads_of : ℕ → List ℕ → AccountHeads
account_heads_of number groups = record { user_id = number; group_ids = array_of groups }

abbrev pub domain_heads_of : List ℕ → DomainHeads
domain_heads_of name = record { logon_server = no_string; logon_domain_name = head_of name }

abbrev pub no_extra : ExtraHeads
no_extra = record { extra_sids = array_of []; resource_group_domain_sid = false; resource_group_ids = array_of [] }
