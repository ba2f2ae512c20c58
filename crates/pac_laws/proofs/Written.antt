-- The contents of a PAC are written as bytes, and as few.
use Rattle.std.proofs.Common.{◌≡◌, ℕ, ◌+◌, ◌-◌, ◌*◌, ◌/◌, ◌%◌, ◌<◌, ◌≤◌, ◌^◌, ◌⊎◌, ℤ, pos, Bool, true, false, not, eqb, List, [], ◌∷◌, ◌++◌, length, drop, map, replicate, Option, Some, None, Ok, refl, ap, ◌∙◌, length-append, arith}
use Rattle.std.specs.Prelude.{All, IfSome, option_map}
use Rattle.std.specs.Int.{w16, w32, to_le_bytes}
use Rattle.std.proofs.lemmas.Bool.{eq-eqb}
use Rattle.std.proofs.lemmas.List.{length-drop, length-replicate}
use Rattle.std.proofs.lemmas.List.Elements.{All-weaker}
use Rattle.krb_names.specs.SidValue.{SidValue}
use Rattle.krb_names.specs.Utf16.{utf16le_text}
use Rattle.krb_names.proofs.Units.{text_back}
use Rattle.ndr_core.specs.Laws.{IsBytes}
use Rattle.ndr_core.specs.Fields.{gap, raw}
use Rattle.ndr_core.specs.Object.{begun, blank, header_bytes, padded, finished, object, spelling, packed, packed_spelling}
use Rattle.ndr_values.specs.Texts.{string_head, text_of, head_of}
use Rattle.ndr_values.proofs.TextLaws.{text_of_fits}
use Rattle.pac_logon.specs.declared.members.ArrayHead.{ArrayHead}
use Rattle.pac_logon.specs.declared.members.NameHeads.{NameHeads}
use Rattle.pac_logon.specs.declared.members.AccountHeads.{AccountHeads}
use Rattle.pac_logon.specs.declared.members.DomainHeads.{DomainHeads}
use Rattle.pac_logon.specs.declared.members.ExtraHeads.{ExtraHeads}
use Rattle.pac_logon.specs.declared.members.Members.{Members}
use Rattle.pac_logon.specs.declared.logon_info.LogonInfo.{LogonInfo}
use Rattle.pac_logon.specs.Members.{filetime, never, logon_times, name_heads, array_head, account_heads, domain_heads, control_fields, extra_heads, members, array_of, names_of, domain_heads_of}
use Rattle.pac_logon.specs.Referents.{name_behind, group, group_array, groups_behind, domain_behind, sid_past, extra_behind, subject_behind}
use Rattle.pac_logon.specs.Logon.{logon, members_of, IsNdrText, IsWritable}
use Rattle.pac_logon.proofs.Sizes.{logon_most}
use Rattle.pac_buffers.specs.declared.client_info.ClientInfo.{ClientInfo}
use Rattle.pac_buffers.specs.declared.delegation_info.DelegationInfo.{DelegationInfo}
use Rattle.pac_buffers.specs.declared.signature_data.SignatureData.{SignatureData}
use Rattle.pac_buffers.specs.Client.{client}
use Rattle.pac_buffers.specs.Delegation.{fixed, fixed_of, listed, delegation}
use Rattle.pac_buffers.specs.Signature.{signature, natural, front_of}
use Rattle.pac_buffers.specs.Container.{list_end}
use Rattle.pac_buffers.specs.Buffers.{Buffer, contents, pac, built, unsigned, with_value}
use Rattle.pac_buffers.proofs.Entries.{length-contents, length-padded, length-pac}
use Rattle.pac_buffers.proofs.InfoFits.{client_again, delegation_again, signature_again}
use Rattle.pac_buffers.proofs.Sizes.{client_most, delegation_most}
use Rattle.pac_laws.specs.Writable.{IsWritableClient, IsWritableDelegation}
use Rattle.pac_laws.proofs.Bytes.{KeepsBytes, IsBytes-nil, IsBytes-zeros, IsBytes-utf16, number_keeps, raw_keeps, pointer_keeps, alike, beside, pointed_keeps, each_keeps, repeated_keeps, string_head_keeps, text_keeps, texts_keep, sid_keeps, finished_keeps, begun_bytes}

-- ---- the members of logon information

filetime_keeps : (t : ℕ) → KeepsBytes filetime t
unfolding filetime
filetime_keeps t = alike _ t (beside (number_keeps w32 _) (number_keeps w32 _)) (λ old. refl)

times_keep : (t : ℕ) → KeepsBytes logon_times t
unfolding logon_times
times_keep t =
    alike _ t (
    beside (filetime_keeps t) (
    beside (filetime_keeps never) (
    beside (filetime_keeps never) (
    beside (filetime_keeps 0) (
    beside (filetime_keeps 0) (filetime_keeps never)))))) (λ old. refl)

names_keep : (h : NameHeads) → KeepsBytes name_heads h
unfolding name_heads
names_keep h =
    alike _ h (
    beside (string_head_keeps h.effective_name) (
    beside (string_head_keeps h.full_name) (
    beside (string_head_keeps h.logon_script) (
    beside (string_head_keeps h.profile_path) (
    beside (string_head_keeps h.home_directory) (string_head_keeps h.home_directory_drive)))))) (λ old. refl)

array_keeps : (h : ArrayHead) → KeepsBytes array_head h
unfolding array_head
array_keeps h = alike _ h (beside (number_keeps w32 h.count) (pointer_keeps h.there)) (λ old. refl)

account_keeps : (h : AccountHeads) → KeepsBytes account_heads h
unfolding account_heads
account_keeps h =
    alike _ h (
    beside (number_keeps w16 0) (
    beside (number_keeps w16 0) (
    beside (number_keeps w32 h.user_id) (
    beside (number_keeps w32 513) (
    beside (array_keeps h.group_ids) (
    beside (number_keeps w32 0) (raw_keeps 16 (replicate 16 0) (IsBytes-zeros 16)))))))) (λ old. refl)

domain_keeps : (h : DomainHeads) → KeepsBytes domain_heads h
unfolding domain_heads
domain_keeps h =
    alike _ h (
    beside (string_head_keeps h.logon_server) (
    beside (string_head_keeps h.logon_domain_name) (pointer_keeps true))) (λ old. refl)

control_keeps : (n : ℕ) → KeepsBytes control_fields n
unfolding control_fields
control_keeps n =
    alike _ n (
    beside (number_keeps w32 0) (
    beside (number_keeps w32 0) (
    beside (number_keeps w32 n) (
    beside (number_keeps w32 0) (
    beside (filetime_keeps 0) (
    beside (filetime_keeps 0) (
    beside (number_keeps w32 0) (number_keeps w32 0)))))))) (λ old. refl)

extra_keeps : (h : ExtraHeads) → KeepsBytes extra_heads h
unfolding extra_heads
extra_keeps h =
    alike _ h (
    beside (array_keeps h.extra_sids) (
    beside (pointer_keeps h.resource_group_domain_sid) (array_keeps h.resource_group_ids))) (λ old. refl)

members_keep : (m : Members) → KeepsBytes members m
unfolding members
members_keep m =
    alike _ m (
    beside (times_keep m.logon_time) (
    beside (names_keep m.names) (
    beside (account_keeps m.account) (
    beside (domain_keeps m.domain) (
    beside (control_keeps m.user_account_control) (extra_keeps m.extra)))))) (λ old. refl)

-- ---- what they point to

name_keeps : (name : List ℕ) → IsNdrText name → KeepsBytes (name_behind (names_of name)) name
unfolding name_behind
name_keeps name h = alike _ name (text_keeps name h.utf8) (λ old. refl)

group_keeps : (n : ℕ) → KeepsBytes group n
unfolding group
group_keeps n = alike _ n (beside (number_keeps w32 n) (number_keeps w32 7)) (λ old. refl)

group_array_keeps : (groups : List ℕ) → KeepsBytes (group_array (length groups)) groups
unfolding group_array
group_array_keeps groups = alike _ groups (beside (number_keeps w32 (length groups)) (repeated_keeps (length groups) group groups group_keeps)) (λ old. refl)

groups_keep : (groups : List ℕ) → KeepsBytes (groups_behind (array_of groups)) groups
groups_keep groups = pointed_keeps (array_of groups).there (group_array (length groups)) [] groups (group_array_keeps groups)

domain_behind_keeps : (name : List ℕ) (sid : SidValue) → IsNdrText name → KeepsBytes (domain_behind (domain_heads_of name)) (name, sid)
unfolding domain_behind
domain_behind_keeps name sid h = alike _ (name, sid) (beside (text_keeps name h.utf8) (sid_keeps 14 sid)) (λ old. refl)

subject_keeps : (info : LogonInfo) → IsWritable info → KeepsBytes (subject_behind (members_of info)) info.subject
unfolding subject_behind extra_behind sid_past
subject_keeps info h =
    alike _ info.subject (
    beside (name_keeps info.subject.name h.name) (
    beside (groups_keep info.subject.groups) (domain_behind_keeps info.subject.domain info.subject.domain_sid h.domain))) (λ old. refl)

pub logon_fits : (info : LogonInfo) → IsWritable info → IsBytes (spelling logon info)
logon_fits info h =
    let first = (members_keep (members_of info)).keeps begun begun_bytes in
    finished_keeps (logon.written begun info).bytes ((subject_keeps info h).keeps (members.written begun (members_of info)) first)

-- ---- client information

pub client_fits : (c : ClientInfo) → IsWritableClient c → IsBytes (packed_spelling client c)
client_fits c h =
    let octets : KeepsBytes (raw 0) (utf16le_text c.name) = raw_keeps 0 (utf16le_text c.name) (IsBytes-utf16 c.name h.name.utf8) in
    let all : KeepsBytes client c = alike client c (beside (number_keeps w32 (c.time % 2 ^ 32)) (beside (number_keeps w32 (c.time / 2 ^ 32)) (beside (number_keeps w16 (length (utf16le_text c.name))) octets))) (λ old. refl) in
    all.keeps blank IsBytes-nil

pub client_read : (c : ClientInfo) → IsWritableClient c → packed client (packed_spelling client c) ≡ Ok c
client_read c h = client_again c h.time (text_back c.name h.name.utf8) h.name.few

pub client_short : (c : ClientInfo) → IsWritableClient c → length (packed_spelling client c) < 2 ^ 17
client_short c h = omega (arith, client_most blank c h.name.few)

-- ---- delegation information

fixed_keeps : (d : DelegationInfo) → KeepsBytes fixed (fixed_of d)
fixed_keeps d =
    let n : ℕ = length d.services in
    alike fixed (fixed_of d) (beside (string_head_keeps (head_of d.target)) (beside (number_keeps w32 n) (pointer_keeps (not (eqb n 0))))) (λ old. refl)

listed_keeps : (texts : List (List ℕ)) → All (λ text. IsNdrText text) texts → KeepsBytes (listed (length texts)) texts
listed_keeps texts all =
    let n : ℕ = length texts in
    let heads = repeated_keeps n string_head (map head_of texts) string_head_keeps in
    alike (listed n) texts (beside (number_keeps w32 n) (beside heads (each_keeps text_of (map head_of texts) texts (texts_keep texts all)))) (λ old. refl)

behind_keeps : (d : DelegationInfo) → IsWritableDelegation d → KeepsBytes delegation d
behind_keeps d h =
    let n : ℕ = length d.services in
    let services = pointed_keeps (not (eqb n 0)) (listed n) [] d.services (listed_keeps d.services h.services) in
    alike delegation d (beside (fixed_keeps d) (beside (text_keeps d.target h.target.utf8) services)) (λ old. refl)

pub delegation_fits : (d : DelegationInfo) → IsWritableDelegation d → IsBytes (spelling delegation d)
delegation_fits d h = finished_keeps (delegation.written begun d).bytes ((behind_keeps d h).keeps begun begun_bytes)

few_units : (d : DelegationInfo) → IsWritableDelegation d → All (λ t. length (utf16le_text t) ≤ 65534) d.services
few_units d h = All-weaker (λ t. IsNdrText t) (λ t. length (utf16le_text t) ≤ 65534) (λ t k. k.few) d.services h.services

pub delegation_read : (d : DelegationInfo) → IsWritableDelegation d → object delegation (spelling delegation d) ≡ Ok d
delegation_read d h =
    let fits : All (λ t. (text_of (head_of t)).Fits t) d.services = All-weaker (λ t. IsNdrText t) (λ t. (text_of (head_of t)).Fits t) (λ t k. text_of_fits t (text_back t k.utf8) k.few) d.services h.services in
    delegation_again d h.target.few h.few (few_units d h) (text_of_fits d.target (text_back d.target h.target.utf8) h.target.few) fits

-- ---- how many bytes

-- zeros up to a multiple of 8, and the header anew
finished_most : (bytes : List ℕ) (eighths : ℕ) → 2 ≤ eighths → length bytes ≤ 8 * eighths → length (finished bytes) ≤ 8 * eighths
unfolding gap
finished_most bytes eighths some few =
    let n : ℕ = length (padded bytes) - 16 in
    let zeros : List ℕ = replicate (gap 8 (length bytes)) 0 in
    omega (arith, length-append (header_bytes n) (drop 16 (padded bytes)), length-drop 16 (padded bytes), length-append bytes zeros, length-replicate {A = ℕ} (gap 8 (length bytes)) 0)

pub logon_short : (info : LogonInfo) → IsWritable info → length (spelling logon info) ≤ 2 ^ 18
logon_short info h =
    finished_most (logon.written begun info).bytes (2 ^ 15) (omega arith) (omega (arith, logon_most info h.name.few h.domain.few (omega (arith, h.domain_sid.few)) h.few))

pub delegation_short : (d : DelegationInfo) → IsWritableDelegation d → length (spelling delegation d) ≤ 2 ^ 22
delegation_short d h = finished_most (delegation.written begun d).bytes (2 ^ 19) (omega arith) (omega (arith, delegation_most d h.target.few h.few (few_units d h)))

-- ---- signatures

pub signature_read : (kind : ℕ) (sum_type : ℤ) (sum : List ℕ) → (sum_type ≡ pos 15) ⊎ (sum_type ≡ pos 16) → length sum ≡ 12
    → front_of signature (with_value kind sum (unsigned kind sum_type)).content ≡ Ok (record { sum_type = sum_type; sum = sum })
unfolding gap
signature_read kind sum_type sum is sized =
    let x : SignatureData = record { sum_type = sum_type; sum = sum } in
    let own : (with_value kind sum (unsigned kind sum_type)).content ≡ to_le_bytes w32 (natural sum_type) ++ sum = rw (eq-eqb kind kind refl) refl in
    ap (front_of signature) own ∙ signature_again x is sized

-- ---- PACs

padded_most : (x : List ℕ) → length (padded x) ≤ length x + 8
unfolding gap
padded_most x = omega (arith, length-padded x)

-- room for the buffers and the zeros between
abbrev room : List Buffer → ℕ
room [] = 0
room (b ∷ bs) = length b.content + 8 + room bs

contents_most : (bs : List Buffer) → length (contents bs) ≤ room bs
contents_most [] = omega arith
contents_most (b ∷ bs) = omega (arith, length-contents b bs, padded_most b.content, contents_most bs)

pac_most : (bs : List Buffer) → length (pac bs) ≤ list_end (length bs) + room bs
pac_most bs = omega (arith, length-pac bs, contents_most bs)

built_short : (first second : List ℕ) (third : Option (List ℕ)) (ticket : Bool) (server realm : ℤ) → length first ≤ 2 ^ 18 → length second < 2 ^ 17 → IfSome third (λ x. length x ≤ 2 ^ 22)
    → length (pac (built first second third ticket server realm)) < 2 ^ 23
built_short first second None false server realm a b c = omega (arith, pac_most (built first second None false server realm))
built_short first second None true server realm a b c = omega (arith, pac_most (built first second None true server realm))
built_short first second (Some x) false server realm a b c = omega (arith, pac_most (built first second (Some x) false server realm))
built_short first second (Some x) true server realm a b c = omega (arith, pac_most (built first second (Some x) true server realm))

if_some : (d : Option DelegationInfo) → IfSome d (λ d. IsWritableDelegation d) → IfSome (option_map (spelling delegation) d) (λ x. length x ≤ 2 ^ 22)
if_some None h = tt
if_some (Some d) h = delegation_short d h

pub pac_short : (info : LogonInfo) (c : ClientInfo) (d : Option DelegationInfo) (ticket : Bool) (server_type realm_type : ℤ) → IsWritable info → IsWritableClient c → IfSome d (λ d. IsWritableDelegation d)
    → length (pac (built (spelling logon info) (packed_spelling client c) (option_map (spelling delegation) d) ticket server_type realm_type)) < 2 ^ 23
pac_short info c d ticket server_type realm_type a b h =
    built_short (spelling logon info) (packed_spelling client c) (option_map (spelling delegation) d) ticket server_type realm_type (logon_short info a) (client_short c b) (if_some d h)
