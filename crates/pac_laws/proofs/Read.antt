-- What is read from the contents of a PAC can be written.
use Rattle.std.proofs.Common.{◌≡◌, ℕ, ◌<◌, ◌≤◌, ◌^◌, Bool, true, leb, List, [], ◌++◌, length, Ok, subst, arith}
use Rattle.std.specs.Prelude.{All}
use Rattle.std.specs.Int.{w16, w32}
use Rattle.std.proofs.lemmas.Bool.{eqb-true, leb-true}
use Rattle.std.proofs.lemmas.List.Elements.{All-nil}
use Rattle.kdc_prelude.proofs.Bools.{both}
use Rattle.ndr_core.specs.Laws.{IsBytes, IsLayout}
use Rattle.ndr_core.specs.Layout.{Layout}
use Rattle.ndr_core.specs.Fields.{number, pointer_to, is_between}
use Rattle.ndr_core.specs.Arrays.{count}
use Rattle.ndr_core.specs.Object.{top, object, packed}
use Rattle.ndr_core.proofs.Steps.{IsBytes-front, IsBytes-rest}
use Rattle.ndr_core.proofs.ObjectLaws.{object_found, packed_found}
use Rattle.ndr_values.specs.declared.text.StringHead.{StringHead}
use Rattle.ndr_values.specs.Texts.{string_head, text_of, octets_of}
use Rattle.pac_logon.specs.declared.members.ArrayHead.{ArrayHead}
use Rattle.pac_logon.specs.declared.members.NameHeads.{NameHeads}
use Rattle.pac_logon.specs.declared.members.AccountHeads.{AccountHeads}
use Rattle.pac_logon.specs.declared.members.DomainHeads.{DomainHeads}
use Rattle.pac_logon.specs.declared.members.Members.{Members}
use Rattle.pac_logon.specs.declared.logon_info.Subject4.{Subject4}
use Rattle.pac_logon.specs.declared.logon_info.LogonInfo.{LogonInfo}
use Rattle.pac_logon.specs.Members.{filetime, logon_times, name_heads, account_heads, domain_heads, control_fields, extra_heads, members}
use Rattle.pac_logon.specs.Referents.{name_behind, group, group_array, groups_behind, domain_behind, extra_behind, subject_behind}
use Rattle.pac_logon.specs.Logon.{logon, IsNdrText, IsDomainSid, IsWritable}
use Rattle.pac_logon.proofs.LogonLaws.{logon_lawful}
use Rattle.pac_buffers.specs.declared.client_info.ClientInfo.{ClientInfo}
use Rattle.pac_buffers.specs.declared.delegation_info.DelegationInfo.{DelegationInfo}
use Rattle.pac_buffers.specs.Client.{client}
use Rattle.pac_buffers.specs.Delegation.{fixed, listed, delegation}
use Rattle.pac_buffers.proofs.InfoLaws.{client_lawful, delegation_lawful}
use Rattle.pac_laws.specs.Writable.{IsWritableClient, IsWritableDelegation}
use Rattle.pac_laws.proofs.Found.{Tell, nothing_told, followed_tells, field_tells, mapped_tells, such_tells, pointed_tells, decoded_tells, raw_tells, number_tells, each_tells, repeated_tells, text_is, string_head_tells, text_of_tells, domain_sid_tells}

-- ---- the members of logon information

filetime_tells : Tell filetime.IsNdr (λ t. t < 2 ^ 64)
unfolding filetime
filetime_tells = mapped_tells (λ t. t < 2 ^ 64) (field_tells (number_tells w32) (number_tells w32)) (λ p h. omega (arith, h.0, h.1))

times_tell : Tell logon_times.IsNdr (λ t. t < 2 ^ 64)
unfolding logon_times
times_tell = mapped_tells (λ t. t < 2 ^ 64) (field_tells filetime_tells (nothing_told _)) (λ p h. h.0)

names_tell : Tell name_heads.IsNdr (λ n. n.effective_name.len < 65536)
unfolding name_heads
names_tell = mapped_tells (λ (n : NameHeads). n.effective_name.len < 65536) (field_tells string_head_tells (nothing_told _)) (λ p h. h.0)

account_tells : Tell account_heads.IsNdr (λ a. a.user_id < 2 ^ 32)
unfolding account_heads
account_tells =
    mapped_tells (λ (a : AccountHeads). a.user_id < 2 ^ 32) (field_tells (nothing_told (number w16).IsNdr) (field_tells (nothing_told (number w16).IsNdr) (field_tells (number_tells w32) (nothing_told _)))) (λ p h. h.1.1.0)

domain_tells : Tell domain_heads.IsNdr (λ d. d.logon_domain_name.len < 65536)
unfolding domain_heads
domain_tells = mapped_tells (λ (d : DomainHeads). d.logon_domain_name.len < 65536) (field_tells (nothing_told string_head.IsNdr) (field_tells string_head_tells (nothing_told _))) (λ p h. h.1.0)

control_tells : Tell control_fields.IsNdr (λ n. n < 2 ^ 32)
unfolding control_fields
control_tells =
    mapped_tells (λ n. n < 2 ^ 32) (field_tells (nothing_told (number w32).IsNdr) (field_tells (nothing_told (number w32).IsNdr) (field_tells (number_tells w32) (nothing_told _)))) (λ p h. h.1.1.0)

-- the numbers fit, and the texts are short
record IsShort (m : Members) : Type 0 where
  time : m.logon_time < 2 ^ 64
  name : m.names.effective_name.len < 65536
  number : m.account.user_id < 2 ^ 32
  domain : m.domain.logon_domain_name.len < 65536
  control : m.user_account_control < 2 ^ 32

members_tell : Tell members.IsNdr (λ m. IsShort m)
unfolding members
members_tell =
    mapped_tells (λ m. IsShort m) (
    field_tells times_tell (
    field_tells names_tell (
    field_tells account_tells (
    field_tells domain_tells (
    field_tells control_tells (nothing_told extra_heads.IsNdr))))))
    (λ p h. record { time = h.0; name = h.1.0; number = h.1.1.0; domain = h.1.1.1.0; control = h.1.1.1.1.0 })

-- ---- what they point to

name_tells : (h : NameHeads) → h.effective_name.len < 65536 → Tell (name_behind h).IsNdr (λ name. IsNdrText name)
unfolding name_behind
name_tells h few = mapped_tells (λ name. IsNdrText name) (field_tells (text_of_tells h.effective_name few) (nothing_told _)) (λ p k. k.0)

group_tells : Tell group.IsNdr (λ n. n < 2 ^ 32)
unfolding group
group_tells = mapped_tells (λ n. n < 2 ^ 32) (field_tells (number_tells w32) (nothing_told (number w32).IsNdr)) (λ p h. h.0)

record AreGroups (groups : List ℕ) : Type 0 where
  few : length groups ≤ 1024
  fits : All (λ n. n < 2 ^ 32) groups

group_array_tells : (n : ℕ) → Tell (group_array n).IsNdr (λ groups. AreGroups groups)
unfolding group_array
group_array_tells n =
    mapped_tells (λ groups. AreGroups groups) (field_tells (such_tells (such_tells (nothing_told (number w32).IsNdr))) (repeated_tells group (λ k. k < 2 ^ 32) n group_tells))
    (λ p h. record { few = omega (arith, h.1.0, eqb-true n p.0 h.0.0.1, leb-true p.0 1024 h.0.1); fits = h.1.1 })

groups_tell : (h : ArrayHead) → Tell (groups_behind h).IsNdr (λ groups. AreGroups groups)
groups_tell h = pointed_tells h.there (group_array h.count) [] (group_array_tells h.count) (record { few = omega arith; fits = All-nil (λ n. n < 2 ^ 32) })

domain_behind_tells : (h : DomainHeads) → h.logon_domain_name.len < 65536 → Tell (domain_behind h).IsNdr (λ d. IsNdrText d.0 × IsDomainSid d.1)
unfolding domain_behind
domain_behind_tells h few =
    mapped_tells (λ d. IsNdrText d.0 × IsDomainSid d.1) (field_tells (nothing_told (octets_of h.logon_server).IsNdr) (field_tells (text_of_tells h.logon_domain_name few) domain_sid_tells)) (λ p k. k.1)

record IsWritableSubject (s : Subject4) : Type 0 where
  name : IsNdrText s.name
  domain : IsNdrText s.domain
  domain_sid : IsDomainSid s.domain_sid
  number : s.number < 2 ^ 32
  control : s.control < 2 ^ 32
  groups : AreGroups s.groups

subject_tells : (m : Members) → IsShort m → Tell (subject_behind m).IsNdr (λ s. IsWritableSubject s)
unfolding subject_behind
subject_tells m h =
    mapped_tells (λ s. IsWritableSubject s) (
    field_tells (name_tells m.names h.name) (
    field_tells (groups_tell m.account.group_ids) (
    field_tells (domain_behind_tells m.domain h.domain) (nothing_told (extra_behind m.extra).IsNdr))))
    (λ p k. record { name = k.0; domain = k.1.1.0.0; domain_sid = k.1.1.0.1; number = h.number; control = h.control; groups = k.1.0 })

logon_tells : Tell logon.IsNdr (λ info. IsWritable info)
logon_tells =
    mapped_tells (λ info. IsWritable info) (followed_tells members_tell subject_tells)
    (λ p h.
    let s = h.1 in
    record { time = h.0.time; name = s.name; domain = s.domain; domain_sid = s.domain_sid; number = s.number; control = s.control; few = s.groups.few; groups = s.groups.fits })

-- ---- client and delegation information

client_tells : Tell client.IsNdr (λ c. IsWritableClient c)
client_tells =
    mapped_tells (λ c. IsWritableClient c) (
    field_tells (number_tells w32) (
    field_tells (number_tells w32) (
    followed_tells (number_tells w16) (λ n few.
    decoded_tells (λ text. IsNdrText text) (raw_tells n) (λ octets text h e. text_is octets text h.0 (omega (arith, h.1)) e)))))
    (λ p h. record { time = omega (arith, h.0, h.1.0); name = h.1.1.1 })

-- the target's length, and how many services
record IsFixed (f : StringHead × (ℕ × Bool)) : Type 0 where
  target : f.0.len < 65536
  few : f.1.0 ≤ 32

fixed_parts : Tell fixed.IsNdr (λ f. (f.0.len < 65536) × ((Unit {0} × (is_between 0 32 f.1.0 ≡ true)) × Unit {0}))
fixed_parts = field_tells string_head_tells (followed_tells (such_tells (nothing_told (number w32).IsNdr)) (λ n _. nothing_told (pointer_to n).IsNdr))

fixed_tells : Tell fixed.IsNdr (λ f. IsFixed f)
fixed_tells = record {
  holds = λ place bytes f fits d.
      let h = fixed_parts.holds place bytes f fits d in
      record { target = h.0; few = leb-true f.1.0 32 (both (leb 0 f.1.0) (leb f.1.0 32) h.1.0.1).1 };
}

listed_tells : (n : ℕ) → Tell (listed n).IsNdr (λ texts. (length texts ≡ n) × All (λ text. IsNdrText text) texts)
listed_tells n =
    mapped_tells (λ texts. (length texts ≡ n) × All (λ text. IsNdrText text) texts) (
    followed_tells (nothing_told (count n).IsNdr) (λ _ _.
    followed_tells (repeated_tells string_head (λ h. h.len < 65536) n string_head_tells) (λ heads k.
    each_tells text_of (λ h. h.len < 65536) (λ text. IsNdrText text) text_of_tells heads k.1)))
    (λ p h. (omega (arith, h.1.1.0, h.1.0.0), h.1.1.1))

record AreServices (texts : List (List ℕ)) : Type 0 where
  few : length texts ≤ 32
  fits : All (λ text. IsNdrText text) texts

services_tell : (n : ℕ) → n ≤ 32 → Tell (listed n).IsNdr (λ texts. AreServices texts)
services_tell n few = record { holds = λ place bytes texts fits d. let h = (listed_tells n).holds place bytes texts fits d in record { few = omega (arith, h.0); fits = h.1 } }

delegation_tells : Tell delegation.IsNdr (λ d. IsWritableDelegation d)
delegation_tells =
    mapped_tells (λ d. IsWritableDelegation d) (
    followed_tells fixed_tells (λ f h.
    field_tells (text_of_tells f.0 h.target) (pointed_tells f.1.1 (listed f.1.0) [] (services_tell f.1.0 h.few) (record { few = omega arith; fits = All-nil (λ text. IsNdrText text) }))))
    (λ p h. record { target = h.1.0; few = omega (arith, h.1.1.few); services = h.1.1.fits })

-- ---- objects

object_tells : {X : Type 0} (c : Layout X) (P : X → Type 0) → IsLayout c → Tell c.IsNdr P → (bytes : List ℕ) (x : X) → IsBytes bytes → object c bytes ≡ Ok x → P x
object_tells c P lawful tells bytes x fits e =
    let d = object_found c bytes x lawful fits e in
    let whole : IsBytes (d.head ++ (d.content ++ d.padding)) = subst IsBytes d.whole fits in
    let content : IsBytes d.content = IsBytes-front d.content d.padding (IsBytes-rest d.head (d.content ++ d.padding) whole) in
    let all = field_tells (nothing_told top.IsNdr) tells in
    (all.holds (length d.head) d.content (true, x) content d.inside).1

pub logon_can : (bytes : List ℕ) (info : LogonInfo) → IsBytes bytes → object logon bytes ≡ Ok info → IsWritable info
logon_can bytes info fits e = object_tells logon (λ info. IsWritable info) logon_lawful logon_tells bytes info fits e

pub client_can : (bytes : List ℕ) (c : ClientInfo) → IsBytes bytes → packed client bytes ≡ Ok c → IsWritableClient c
client_can bytes c fits e = client_tells.holds 0 bytes c fits (packed_found client bytes c client_lawful fits e)

pub delegation_can : (bytes : List ℕ) (d : DelegationInfo) → IsBytes bytes → object delegation bytes ≡ Ok d → IsWritableDelegation d
delegation_can bytes d fits e = object_tells delegation (λ d. IsWritableDelegation d) delegation_lawful delegation_tells bytes d fits e
