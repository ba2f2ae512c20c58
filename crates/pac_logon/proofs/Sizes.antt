-- How many bytes values are written in, at most.
use Rattle.std.proofs.Common.{◌≡◌, ℕ, zero, suc, ◌+◌, ◌-◌, ◌*◌, ◌<◌, ◌≤◌, ◌^◌, Bool, true, false, List, [], ◌∷◌, ◌++◌, length, drop, replicate, refl, ap, length-append, arith, lit<, lit≤}
use Rattle.std.specs.Int.{Width, w8, w16, w32, w64, byte_len, to_le_bytes, to_be_bytes}
use Rattle.std.proofs.Math.Nat.{suc-mul}
use Rattle.std.proofs.lemmas.List.{length-drop, length-replicate}
use Rattle.ndr_core.specs.Layout.{Written, Layout, field, pointed}
use Rattle.ndr_core.specs.Fields.{gap, number, raw, put_number, pointer, pointer_to}
use Rattle.ndr_core.specs.Arrays.{put_each, repeated, units}
use Rattle.ndr_core.specs.Object.{begun, padded, finished, spelling}
use Rattle.ndr_core.proofs.FieldLaws.{IsWide, wide8, wide16, wide32}
use Rattle.krb_names.specs.SidValue.{SidValue}
use Rattle.krb_names.specs.Utf16.{utf16le_text}
use Rattle.ndr_values.specs.declared.text.StringHead.{StringHead}
use Rattle.ndr_values.specs.Sids.{rpc_sid}
use Rattle.ndr_values.specs.Texts.{string_head, text_of, head_of}
use Rattle.pac_logon.specs.declared.members.ArrayHead.{ArrayHead}
use Rattle.pac_logon.specs.declared.members.NameHeads.{NameHeads}
use Rattle.pac_logon.specs.declared.members.AccountHeads.{AccountHeads}
use Rattle.pac_logon.specs.declared.members.DomainHeads.{DomainHeads}
use Rattle.pac_logon.specs.declared.members.ExtraHeads.{ExtraHeads}
use Rattle.pac_logon.specs.declared.members.Members.{Members}
use Rattle.pac_logon.specs.declared.logon_info.LogonInfo.{LogonInfo}
use Rattle.pac_logon.specs.Members.{filetime, never, logon_times, name_heads, array_head, account_heads, domain_heads, control_fields, extra_heads, members, array_of, names_of, domain_heads_of}
use Rattle.pac_logon.specs.Referents.{name_behind, group, group_array, groups_behind, domain_behind, sid_past, extra_behind, subject_behind}
use Rattle.pac_logon.specs.Logon.{logon, members_of}

-- a value of the layout takes at most so many bytes
pub record Takes {X : Type 0} (c : Layout X) (x : X) (most : ℕ) : Type 0 where
  pub few : (old : Written) → length (c.written old x).bytes ≤ length old.bytes + most

-- ---- fields

gap_below : (width place : ℕ) → 0 < width → gap width place < width
unfolding gap
gap_below width place some = omega arith

put_takes : (w : Width) (n : ℕ) (old : Written) → IsWide w → 0 < byte_len w → length (put_number w old n).bytes ≤ length old.bytes + (2 * byte_len w - 1)
put_takes w n old wide some =
    let zeros : List ℕ = replicate (gap (byte_len w) (length old.bytes)) 0 in
    let all : length (put_number w old n).bytes ≡ length old.bytes + length (zeros ++ to_le_bytes w n) = length-append old.bytes (zeros ++ to_le_bytes w n) in
    let parts : length (zeros ++ to_le_bytes w n) ≡ length zeros + length (to_le_bytes w n) = length-append zeros (to_le_bytes w n) in
    let first : length zeros ≡ gap (byte_len w) (length old.bytes) = length-replicate (gap (byte_len w) (length old.bytes)) 0 in
    let below : gap (byte_len w) (length old.bytes) < byte_len w = gap_below (byte_len w) (length old.bytes) some in
    let len : length (to_le_bytes w n) ≡ byte_len w = wide.len n in
    omega arith

number8_takes : (n : ℕ) → Takes (number w8) n 1
number8_takes n = record { few = λ old. put_takes w8 n old wide8 (lit< tt) }

number16_takes : (n : ℕ) → Takes (number w16) n 3
number16_takes n = record { few = λ old. put_takes w16 n old wide16 (lit< tt) }

number32_takes : (n : ℕ) → Takes (number w32) n 7
number32_takes n = record { few = λ old. put_takes w32 n old wide32 (lit< tt) }

raw_takes : (n : ℕ) (x : List ℕ) (most : ℕ) → length x ≤ most → Takes (raw n) x most
raw_takes n x most le = record { few = λ old. omega (arith, length-append old.bytes x) }

pointer_takes : (there : Bool) → Takes pointer there 7
pointer_takes true = record { few = λ old. put_takes w32 old.next old wide32 (lit< tt) }
pointer_takes false = record { few = λ old. put_takes w32 0 old wide32 (lit< tt) }

-- ---- what is put together

-- a value that is written as another
alike : {X Y : Type 0} (c : Layout X) (x : X) {d : Layout Y} {y : Y} {n : ℕ} → Takes d y n → ((old : Written) → c.written old x ≡ d.written old y) → Takes c x n
alike c x h same = record { few = λ old. omega (arith, ap (λ (w : Written). length w.bytes) (same old), h.few old) }

beside : {X Y : Type 0} {c : Layout X} {d : Layout Y} {x : X} {y : Y} {a b : ℕ} → Takes c x a → Takes d y b → Takes (field c d) (x, y) (a + b)
beside {c = c} {x = x} one other = record { few = λ old. omega (arith, one.few old, other.few (c.written old x)) }

nothing_takes : {X : Type 0} (c : Layout X) (x : X) → ((old : Written) → c.written old x ≡ old) → (n : ℕ) → Takes c x n
nothing_takes c x same n = record { few = λ old. omega (arith, ap (λ (w : Written). length w.bytes) (same old)) }

pointed_takes : {X : Type 0} (there : Bool) (c : Layout X) (other x : X) (n : ℕ) → Takes c x n → Takes (pointed there c other) x n
pointed_takes true c other x n h = record { few = h.few }
pointed_takes false c other x n h = nothing_takes (pointed false c other) x (λ old. refl) n

each_few : {X : Type 0} (c : Layout X) (a : ℕ) → ((x : X) → Takes c x a) → (n : ℕ) (xs : List X) (old : Written) → length (put_each (λ (_ : Unit {0}). c) (replicate n tt) old xs).bytes ≤ length old.bytes + n * a
each_few c a all zero xs old = omega arith
each_few c a all (suc n) [] old = omega arith
each_few c a all (suc n) (x ∷ xs) old = omega (arith, suc-mul n a, (all x).few old, each_few c a all n xs (c.written old x))

repeated_takes : {X : Type 0} (c : Layout X) (a : ℕ) → ((x : X) → Takes c x a) → (n : ℕ) (xs : List X) → Takes (repeated n c) xs (n * a)
repeated_takes c a all n xs = record { few = λ old. each_few c a all n xs old }

fewer : {X : Type 0} {c : Layout X} {x : X} {n : ℕ} (m : ℕ) → Takes c x n → n ≤ m → Takes c x m
fewer m h le = record { few = λ old. omega (arith, h.few old) }

-- ---- strings and SIDs

string_head_takes : (h : StringHead) → Takes string_head h 13
string_head_takes h =
    alike string_head h (beside (number16_takes h.len) (beside (number16_takes h.len) (alike (pointer_to h.len) h.there (pointer_takes h.there) (λ old. refl)))) (λ old. refl)

units_take : (octets : List ℕ) → length octets ≤ 65534 → Takes (units (length octets)) octets 65555
units_take octets few =
    alike (units (length octets)) octets (beside (number32_takes _) (beside (number32_takes 0) (beside (number32_takes _) (raw_takes 0 octets 65534 few)))) (λ old. refl)

text_takes : (text : List ℕ) → length (utf16le_text text) ≤ 65534 → Takes (text_of (head_of text)) text 65555
text_takes text few =
    pointed_takes (head_of text).there _ [] text 65555 (alike _ text (units_take (utf16le_text text) few) (λ old. refl))

sid_takes : (most : ℕ) (s : SidValue) → length s.numbers ≤ 15 → Takes (rpc_sid most) s 120
sid_takes most s few =
    let body : Takes (repeated (length s.numbers) (number w32)) s.numbers 105 = fewer 105 (repeated_takes (number w32) 7 number32_takes (length s.numbers) s.numbers) (omega arith) in
    alike (rpc_sid most) s (beside (number32_takes (length s.numbers)) (beside (number8_takes 1) (beside (number8_takes (length s.numbers)) (beside (raw_takes 6 (drop 2 (to_be_bytes w64 s.authority)) 6 (lit≤ tt)) body)))) (λ old. refl)

-- ---- members

filetime_takes : (t : ℕ) → Takes filetime t 14
unfolding filetime
filetime_takes t = alike _ t (beside (number32_takes _) (number32_takes _)) (λ old. refl)

times_take : (t : ℕ) → Takes logon_times t 84
unfolding logon_times
times_take t =
    alike _ t (
    beside (filetime_takes t) (
    beside (filetime_takes never) (
    beside (filetime_takes never) (
    beside (filetime_takes 0) (
    beside (filetime_takes 0) (filetime_takes never)))))) (λ old. refl)

names_take : (h : NameHeads) → Takes name_heads h 78
unfolding name_heads
names_take h =
    alike _ h (
    beside (string_head_takes h.effective_name) (
    beside (string_head_takes h.full_name) (
    beside (string_head_takes h.logon_script) (
    beside (string_head_takes h.profile_path) (
    beside (string_head_takes h.home_directory) (string_head_takes h.home_directory_drive)))))) (λ old. refl)

array_takes : (h : ArrayHead) → Takes array_head h 14
unfolding array_head
array_takes h = alike _ h (beside (number32_takes h.count) (pointer_takes h.there)) (λ old. refl)

account_takes : (h : AccountHeads) → Takes account_heads h 57
unfolding account_heads
account_takes h =
    alike _ h (
    beside (number16_takes 0) (
    beside (number16_takes 0) (
    beside (number32_takes h.user_id) (
    beside (number32_takes 513) (
    beside (array_takes h.group_ids) (
    beside (number32_takes 0) (raw_takes 16 (replicate 16 0) 16 (lit≤ tt)))))))) (λ old. refl)

domain_takes : (h : DomainHeads) → Takes domain_heads h 33
unfolding domain_heads
domain_takes h =
    alike _ h (
    beside (string_head_takes h.logon_server) (
    beside (string_head_takes h.logon_domain_name) (pointer_takes true))) (λ old. refl)

control_takes : (n : ℕ) → Takes control_fields n 70
unfolding control_fields
control_takes n =
    alike _ n (
    beside (number32_takes 0) (
    beside (number32_takes 0) (
    beside (number32_takes n) (
    beside (number32_takes 0) (
    beside (filetime_takes 0) (
    beside (filetime_takes 0) (
    beside (number32_takes 0) (number32_takes 0)))))))) (λ old. refl)

extra_takes : (h : ExtraHeads) → Takes extra_heads h 35
unfolding extra_heads
extra_takes h =
    alike _ h (
    beside (array_takes h.extra_sids) (
    beside (pointer_takes h.resource_group_domain_sid) (array_takes h.resource_group_ids))) (λ old. refl)

members_take : (m : Members) → Takes members m 357
unfolding members
members_take m =
    alike _ m (
    beside (times_take m.logon_time) (
    beside (names_take m.names) (
    beside (account_takes m.account) (
    beside (domain_takes m.domain) (
    beside (control_takes m.user_account_control) (extra_takes m.extra)))))) (λ old. refl)

-- ---- what they point to

name_takes : (name : List ℕ) → length (utf16le_text name) ≤ 65534 → Takes (name_behind (names_of name)) name 65555
unfolding name_behind
name_takes name few = alike _ name (text_takes name few) (λ old. refl)

group_takes : (n : ℕ) → Takes group n 14
unfolding group
group_takes n = alike _ n (beside (number32_takes n) (number32_takes 7)) (λ old. refl)

group_array_takes : (groups : List ℕ) → length groups ≤ 1024 → Takes (group_array (length groups)) groups 14343
unfolding group_array
group_array_takes groups few =
    let all : Takes (repeated (length groups) group) groups 14336 = fewer 14336 (repeated_takes group 14 group_takes (length groups) groups) (omega arith) in
    alike _ groups (beside (number32_takes (length groups)) all) (λ old. refl)

groups_take : (groups : List ℕ) → length groups ≤ 1024 → Takes (groups_behind (array_of groups)) groups 14343
groups_take groups few = pointed_takes (array_of groups).there (group_array (length groups)) [] groups 14343 (group_array_takes groups few)

domain_behind_takes : (name : List ℕ) (sid : SidValue) → length (utf16le_text name) ≤ 65534 → length sid.numbers ≤ 15 → Takes (domain_behind (domain_heads_of name)) (name, sid) 65675
unfolding domain_behind
domain_behind_takes name sid few some = alike _ (name, sid) (beside (text_takes name few) (sid_takes 14 sid some)) (λ old. refl)

subject_takes : (info : LogonInfo) → length (utf16le_text info.subject.name) ≤ 65534 → length (utf16le_text info.subject.domain) ≤ 65534 → length info.subject.domain_sid.numbers ≤ 15 → length info.subject.groups ≤ 1024
    → Takes (subject_behind (members_of info)) info.subject 145573
unfolding subject_behind extra_behind sid_past
subject_takes info name domain sid groups =
    alike _ info.subject (
    beside (name_takes info.subject.name name) (
    beside (groups_take info.subject.groups groups) (domain_behind_takes info.subject.domain info.subject.domain_sid domain sid))) (λ old. refl)

-- zeros up to a multiple of 8, and the header anew
finished_takes : (bytes : List ℕ) → length (finished bytes) ≤ length bytes + 24
finished_takes bytes =
    let zeros : List ℕ = replicate (gap 8 (length bytes)) 0 in
    omega (arith, length-drop 16 (padded bytes), length-append bytes zeros, length-replicate {A = ℕ} (gap 8 (length bytes)) 0, gap_below 8 (length bytes) (lit< tt))

pub logon_most : (info : LogonInfo) → length (utf16le_text info.subject.name) ≤ 65534 → length (utf16le_text info.subject.domain) ≤ 65534 → length info.subject.domain_sid.numbers ≤ 15 → length info.subject.groups ≤ 1024
    → length (logon.written begun info).bytes < 2 ^ 18
logon_most info name domain sid groups =
    let first = (members_take (members_of info)).few begun in
    let second = (subject_takes info name domain sid groups).few (members.written begun (members_of info)) in
    omega arith

-- what is written is short
pub logon_short : (info : LogonInfo) → length (utf16le_text info.subject.name) ≤ 65534 → length (utf16le_text info.subject.domain) ≤ 65534 → length info.subject.domain_sid.numbers ≤ 15 → length info.subject.groups ≤ 1024
    → length (spelling logon info) < 2 ^ 30
logon_short info name domain sid groups = omega (arith, logon_most info name domain sid groups, finished_takes (logon.written begun info).bytes)
