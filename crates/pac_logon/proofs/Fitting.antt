-- What can be written.
use Rattle.std.proofs.Common.{◌≡◌, ℕ, ◌*◌, ◌/◌, ◌%◌, ◌<◌, ◌≤◌, ◌^◌, Bool, true, false, not, ◌||◌, eqb, List, [], ◌∷◌, length, drop, Some, Ok, refl, sym, ap, ◌∙◌, arith, lit<}
use Rattle.std.specs.Prelude.{All}
use Rattle.std.specs.Str.{IsUtf8}
use Rattle.std.specs.Int.{w32, w64, from_be_bytes, to_be_bytes}
use Rattle.std.proofs.lemmas.Bool.{eq-eqb, le-leb, eqb-true}
use Rattle.std.proofs.lemmas.List.{nil_from_length}
use Rattle.std.proofs.lemmas.List.Elements.{All-head, All-tail}
use Rattle.std.proofs.lemmas.Str.{IsUtf8-nil, chars-nil}
use Rattle.krb_names.proofs.Units.{text_back}
use Rattle.ndr_core.specs.Layout.{Layout, pointed, decoded}
use Rattle.ndr_core.specs.Fields.{number, is_between}
use Rattle.ndr_core.specs.Arrays.{count, is_actual, units, repeated}
use Rattle.ndr_core.specs.Object.{object, spelling, IsObject}
use Rattle.ndr_core.proofs.ObjectLaws.{object_spelt, object_only}
use Rattle.krb_names.specs.SidValue.{SidValue}
use Rattle.krb_names.specs.Utf16.{utf16le_reading, utf16le_text}
use Rattle.ndr_values.specs.Sids.{authority, rpc_sid}
use Rattle.ndr_values.specs.Texts.{string_head, text_of, head_of, head_of_octets}
use Rattle.ndr_values.proofs.TextLaws.{even_octets}
use Rattle.pac_logon.specs.declared.logon_info.LogonInfo.{LogonInfo}
use Rattle.pac_logon.specs.Members.{filetime, never, logon_times, name_heads, array_head, account_heads, domain_heads, control_fields, extra_heads, members, no_string, array_of, names_of, account_heads_of, domain_heads_of, no_extra}
use Rattle.pac_logon.specs.Referents.{name_behind, group, group_array, groups_behind, domain_behind, sid_past, extra_behind, subject_behind}
use Rattle.pac_logon.proofs.LogonLaws.{logon_lawful}
use Rattle.pac_logon.proofs.Sizes.{logon_most}
use Rattle.pac_logon.specs.Logon.{logon, members_of, IsNdrText, IsDomainSid, IsWritable}

either : (b : Bool) → (not b || b) ≡ true
either true = refl
either false = refl

filetime_fits : (t : ℕ) → t < 2 ^ 64 → filetime.Fits t
unfolding filetime
filetime_fits t lt = (omega arith, (omega arith, omega arith))

times_fit : (t : ℕ) → t < 2 ^ 64 → logon_times.Fits t
unfolding logon_times
times_fit t lt =
    let fits_never : filetime.Fits never = filetime_fits never (lit< tt) in
    let fits_zero : filetime.Fits 0 = filetime_fits 0 (lit< tt) in
    (refl, (filetime_fits t lt, (fits_never, (fits_never, (fits_zero, (fits_zero, fits_never))))))

head_fits : (octets : List ℕ) → length octets ≤ 65534 → string_head.Fits (head_of_octets octets)
head_fits octets few = (refl, (omega arith, (omega arith, (tt, either (eqb (length octets) 0)))))

names_fit : (name : List ℕ) → length (utf16le_text name) ≤ 65534 → name_heads.Fits (names_of name)
unfolding name_heads
names_fit name few =
    let none : string_head.Fits no_string = head_fits [] (omega arith) in
    (refl, (head_fits (utf16le_text name) few, (none, (none, (none, (none, none))))))

array_fits : (elements : List ℕ) → length elements ≤ 1024 → array_head.Fits (array_of elements)
unfolding array_head
array_fits elements few = (refl, (omega arith, (tt, either (eqb (length elements) 0))))

account_fits : (user : ℕ) (groups : List ℕ) → user < 2 ^ 32 → length groups ≤ 1024 → account_heads.Fits (account_heads_of user groups)
unfolding account_heads
account_fits user groups lt few = (refl, (lit< tt, (lit< tt, (lt, (lit< tt, (array_fits groups few, (lit< tt, refl)))))))

domain_fits : (name : List ℕ) → length (utf16le_text name) ≤ 65534 → domain_heads.Fits (domain_heads_of name)
unfolding domain_heads
domain_fits name few = (refl, (head_fits [] (omega arith), (head_fits (utf16le_text name) few, (tt, refl))))

control_fits : (n : ℕ) → n < 2 ^ 32 → control_fields.Fits n
unfolding control_fields
control_fits n lt =
    let fits_zero : filetime.Fits 0 = filetime_fits 0 (lit< tt) in
    (refl, (lit< tt, (lit< tt, (lt, (lit< tt, (fits_zero, (fits_zero, (lit< tt, lit< tt))))))))

extra_fits : extra_heads.Fits no_extra
unfolding extra_heads
extra_fits = (refl, (array_fits [] (omega arith), (tt, array_fits [] (omega arith))))

members_fit : (info : LogonInfo) → IsWritable info → members.Fits (members_of info)
unfolding members
members_fit info h = (
  refl,
  (
    times_fit info.time h.time,
    (
      names_fit info.subject.name h.name.few,
      (
        account_fits info.subject.number info.subject.groups h.number h.few,
        (domain_fits info.subject.domain h.domain.few, (control_fits info.subject.control h.control, extra_fits)),
      ),
    ),
  ),
)

-- ---- what they point to

half_is : (n : ℕ) → n % 2 ≡ 0 → n ≡ 2 * (n / 2)
half_is n e = omega arith

units_fit : (octets : List ℕ) → length octets % 2 ≡ 0 → length octets ≤ 65534 → (units (length octets)).Fits octets
units_fit octets even few =
    let n : ℕ = length octets / 2 in
    let len : length octets ≡ 2 * n = half_is (length octets) even in
    let same : is_actual (length octets) n n ≡ true = rw (le-leb n n (omega arith), eq-eqb (length octets) (2 * n) len) refl in
    (refl, (omega arith, ((lit< tt, refl), ((omega arith, same), len))))

nothing_spelt : utf16le_text [] ≡ []
nothing_spelt = rw chars-nil refl

some_is : (x y : List ℕ) → Some x ≡ Some y → x ≡ y
some_is x y e = cc

no_text : (text : List ℕ) → IsUtf8 text → length (utf16le_text text) ≡ 0 → text ≡ []
no_text text utf8 none =
    let octets : utf16le_text text ≡ [] = nil_from_length (utf16le_text text) none in
    some_is text [] (sym (text_back text utf8) ∙ ap utf16le_reading (octets ∙ sym nothing_spelt) ∙ text_back [] IsUtf8-nil)

text_fits_by : (text : List ℕ) (none : Bool) → eqb (length (utf16le_text text)) 0 ≡ none → IsNdrText text
    → (pointed (not none) (decoded (units (length (utf16le_text text))) utf16le_reading utf16le_text) []).Fits text
text_fits_by text true e h = no_text text h.utf8 (eqb-true _ _ e)
text_fits_by text false e h = (text_back text h.utf8, units_fit (utf16le_text text) (even_octets text) h.few)

text_fits : (text : List ℕ) → IsNdrText text → (text_of (head_of text)).Fits text
text_fits text h = text_fits_by text (eqb (length (utf16le_text text)) 0) refl h

name_fits : (name : List ℕ) → IsNdrText name → (name_behind (names_of name)).Fits name
unfolding name_behind
name_fits name h = (refl, (text_fits name h, (refl, (refl, (refl, (refl, refl))))))

-- ---- arrays

repeated_fits : {X : Type 0} (c : Layout X) (xs : List X) → All c.Fits xs → (repeated (length xs) c).Fits xs
repeated_fits c [] h = tt
repeated_fits c (x ∷ xs) h = (All-head c.Fits x xs h, repeated_fits c xs (All-tail c.Fits x xs h))

count_fits : (n : ℕ) → n ≤ 1024 → (count n).Fits n
count_fits n few = ((omega arith, eq-eqb n n refl), le-leb n 1024 few)

group_fits : (n : ℕ) → n < 2 ^ 32 → group.Fits n
unfolding group
group_fits n lt = (refl, (lt, lit< tt))

group_array_fits : (groups : List ℕ) → length groups ≤ 1024 → All (λ n. n < 2 ^ 32) groups → (group_array (length groups)).Fits groups
unfolding group_array
group_array_fits groups few all = (refl, (count_fits (length groups) few, repeated_fits group groups (λ k d lt. group_fits _ (all k d lt))))

groups_fit_by : (groups : List ℕ) (none : Bool) → eqb (length groups) 0 ≡ none → length groups ≤ 1024 → All (λ n. n < 2 ^ 32) groups → (pointed (not none) (group_array (length groups)) []).Fits groups
groups_fit_by groups true e few all = nil_from_length groups (eqb-true _ _ e)
groups_fit_by groups false e few all = group_array_fits groups few all

groups_fit : (groups : List ℕ) → length groups ≤ 1024 → All (λ n. n < 2 ^ 32) groups → (groups_behind (array_of groups)).Fits groups
groups_fit groups few all = groups_fit_by groups (eqb (length groups) 0) refl few all

-- ---- the domain

authority_fits : (n : ℕ) → n < 2 ^ 48 → authority.Fits n
authority_fits n low = (authority_back n low, refl)
  where
    authority_back : (n : ℕ) → n < 2 ^ 48 → from_be_bytes w64 (0 ∷ 0 ∷ drop 2 (to_be_bytes w64 n)) ≡ n
    authority_back n low = omega arith

domain_sid_fits : (s : SidValue) → IsDomainSid s → (rpc_sid 14).Fits s
domain_sid_fits s h =
    let n : ℕ = length s.numbers in
    let within : is_between 1 14 n ≡ true = rw (le-leb 1 n h.some, le-leb n 14 h.few) refl in
    (refl, ((omega (arith, h.few), within), ((lit< tt, refl), ((omega (arith, h.few), eq-eqb n n refl), (refl, (authority_fits s.authority h.low, repeated_fits (number w32) s.numbers h.fits))))))

domain_behind_fits : (name : List ℕ) (sid : SidValue) → IsNdrText name → IsDomainSid sid → (domain_behind (domain_heads_of name)).Fits (name, sid)
unfolding domain_behind
domain_behind_fits name sid h s = (refl, (refl, (text_fits name h, domain_sid_fits sid s)))

extra_behind_fits : (extra_behind no_extra).Fits tt
unfolding extra_behind sid_past
extra_behind_fits = (refl, (refl, (refl, refl)))

subject_fits : (info : LogonInfo) → IsWritable info → (subject_behind (members_of info)).Fits info.subject
unfolding subject_behind
subject_fits info h =
    (refl, (name_fits info.subject.name h.name, (groups_fit info.subject.groups h.few h.groups, (domain_behind_fits info.subject.domain info.subject.domain_sid h.domain h.domain_sid, extra_behind_fits))))

logon_fits : (info : LogonInfo) → IsWritable info → logon.Fits info
logon_fits info h = (refl, (members_fit info h, subject_fits info h))

pub logon_spelt : (info : LogonInfo) → IsWritable info → IsObject logon (spelling logon info) info
logon_spelt info h = object_spelt logon info logon_lawful (logon_fits info h) (omega (arith, logon_most info h.name.few h.domain.few (omega (arith, h.domain_sid.few)) h.few))

pub logon_again : (info : LogonInfo) → IsWritable info → object logon (spelling logon info) ≡ Ok info
logon_again info h = object_only logon (spelling logon info) info logon_lawful (logon_spelt info h)
