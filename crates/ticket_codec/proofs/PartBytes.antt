-- What is written of a part is bytes.
use Rattle.std.proofs.Common.{◌≡◌, ℕ, ◌+◌, ◌/◌, ◌%◌, ◌<◌, ◌≤◌, ◌⊎◌, inl, inr, ℤ, pos, Bool, true, false, cond, ◌&&◌, ◌||◌, leb, ◌==◌, get_or, List, [], ◌∷◌, ◌++◌, length, take, drop, Option, Some, None, Result, Ok, Err, refl, sym, subst, arith, lt-ltb, le-ltb}
use Rattle.std.specs.Prelude.{IfSome}
use Rattle.std.specs.Int.{w32, w64, to_be_bytes, cast_unsigned}
use Rattle.std.specs.Char.{is_ascii_digit}
use Rattle.std.specs.List.{AllByRecursion, flat_map, join_with_byte, list_all}
use Rattle.std.specs.Str.{IsUtf8, is_utf8}
use Rattle.std.proofs.lemmas.Bool.{cases_lt}
use Rattle.std.proofs.lemmas.Bool.Decides.{nat_tests}
use Rattle.std.proofs.lemmas.List.{take-append-drop}
use Rattle.std.proofs.lemmas.List.Concat.{flat_map-cons}
use Rattle.std.proofs.lemmas.Str.{IsUtf8-from_is_utf8}
use Rattle.std.proofs.Math.Utf8.{scalar, scalars, scalar_cases}
use lib.Utf8.{encode, encodes}
use Rattle.kdc_prelude.proofs.Bools.{both}
use Rattle.der_core.specs.BitStrings.{bit_string}
use Rattle.der_core.specs.Codec.{Codec}
use Rattle.der_core.specs.Elements.{element}
use Rattle.der_core.specs.Forms.{text}
use Rattle.der_core.specs.Integers.{integer, is_superfluous, shortest}
use Rattle.der_core.specs.Laws.{IsBytes}
use Rattle.der_forms.specs.Fields.{Fields, tag_of, field, optional, dropped}
use Rattle.der_forms.specs.Keys.{encryption_key}
use Rattle.der_forms.specs.Lists.{sequence_of}
use Rattle.der_forms.specs.Names.{realm}
use Rattle.der_forms.specs.Times.{kerberos_time}
use Rattle.der_forms.specs.Values.{flags as ticket_flags}
use Rattle.krb_names.specs.declared.key.Key.{Key}
use Rattle.krb_names.specs.declared.refusal.NameRefusal.{NameRefusal}
use Rattle.krb_names.specs.Etypes.{etype_number, key_length}
use Rattle.krb_names.specs.Keys.{key_bytes}
use Rattle.krb_names.specs.Pieces.{is_name}
use Rattle.krb_names.specs.Times.{civil_digits, has_time_form, ktime_text}
use Rattle.krb_names.specs.Calendar.{is_civil}
use Rattle.krb_tickets.specs.declared.auth_item.AuthItem.{AuthItem}
use Rattle.krb_tickets.specs.declared.enc_ticket_part.EncTicketPart.{EncTicketPart}
use Rattle.krb_tickets.specs.AuthItem.{auth_item}
use Rattle.krb_tickets.specs.EncTicketPart.{enc_ticket_part}
use Rattle.krb_tickets.specs.EncTicketPart as part_form
use Rattle.krb_tickets.specs.HostAddress.{host_address}
use Rattle.krb_tickets.specs.NameString.{is_enterprise, is_joined}
use Rattle.krb_tickets.specs.PrincipalName.{principal_name}
use Rattle.krb_tickets.specs.Transited.{are_realms, is_realm, transited}
use Rattle.krb_names.proofs.TimeLaw.{written_again}
use Rattle.ticket_laws.specs.Writable.{are_parts, are_texts, is_lone_joined, IsWritableItem, IsWritablePart}
use Rattle.ticket_laws.proofs.Bytes.{element_bytes, last}
use Rattle.pac_laws.proofs.Bytes.{IsBytes-append, IsBytes-be, IsBytes-cons, IsBytes-nil, IsBytes-tail}
use Rattle.der_core.specs.Steps.{IsBytes-front}

-- ---- texts

one_byte : (c : ℕ) → c < 128 → IsBytes (encode c)
unfolding encode
one_byte c a =
    let is : encode c ≡ c ∷ [] = rw (lt-ltb c 128 a) refl in
    subst IsBytes (sym is) (IsBytes-cons c [] (omega arith) IsBytes-nil)

two_bytes : (c : ℕ) → 128 ≤ c → c < 2048 → IsBytes (encode c)
unfolding encode
two_bytes c a b =
    let is : encode c ≡ (192 + c / 64) ∷ (128 + c % 64) ∷ [] = rw (le-ltb c 128 a, lt-ltb c 2048 b) refl in
    subst IsBytes (sym is) (IsBytes-cons (192 + c / 64) ((128 + c % 64) ∷ []) (omega arith) (IsBytes-cons (128 + c % 64) [] (omega arith) IsBytes-nil))

next_bytes : (c : ℕ) (bytes : List ℕ) → IsBytes bytes → IsBytes ((128 + c % 64) ∷ bytes)
next_bytes c bytes h = IsBytes-cons (128 + c % 64) bytes (omega arith) h

three_bytes : (c : ℕ) → 2048 ≤ c → c < 65536 → IsBytes (encode c)
unfolding encode
three_bytes c a b =
    let more : 128 ≤ c = omega arith in
    let is : encode c ≡ (224 + c / 4096) ∷ (128 + c / 64 % 64) ∷ (128 + c % 64) ∷ [] = rw (le-ltb c 128 more, le-ltb c 2048 a, lt-ltb c 65536 b) refl in
    subst IsBytes (sym is) (IsBytes-cons (224 + c / 4096) ((128 + c / 64 % 64) ∷ (128 + c % 64) ∷ []) (omega arith) (next_bytes (c / 64) ((128 + c % 64) ∷ []) (next_bytes c [] IsBytes-nil)))

four_bytes : (c : ℕ) → 65536 ≤ c → c < 1114112 → IsBytes (encode c)
unfolding encode
four_bytes c a b =
    let more : 128 ≤ c = omega arith in
    let most : 2048 ≤ c = omega arith in
    let is : encode c ≡ (240 + c / 262144) ∷ (128 + c / 4096 % 64) ∷ (128 + c / 64 % 64) ∷ (128 + c % 64) ∷ [] = rw (le-ltb c 128 more, le-ltb c 2048 most, le-ltb c 65536 a) refl in
    subst IsBytes (sym is) (IsBytes-cons (240 + c / 262144) ((128 + c / 4096 % 64) ∷ (128 + c / 64 % 64) ∷ (128 + c % 64) ∷ []) (omega arith) (next_bytes (c / 4096) ((128 + c / 64 % 64) ∷ (128 + c % 64) ∷ []) (next_bytes (c / 64) ((128 + c % 64) ∷ []) (next_bytes c [] IsBytes-nil))))

char_bytes : (c : ℕ) → c < 1114112 → IsBytes (encode c)
char_bytes c few =
    elim (cases_lt c 128) [
      | inl a ↦ one_byte c a
      | inr a ↦
          elim (cases_lt c 2048) [
            | inl b ↦ two_bytes c a b
            | inr b ↦ elim (cases_lt c 65536) [ inl d ↦ three_bytes c b d | inr d ↦ four_bytes c d few ]
          ]
    ]

below : (c : ℕ) → scalar c ≡ true → c < 1114112
below c h = elim (scalar_cases c h) [ inl low ↦ omega (arith, low) | inr high ↦ high.1 ]

encodes_bytes : (cs : List ℕ) → scalars cs ≡ true → IsBytes (encodes cs)
encodes_bytes [] h = IsBytes-nil
encodes_bytes (c ∷ cs) h =
    let tests = both (scalar c) (scalars cs) h in
    IsBytes-append (encode c) (encodes cs) (char_bytes c (below c tests.0)) (encodes_bytes cs tests.1)

text_bytes : (text : List ℕ) → is_utf8 text ≡ true → IsBytes text
text_bytes text h = let utf8 : IsUtf8 text = IsUtf8-from_is_utf8 text h in subst IsBytes utf8.1.1 (encodes_bytes utf8.0 utf8.1.0)

realm_bytes : (name : List ℕ) → is_realm name ≡ true → IsBytes name
realm_bytes name h = text_bytes name (both (is_utf8 name) (is_name name) h).0

-- ---- numbers

by_test : (test : Bool) (a b : List ℕ) → IsBytes a → IsBytes b → IsBytes (cond test a b)
by_test true a b h k = h
by_test false a b h k = k

shortest_bytes : (bytes : List ℕ) → IsBytes bytes → IsBytes (shortest bytes)
shortest_bytes [] h = h
shortest_bytes (b ∷ bytes) h = by_test (is_superfluous b bytes) (shortest bytes) (b ∷ bytes) (shortest_bytes bytes (IsBytes-tail b bytes h)) h

integer_bytes : (n : ℤ) → IsBytes (integer n)
unfolding integer
integer_bytes n = shortest_bytes (to_be_bytes w64 (cast_unsigned w64 n)) (IsBytes-be w64 (cast_unsigned w64 n))

number_bytes : (n : ℤ) → IsBytes (element 2 (integer n))
number_bytes n = element_bytes 2 (integer n) (omega arith) (integer_bytes n)

flags_bytes : (flags : ℕ) → IsBytes (element 3 (bit_string flags))
unfolding bit_string
flags_bytes flags = element_bytes 3 (0 ∷ to_be_bytes w32 flags) (omega arith) (IsBytes-cons 0 (to_be_bytes w32 flags) (omega arith) (IsBytes-be w32 flags))

-- ---- a SEQUENCE of two fields

two_fields : (first second : List ℕ) → IsBytes first → IsBytes second → IsBytes (element 48 (element 160 first ++ (element 161 second ++ [])))
two_fields first second a b =
    let front = element_bytes 160 first (omega arith) a in
    let rest = IsBytes-append (element 161 second) [] (element_bytes 161 second (omega arith) b) IsBytes-nil in
    element_bytes 48 (element 160 first ++ (element 161 second ++ [])) (omega arith) (IsBytes-append (element 160 first) (element 161 second ++ []) front rest)

-- ---- keys

octets_bytes : (key : Key) → IsBytes key.raw → IsBytes (key_bytes key)
octets_bytes key h =
    let n : ℕ = key_length key.etype in
    IsBytes-front (take n key.raw) (drop n key.raw) (subst IsBytes (sym (take-append-drop n key.raw)) h)

session_bytes : (key : Key) → IsBytes key.raw → IsBytes (encryption_key.spelling key)
session_bytes key h =
    two_fields (element 2 (integer (pos (etype_number key.etype)))) (element 4 (key_bytes key)) (number_bytes (pos (etype_number key.etype))) (element_bytes 4 (key_bytes key) (omega arith) (octets_bytes key h))

-- ---- names

either : (a b : Bool) → (a || b) ≡ true → (a ≡ true) ⊎ (b ≡ true)
either true b h = inl refl
either false b h = inr h

plain_bytes : (parts : List (List ℕ)) → list_all is_realm parts ≡ true → IsBytes (flat_map text.spelling parts)
plain_bytes [] h = IsBytes-nil
plain_bytes (x ∷ xs) h =
    let tests = both (is_realm x) (list_all is_realm xs) h in
    subst IsBytes (sym (flat_map-cons text.spelling x xs)) (IsBytes-append (element 27 x) (flat_map text.spelling xs) (element_bytes 27 x (omega arith) (realm_bytes x tests.0)) (plain_bytes xs tests.1))

lone_bytes : (parts : List (List ℕ)) → is_lone_joined parts ≡ true → IsBytes (flat_map text.spelling parts)
lone_bytes [] h = IsBytes-nil
lone_bytes (x ∷ []) h =
    let utf8 = (both (is_utf8 x) (is_joined x) h).0 in
    subst IsBytes (sym (flat_map-cons text.spelling x [])) (IsBytes-append (element 27 x) [] (element_bytes 27 x (omega arith) (text_bytes x utf8)) IsBytes-nil)
lone_bytes (x ∷ y ∷ ys) h = absurd cc

parts_bytes : (kind : ℤ) (parts : List (List ℕ)) → are_parts kind parts ≡ true → IsBytes (flat_map text.spelling parts)
parts_bytes kind parts h =
    elim (either (are_texts parts) (is_enterprise kind && is_lone_joined parts) h) [
      | inl plain ↦ plain_bytes parts (both (leb 1 (length parts) && leb (length parts) 8) (list_all is_realm parts) plain).1
      | inr lone ↦ lone_bytes parts (both (is_enterprise kind) (is_lone_joined parts) lone).1
    ]

name_bytes : (kind : ℤ) (parts : List (List ℕ)) → are_parts kind parts ≡ true → IsBytes (principal_name.spelling (record { name_type = kind; name_string = parts }))
name_bytes kind parts h =
    two_fields (element 2 (integer kind)) (element 48 (flat_map text.spelling parts)) (number_bytes kind) (element_bytes 48 (flat_map text.spelling parts) (omega arith) (parts_bytes kind parts h))

-- ---- transited realms

joined_bytes : (names : List (List ℕ)) → list_all is_realm names ≡ true → IsBytes (join_with_byte 44 names)
joined_bytes [] h = IsBytes-nil
joined_bytes (x ∷ []) h = realm_bytes x (both (is_realm x) true h).0
joined_bytes (x ∷ y ∷ ys) h =
    let tests = both (is_realm x) (list_all is_realm (y ∷ ys)) h in
    IsBytes-append x (44 ∷ join_with_byte 44 (y ∷ ys)) (realm_bytes x tests.0) (IsBytes-cons 44 (join_with_byte 44 (y ∷ ys)) (omega arith) (joined_bytes (y ∷ ys) tests.1))

transited_bytes : (names : List (List ℕ)) → are_realms names ≡ true → IsBytes (transited.spelling names)
transited_bytes names h =
    let realms = joined_bytes names (both (leb (length names) 32) (list_all is_realm names) h).1 in
    two_fields (element 2 (integer (pos 1))) (element 4 (join_with_byte 44 names)) (number_bytes (pos 1)) (element_bytes 4 (join_with_byte 44 names) (omega arith) realms)

-- ---- times

digit_small : (b : ℕ) → is_ascii_digit b ≡ true → b < 256
digit_small b h = grind (arith, nat_tests)

digits_bytes : (digits : List ℕ) → list_all is_ascii_digit digits ≡ true → IsBytes digits
digits_bytes [] h = IsBytes-nil
digits_bytes (b ∷ digits) h =
    let tests = both (is_ascii_digit b) (list_all is_ascii_digit digits) h in
    IsBytes-cons b digits (digit_small b tests.0) (digits_bytes digits tests.1)

passed : (a b : Bool) (x y : ℕ) (fault : NameRefusal) → cond (a && b) (let read : Result ℕ NameRefusal = Ok x in read) (Err fault) ≡ Ok y → a ≡ true
passed true b x y fault h = refl
passed false b x y fault h = absurd cc

ktime_bytes : (seconds : ℕ) → seconds ≤ 253402300799 → IsBytes (ktime_text seconds)
ktime_bytes seconds h =
    let stamp : List ℕ = ktime_text seconds in
    let form : has_time_form stamp ≡ true = passed (has_time_form stamp) (is_civil (civil_digits stamp)) _ seconds _ (written_again seconds h) in
    let all : Bool = list_all is_ascii_digit (take 14 stamp) in
    let digits : all ≡ true = (both (length stamp == 15) all (both (length stamp == 15 && all) (get_or stamp 14 0 == 90) form).0).1 in
    let last : drop 14 stamp ≡ 90 ∷ [] = refl in
    let rest : IsBytes (drop 14 stamp) = subst IsBytes (sym last) (IsBytes-cons 90 [] (omega arith) IsBytes-nil) in
    subst IsBytes (take-append-drop 14 stamp) (IsBytes-append (take 14 stamp) (drop 14 stamp) (digits_bytes (take 14 stamp) digits) rest)

time_bytes : (seconds : ℕ) → seconds ≤ 253402300799 → IsBytes (kerberos_time.spelling seconds)
time_bytes seconds h = element_bytes 24 (ktime_text seconds) (omega arith) (ktime_bytes seconds h)

start_bytes : (start : Option ℕ) → IfSome start (λ seconds. seconds ≤ 253402300799) → IfSome start (λ seconds. IsBytes (kerberos_time.spelling seconds))
start_bytes None h = tt
start_bytes (Some seconds) h = time_bytes seconds h

-- ---- authorization data

item_bytes : (x : AuthItem) → IsBytes x.content → IsBytes (auth_item.spelling x)
item_bytes x h = two_fields (element 2 (integer x.kind)) (element 4 x.content) (number_bytes x.kind) (element_bytes 4 x.content (omega arith) h)

items_bytes : (items : List AuthItem) → AllByRecursion IsWritableItem items → IsBytes (flat_map auth_item.spelling items)
items_bytes [] h = IsBytes-nil
items_bytes (x ∷ xs) h =
    subst IsBytes (sym (flat_map-cons auth_item.spelling x xs)) (IsBytes-append (auth_item.spelling x) (flat_map auth_item.spelling xs) (item_bytes x h.0.content) (items_bytes xs h.1))

-- ---- the fields

-- the fields are spelt in bytes
record OfBytes {X : Type 0} (fields : Fields X) (x : X) : Type 0 where
  spelt : IsBytes (fields.content.spelling x)

optional_bytes : {X Y : Type 0} (k : ℕ) (c : Codec X) (more : Fields Y) (x : Option X) (y : Y) → tag_of k < 256 → IfSome x (λ x. IsBytes (c.spelling x)) → OfBytes more y → OfBytes (optional k c more) (x, y)
optional_bytes k c more None y small one rest = record { spelt = rest.spelt }
optional_bytes k c more (Some x) y small one rest =
    record { spelt = IsBytes-append (element (tag_of k) (c.spelling x)) (more.content.spelling y) (element_bytes (tag_of k) (c.spelling x) small one) rest.spelt }

field_bytes : {X Y : Type 0} (k : ℕ) (c : Codec X) (more : Fields Y) (x : X) (y : Y) → tag_of k < 256 → IsBytes (c.spelling x) → OfBytes more y → OfBytes (field k c more) (x, y)
field_bytes k c more x y small one rest = record { spelt = (optional_bytes k c more (Some x) y small one rest).spelt }

dropped_bytes : {X Y : Type 0} (k : ℕ) (c : Codec X) (more : Fields Y) (y : Y) → OfBytes more y → OfBytes (dropped k c more) y
dropped_bytes k c more y rest = record { spelt = rest.spelt }

list_bytes : (items : List AuthItem) → AllByRecursion IsWritableItem items → OfBytes last (items, tt)
list_bytes [] h = record { spelt = IsBytes-nil }
list_bytes (x ∷ xs) h =
    let all : List ℕ = flat_map auth_item.spelling (x ∷ xs) in
    let inside = element_bytes 48 all (omega arith) (items_bytes (x ∷ xs) h) in
    record { spelt = IsBytes-append (element 170 (element 48 all)) [] (element_bytes 170 (element 48 all) (omega arith) inside) IsBytes-nil }

fields_bytes : (p : EncTicketPart) → IsWritablePart p → OfBytes part_form.parts (part_form.parts_of p)
fields_bytes p w =
    field_bytes 0 ticket_flags _ _ _ (omega arith) (flags_bytes p.flags) (
    field_bytes 1 encryption_key _ _ _ (omega arith) (session_bytes p.key w.key_octets) (
    field_bytes 2 realm _ _ _ (omega arith) (element_bytes 27 p.client.realm (omega arith) (realm_bytes p.client.realm w.crealm)) (
    field_bytes 3 principal_name _ _ _ (omega arith) (name_bytes p.client.kind p.client.parts w.cname_parts) (
    field_bytes 4 transited _ _ _ (omega arith) (transited_bytes p.transited w.transited) (
    field_bytes 5 kerberos_time _ _ _ (omega arith) (time_bytes p.auth w.auth) (
    optional_bytes 6 kerberos_time _ _ _ (omega arith) (start_bytes p.start w.start) (
    field_bytes 7 kerberos_time _ _ _ (omega arith) (time_bytes p.end w.end) (
    dropped_bytes 8 kerberos_time _ _ (
    dropped_bytes 9 (sequence_of host_address) _ _ (
    list_bytes p.items w.items))))))))))

-- what can be written is written in bytes
pub part_bytes : (p : EncTicketPart) → IsWritablePart p → IsBytes (enc_ticket_part.spelling p)
part_bytes p w =
    let fields : List ℕ = part_form.parts.content.spelling (part_form.parts_of p) in
    element_bytes 99 (element 48 fields) (omega arith) (element_bytes 48 fields (omega arith) (fields_bytes p w).spelt)
