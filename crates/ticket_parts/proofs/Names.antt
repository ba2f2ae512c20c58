-- Names are texts, and short.
use Rattle.std.proofs.Common.{◌≡◌, ℕ, ◌+◌, ◌-◌, ◌*◌, ◌/◌, ◌%◌, ◌<◌, ◌≤◌, ◌⊎◌, inl, inr, Bool, true, false, cond, List, [], ◌∷◌, ◌++◌, length, refl, ap, subst, ◌∙◌, length-append, arith, lt-ltb, le-ltb}
use Rattle.std.specs.Prelude.{flat_map}
use Rattle.std.specs.Str.{IsUtf8, chars, encode_utf8_all}
use Rattle.std.specs.Char.{len_utf8}
use Rattle.std.specs.Char.Escape.{encode_utf16}
use Rattle.std.proofs.lemmas.Bool.{cases_lt}
use Rattle.std.proofs.lemmas.List.Concat.{flat_map-cons}
use Rattle.std.proofs.lemmas.Str.{IsUtf8-append, IsUtf8-encode, encode_ascii, encodes-chars, length-encode, len_utf8_bounds}
use Rattle.krb_names.specs.declared.principal.Principal.{Principal}
use Rattle.krb_names.specs.Utf16.{unit_octets, utf16le_text}
use Rattle.krb_names.proofs.Units.{char_octets, by_chars}
use Rattle.pac_logon.specs.Logon.{IsNdrText}
use Rattle.ticket_laws.proofs.Texts.{name_short}
use Rattle.kdc_records.specs.Parties.{is_user}
use Rattle.ticket_parts.specs.Names.{client_name}
use Rattle.ticket_parts.specs.Sound.{IsNameText}

-- ---- UTF-16 is at most twice as long as UTF-8

char_short : (c : ℕ) → length (char_octets c) ≤ 2 * len_utf8 c
char_short c = by_size (cases_lt c 65536)
  where
    by_size : (c < 65536) ⊎ (65536 ≤ c) → length (char_octets c) ≤ 2 * len_utf8 c
    by_size (inl small) =
        let unit : encode_utf16 c ≡ c ∷ [] = rw (lt-ltb c 65536 small) refl in
        let two : length (char_octets c) ≡ 2 = ap (λ (units : List ℕ). length (flat_map unit_octets units)) unit in
        omega (arith, two, (len_utf8_bounds c).0)
    by_size (inr large) =
        let units : encode_utf16 c ≡ (0xD800 + (c - 65536) / 1024) ∷ (0xDC00 + (c - 65536) % 1024) ∷ [] = rw (le-ltb c 65536 large) refl in
        let four : length (char_octets c) ≡ 4 = ap (λ (units : List ℕ). length (flat_map unit_octets units)) units in
        let long : len_utf8 c ≡ 4 = rw (le-ltb c 128 (omega arith), le-ltb c 2048 (omega arith), le-ltb c 65536 large) refl in
        omega (arith, four, long)

chars_short : (cs : List ℕ) → length (flat_map char_octets cs) ≤ 2 * length (encode_utf8_all cs)
chars_short [] = omega arith
chars_short (c ∷ cs) =
    let octets : length (flat_map char_octets (c ∷ cs)) ≡ length (char_octets c) + length (flat_map char_octets cs) = ap length (flat_map-cons char_octets c cs) ∙ length-append (char_octets c) (flat_map char_octets cs) in
    let whole : length (encode_utf8_all (c ∷ cs)) ≡ len_utf8 c + length (encode_utf8_all cs) = length-append _ (encode_utf8_all cs) ∙ ap (λ (n : ℕ). n + length (encode_utf8_all cs)) (length-encode c) in
    omega (arith, octets, whole, char_short c, chars_short cs)

pub units_short : (text : List ℕ) → IsUtf8 text → length (utf16le_text text) ≤ 2 * length text
units_short text h = omega (arith, ap length (by_chars (chars text)), chars_short (chars text), ap length (encodes-chars text h))

-- ---- names

text_fits : (text : List ℕ) (n : ℕ) → IsUtf8 text → length text ≤ n → n ≤ 32767 → IsNdrText text
text_fits text n utf8 le few = record { utf8 = utf8; few = omega (arith, units_short text utf8) }

pub name_fits : (name : List ℕ) → IsNameText name → IsNdrText name
name_fits name h = text_fits name 255 h.utf8 (name_short name h.name) (omega arith)

at_sign : IsUtf8 (64 ∷ [])
at_sign = subst IsUtf8 (encode_ascii 64 (omega arith)) (IsUtf8-encode 64 refl)

with_realm_fits : (name realm : List ℕ) → IsNameText name → IsNameText realm → IsNdrText (name ++ 64 ∷ realm)
with_realm_fits name realm h k =
    let rest : IsUtf8 (64 ∷ realm) = IsUtf8-append (64 ∷ []) realm at_sign k.utf8 in
    text_fits (name ++ 64 ∷ realm) 511 (IsUtf8-append name (64 ∷ realm) h.utf8 rest) (omega (arith, length-append name (64 ∷ realm), name_short name h.name, name_short realm k.name)) (omega arith)

chosen_fits : (b : Bool) (one other : List ℕ) → IsNdrText one → IsNdrText other → IsNdrText (cond b one other)
chosen_fits true one other h k = h
chosen_fits false one other h k = k

pub client_name_fits : (name realm : List ℕ) (client : Principal) → IsNameText name → IsNameText realm → IsNdrText (client_name name realm client)
client_name_fits name realm client h k = chosen_fits (is_user name realm client) name (name ++ 64 ∷ realm) (name_fits name h) (with_realm_fits name realm h k)
