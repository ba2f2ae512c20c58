-- Values in tickets: how long they are, and that they can be written.
use Rattle.std.proofs.Common.{◌≡◌, ℕ, ◌+◌, ◌-◌, ◌<◌, ◌≤◌, ◌^◌, true, List, [], ◌++◌, length, drop, replicate, ℤ, pos, negsuc, refl, sym, ap, ◌∙◌, length-take, arith}
use Rattle.std.specs.Prelude.{FitsSigned}
use Rattle.std.specs.Int.{w32, w64}
use Rattle.std.specs.List.{flat_map, join_with_byte}
use Rattle.std.proofs.lemmas.Bool.{eq-eqb, eqb-true}
use Rattle.std.proofs.lemmas.Bool.Decides.{nat_tests}
use Rattle.std.proofs.lemmas.Int.{ints}
use Rattle.std.proofs.lemmas.List.{take-append-drop, drop_at, length-append, length-replicate}
use lib.Pointwise.{bytes_decides}
use lib.Signed.{mag}
use Rattle.der_core.specs.Elements.{element}
use Rattle.der_core.specs.Forms.{int32, uint32, number_is, is_between, text}
use Rattle.der_core.specs.Integers.{integer}
use Rattle.der_core.specs.IntegerLaws.{integer_spelt}
use Rattle.der_forms.specs.Keys.{etype, encryption_key}
use Rattle.der_forms.specs.Times.{kerberos_time}
use Rattle.krb_names.specs.declared.etype.Etype.{Etype}
use Rattle.krb_names.specs.declared.etype.Etype.TheVariants.{Aes128, Aes256}
use Rattle.krb_names.specs.declared.key.Key.{Key}
use Rattle.krb_names.specs.Etypes.{etype_number, key_length}
use Rattle.krb_names.specs.Keys.{is_padded, key_bytes, key_of}
use Rattle.krb_names.specs.Times.{ktime_text}
use Rattle.krb_tickets.specs.declared.auth_item.AuthItem.{AuthItem}
use Rattle.krb_tickets.specs.AuthItem.{auth_item}
use Rattle.krb_tickets.specs.declared.principal_name.PrincipalName.{PrincipalName}
use Rattle.krb_tickets.specs.PrincipalName.{principal_name}
use Rattle.krb_tickets.specs.Transited.{are_realms, transited}
use Rattle.ticket_laws.specs.Writable.{are_parts}
use Rattle.ticket_laws.proofs.Sizes.{element_within, append_within}
use Rattle.ticket_laws.proofs.Texts.{parts_fit, parts_within, realms_within}

-- ---- numbers

wider : (n : ℤ) → FitsSigned w32 n → FitsSigned w64 n
wider n fits = record { sfits = let h = fits.sfits in omega arith }

pub int32_fits : (n : ℤ) → FitsSigned w32 n → int32.Fits n
int32_fits n fits = (wider n fits, grind (arith, ints, fits))

pub uint32_fits : (n : ℕ) → n < 2 ^ 32 → uint32.Fits n
uint32_fits n fits = (refl, (record { sfits = omega arith }, grind (arith, ints, fits)))

int_within : (n : ℤ) → FitsSigned w64 n → length (element 2 (integer n)) ≤ 14
int_within n fits = element_within 2 8 (integer n) (integer_spelt n fits).few

pub number_fits : (n : ℕ) → n < 2 ^ 32 → (number_is (pos n)).Fits tt
number_fits n fits = (refl, (record { sfits = omega arith }, grind (arith, ints)))

pub number_within : (n : ℕ) → n < 2 ^ 32 → length ((number_is (pos n)).spelling tt) ≤ 14
number_within n fits = int_within (pos n) (record { sfits = omega arith })

pub int32_within : (n : ℤ) → FitsSigned w32 n → length (int32.spelling n) ≤ 14
int32_within n fits = int_within n (wider n fits)

pub uint32_within : (n : ℕ) → n < 2 ^ 32 → length (uint32.spelling n) ≤ 14
uint32_within n fits = int_within (pos n) (record { sfits = omega arith })

-- ---- a SEQUENCE of two fields

two_within : (m n : ℕ) (first second : List ℕ) → length first ≤ m → length second ≤ n → length (element 48 (element 160 first ++ (element 161 second ++ []))) ≤ 18 + m + n
two_within m n first second a b =
    let behind = append_within (6 + n) 0 (element 161 second) [] (element_within 161 n second b) (omega arith) in
    let inside = append_within (6 + m) (6 + n + 0) (element 160 first) (element 161 second ++ []) (element_within 160 m first a) behind in
    omega (arith, element_within 48 (6 + m + (6 + n + 0)) (element 160 first ++ (element 161 second ++ [])) inside)

-- ---- items

pub item_fits : (x : AuthItem) → FitsSigned w32 x.kind → auth_item.Fits x
item_fits x fits = (refl, (int32_fits x.kind fits, (tt, tt)))

-- ---- keys

pub etype_fits : (e : Etype) → etype.Fits e
etype_fits Aes128 = (refl, (record { sfits = omega arith }, refl))
etype_fits Aes256 = (refl, (record { sfits = omega arith }, refl))

at_most_32 : (e : Etype) → key_length e ≤ 32
at_most_32 Aes128 = omega arith
at_most_32 Aes256 = omega arith

octets_count : (key : Key) → length key.raw ≡ 32 → length (key_bytes key) ≡ key_length key.etype
octets_count key long = omega (arith, long, length-take (key_length key.etype) key.raw, at_most_32 key.etype)

-- the octets with zeros behind them are the key
padded_again : (key : Key) → length key.raw ≡ 32 → is_padded key ≡ true → key_of key.etype (key_bytes key) ≡ key
padded_again key long padded =
    let zeros = (bytes_decides (drop (key_length key.etype) key.raw) (replicate (32 - key_length key.etype) 0)).0 padded in
    let raw : key_bytes key ++ replicate (32 - length (key_bytes key)) 0 ≡ key.raw =
    ap (λ (n : ℕ). key_bytes key ++ replicate (32 - n) 0) (octets_count key long) ∙ ap (λ (rest : List ℕ). key_bytes key ++ rest) (sym zeros) ∙ take-append-drop (key_length key.etype) key.raw in
    ap (λ (octets : List ℕ). let made : Key = record { etype = key.etype; raw = octets } in made) raw

pub key_fits : (key : Key) → length key.raw ≡ 32 → is_padded key ≡ true → encryption_key.Fits key
key_fits key long padded = (padded_again key long padded, (etype_fits key.etype, ((tt, eq-eqb _ _ (octets_count key long)), tt)))

pub key_within : (key : Key) → length key.raw ≡ 32 → length (encryption_key.spelling key) ≤ 70
key_within key long =
    let number = int_within (pos (etype_number key.etype)) (etype_fits key.etype).1.0 in
    let octets = element_within 4 32 (key_bytes key) (omega (arith, octets_count key long, at_most_32 key.etype)) in
    two_within 14 38 (element 2 (integer (pos (etype_number key.etype)))) (element 4 (key_bytes key)) number octets

-- ---- names

pub name_fits : (name : PrincipalName) → FitsSigned w32 name.name_type → are_parts name.name_type name.name_string ≡ true → principal_name.Fits name
name_fits name kind parts = (refl, (int32_fits name.name_type kind, (parts_fit name.name_type name.name_string parts, tt)))

pub name_within : (name : PrincipalName) → FitsSigned w32 name.name_type → are_parts name.name_type name.name_string ≡ true → length (principal_name.spelling name) ≤ 2126
name_within name kind parts =
    two_within 14 2094 (int32.spelling name.name_type) (element 48 (flat_map text.spelling name.name_string)) (int32_within name.name_type kind) (element_within 48 2088 (flat_map text.spelling name.name_string) (parts_within name.name_type name.name_string parts))

-- ---- transited realms

pub transited_fits : (names : List (List ℕ)) → are_realms names ≡ true → transited.Fits names
transited_fits names h = (refl, (number_fits 1 (omega arith), (h, tt)))

pub transited_within : (names : List (List ℕ)) → are_realms names ≡ true → length (transited.spelling names) ≤ 8230
transited_within names h =
    two_within 14 8198 (element 2 (integer (pos 1))) (element 4 (join_with_byte 44 names)) (number_within 1 (omega arith)) (element_within 4 8192 (join_with_byte 44 names) (realms_within names h))

-- ---- times

pub time_within : (seconds : ℕ) → length (kerberos_time.spelling seconds) ≤ 21
time_within seconds = element_within 24 15 (ktime_text seconds) (omega arith)

-- ---- what can be written is such a value

pub int32_only : (n : ℤ) → int32.Fits n → FitsSigned w32 n
int32_only n fits = record { sfits = in_range n fits.1 }
  where
    in_range : (n : ℤ) → is_between (negsuc 2147483647) (pos 2147483647) n ≡ true → mag n < 2 ^ 31
    in_range n h = grind (arith, ints, nat_tests, h)

pub uint32_only : (n : ℕ) → uint32.Fits n → n < 2 ^ 32
uint32_only n fits = let h = fits.1.1 in grind (arith, ints, nat_tests, h)

pub key_only : (key : Key) → encryption_key.Fits key → (length key.raw ≡ 32) × (is_padded key ≡ true)
key_only key fits =
    let octets : List ℕ = key_bytes key in
    let zeros : List ℕ = replicate (32 - length octets) 0 in
    let count : length octets ≡ key_length key.etype = eqb-true _ _ fits.1.1.0.1 in
    let raw : octets ++ zeros ≡ key.raw = ap (λ (k : Key). k.raw) fits.0 in
    let rest : drop (key_length key.etype) key.raw ≡ replicate (32 - key_length key.etype) 0 =
    ap (drop (key_length key.etype)) (sym raw) ∙ drop_at octets zeros (key_length key.etype) count ∙ ap (λ (n : ℕ). replicate (32 - n) 0) count in (
      omega (arith, ap length raw, length-append octets zeros, length-replicate {A = ℕ} (32 - length octets) 0, count, at_most_32 key.etype),
      (bytes_decides (drop (key_length key.etype) key.raw) (replicate (32 - key_length key.etype) 0)).1 rest,
    )
