-- Values that are written as bytes.
use Rattle.std.proofs.Common.{◌≡◌, ℕ, zero, suc, ◌+◌, ◌-◌, ◌/◌, ◌%◌, ◌<◌, ◌≤◌, ◌⊎◌, inl, inr, Bool, true, false, List, [], ◌∷◌, ◌++◌, get_or, length, drop, map, replicate, refl, sym, subst, arith, lit<, lt-ltb, le-ltb}
use Rattle.std.specs.Prelude.{flat_map, All}
use Rattle.std.specs.Int.{Width, w8, w16, w32, w64, to_le_bytes, to_be_bytes, byte_len, byte_at, bytes_low_first, bytes_high_first}
use Rattle.std.specs.Str.{IsUtf8, chars}
use Rattle.std.specs.Char.Escape.{encode_utf16}
use Rattle.std.proofs.lemmas.Bool.{cases_lt}
use Rattle.std.proofs.lemmas.List.Elements.{All-head, All-tail}
use Rattle.std.proofs.lemmas.Str.{scalars-chars}
use Rattle.std.proofs.Math.Utf8.{scalar, scalars, scalar_cases}
use Rattle.kdc_prelude.proofs.Bools.{both}
use Rattle.ndr_core.specs.Laws.{IsBytes}
use Rattle.ndr_core.specs.Layout.{Layout, Written, field, pointed}
use Rattle.ndr_core.specs.Fields.{gap, number, raw, put_number, pointer, pointer_to}
use Rattle.ndr_core.specs.Arrays.{put_each, each, repeated, units}
use Rattle.ndr_core.specs.Object.{header_bytes, begun, padded, finished}
use Rattle.krb_names.specs.SidValue.{SidValue}
use Rattle.krb_names.specs.Utf16.{unit_octets, utf16le_text}
use Rattle.krb_names.proofs.Units.{char_octets, by_chars}
use Rattle.ndr_values.specs.declared.text.StringHead.{StringHead}
use Rattle.ndr_values.specs.Sids.{rpc_sid}
use Rattle.ndr_values.specs.Texts.{string_head, text_of, head_of}
use Rattle.pac_logon.specs.Logon.{IsNdrText}

-- ---- lists of bytes

pub IsBytes-nil : IsBytes []
IsBytes-nil i = omega arith

pub IsBytes-cons : (b : ℕ) (bytes : List ℕ) → b < 256 → IsBytes bytes → IsBytes (b ∷ bytes)
IsBytes-cons b bytes small h zero = small
IsBytes-cons b bytes small h (suc i) = h i

pub IsBytes-tail : (b : ℕ) (bytes : List ℕ) → IsBytes (b ∷ bytes) → IsBytes bytes
IsBytes-tail b bytes h k = let e : get_or (b ∷ bytes) (suc k) 0 < 256 = h (suc k) in e

pub IsBytes-append : (front rest : List ℕ) → IsBytes front → IsBytes rest → IsBytes (front ++ rest)
IsBytes-append [] rest h fits = fits
IsBytes-append (b ∷ front) rest h fits = IsBytes-cons b (front ++ rest) (h 0) (IsBytes-append front rest (IsBytes-tail b front h) fits)

IsBytes-same : (b n : ℕ) → b < 256 → IsBytes (replicate n b)
IsBytes-same b zero small = IsBytes-nil
IsBytes-same b (suc n) small = IsBytes-cons b (replicate n b) small (IsBytes-same b n small)

pub IsBytes-zeros : (n : ℕ) → IsBytes (replicate n 0)
IsBytes-zeros n = IsBytes-same 0 n (omega arith)

pub IsBytes-drop : (n : ℕ) (bytes : List ℕ) → IsBytes bytes → IsBytes (drop n bytes)
IsBytes-drop zero bytes h = h
IsBytes-drop (suc n) [] h = IsBytes-nil
IsBytes-drop (suc n) (b ∷ bytes) h = IsBytes-drop n bytes (IsBytes-tail b bytes h)

byte_small : (i n : ℕ) → byte_at i n < 256
byte_small zero n = omega arith
byte_small (suc i) n = omega arith

low_first : (i k n : ℕ) → IsBytes (bytes_low_first i k n)
low_first i zero n = IsBytes-nil
low_first i (suc k) n = IsBytes-cons (byte_at i n) (bytes_low_first (suc i) k n) (byte_small i n) (low_first (suc i) k n)

high_first : (k n : ℕ) → IsBytes (bytes_high_first k n)
high_first zero n = IsBytes-nil
high_first (suc k) n = IsBytes-cons (byte_at k n) (bytes_high_first k n) (byte_small k n) (high_first k n)

pub IsBytes-le : (w : Width) (n : ℕ) → IsBytes (to_le_bytes w n)
IsBytes-le w n = low_first 0 (byte_len w) n

pub IsBytes-be : (w : Width) (n : ℕ) → IsBytes (to_be_bytes w n)
IsBytes-be w n = high_first (byte_len w) n

-- ---- texts in UTF-16LE

octets_of_unit : (unit : ℕ) → unit < 65536 → IsBytes (unit_octets unit)
octets_of_unit unit small = IsBytes-cons (unit % 256) (unit / 256 ∷ []) (omega arith) (IsBytes-cons (unit / 256) [] (omega arith) IsBytes-nil)

one_unit : (c : ℕ) → c < 65536 → IsBytes (char_octets c)
one_unit c small =
    let unit : encode_utf16 c ≡ c ∷ [] = rw (lt-ltb c 65536 small) refl in
    subst (λ (units : List ℕ). IsBytes (flat_map unit_octets units)) (sym unit) (octets_of_unit c small)

two_units : (c : ℕ) → 65536 ≤ c → c < 1114112 → IsBytes (char_octets c)
two_units c large few =
    let high : ℕ = 0xD800 + (c - 65536) / 1024 in
    let low : ℕ = 0xDC00 + (c - 65536) % 1024 in
    let both_units : encode_utf16 c ≡ high ∷ low ∷ [] = rw (le-ltb c 65536 large) refl in
    let octets : IsBytes (flat_map unit_octets (high ∷ low ∷ [])) = IsBytes-append (unit_octets high) (unit_octets low) (octets_of_unit high (omega arith)) (octets_of_unit low (omega arith)) in
    subst (λ (units : List ℕ). IsBytes (flat_map unit_octets units)) (sym both_units) octets

below : (c : ℕ) → scalar c ≡ true → c < 1114112
below c h = by_range (scalar_cases c h)
  where
    by_range : (c < 55296) ⊎ ((57344 ≤ c) × (c < 1114112)) → c < 1114112
    by_range (inl low) = omega arith
    by_range (inr high) = high.1

octets_of_char : (c : ℕ) → scalar c ≡ true → IsBytes (char_octets c)
octets_of_char c h = by_size (cases_lt c 65536)
  where
    by_size : (c < 65536) ⊎ (65536 ≤ c) → IsBytes (char_octets c)
    by_size (inl small) = one_unit c small
    by_size (inr large) = two_units c large (below c h)

octets_of_chars : (cs : List ℕ) → scalars cs ≡ true → IsBytes (flat_map char_octets cs)
octets_of_chars [] h = IsBytes-nil
octets_of_chars (c ∷ cs) h =
    let t = both (scalar c) (scalars cs) h in
    IsBytes-append (char_octets c) (flat_map char_octets cs) (octets_of_char c t.0) (octets_of_chars cs t.1)

pub IsBytes-utf16 : (text : List ℕ) → IsUtf8 text → IsBytes (utf16le_text text)
IsBytes-utf16 text h = subst IsBytes (by_chars (chars text)) (octets_of_chars (chars text) (scalars-chars text h))

-- ---- layouts

-- the value is written as bytes
pub record KeepsBytes {X : Type 0} (c : Layout X) (x : X) : Type 0 where
  pub keeps : (old : Written) → IsBytes old.bytes → IsBytes (c.written old x).bytes

put_keeps : (w : Width) (n : ℕ) (old : Written) → IsBytes old.bytes → IsBytes (put_number w old n).bytes
put_keeps w n old h =
    let zeros : List ℕ = replicate (gap (byte_len w) (length old.bytes)) 0 in
    IsBytes-append old.bytes (zeros ++ to_le_bytes w n) h (IsBytes-append zeros (to_le_bytes w n) (IsBytes-zeros (gap (byte_len w) (length old.bytes))) (IsBytes-le w n))

pub number_keeps : (w : Width) (n : ℕ) → KeepsBytes (number w) n
number_keeps w n = record { keeps = λ old h. put_keeps w n old h }

pub raw_keeps : (n : ℕ) (x : List ℕ) → IsBytes x → KeepsBytes (raw n) x
raw_keeps n x fits = record { keeps = λ old h. IsBytes-append old.bytes x h fits }

pub pointer_keeps : (there : Bool) → KeepsBytes pointer there
pointer_keeps true = record { keeps = λ old h. put_keeps w32 old.next old h }
pointer_keeps false = record { keeps = λ old h. put_keeps w32 0 old h }

-- a value that is written as another
pub alike : {X Y : Type 0} (c : Layout X) (x : X) {d : Layout Y} {y : Y} → KeepsBytes d y → ((old : Written) → c.written old x ≡ d.written old y) → KeepsBytes c x
alike c x k same = record { keeps = λ old h. subst (λ (w : Written). IsBytes w.bytes) (sym (same old)) (k.keeps old h) }

pub beside : {X Y : Type 0} {c : Layout X} {d : Layout Y} {x : X} {y : Y} → KeepsBytes c x → KeepsBytes d y → KeepsBytes (field c d) (x, y)
beside {c = c} {x = x} one other = record { keeps = λ old h. other.keeps (c.written old x) (one.keeps old h) }

pub pointed_keeps : {X : Type 0} (there : Bool) (c : Layout X) (other x : X) → KeepsBytes c x → KeepsBytes (pointed there c other) x
pointed_keeps true c other x k = record { keeps = k.keeps }
pointed_keeps false c other x k = record { keeps = λ old h. h }

-- each value of a list
abbrev pub EachKeeps : {H X : Type 0} → (H → Layout X) → List H → List X → Type 0
EachKeeps layout [] xs = Unit {0}
EachKeeps layout (h ∷ hs) [] = Unit {0}
EachKeeps layout (h ∷ hs) (x ∷ xs) = KeepsBytes (layout h) x × EachKeeps layout hs xs

put_each_keeps : {H X : Type 0} (layout : H → Layout X) (hs : List H) (xs : List X) (old : Written) → EachKeeps layout hs xs → IsBytes old.bytes → IsBytes (put_each layout hs old xs).bytes
put_each_keeps layout [] xs old k h = h
put_each_keeps layout (e ∷ hs) [] old k h = h
put_each_keeps layout (e ∷ hs) (x ∷ xs) old k h = put_each_keeps layout hs xs ((layout e).written old x) k.1 (k.0.keeps old h)

pub each_keeps : {H X : Type 0} (layout : H → Layout X) (hs : List H) (xs : List X) → EachKeeps layout hs xs → KeepsBytes (each layout hs) xs
each_keeps layout hs xs k = record { keeps = λ old h. put_each_keeps layout hs xs old k h }

pub every : {H X : Type 0} (layout : H → Layout X) (hs : List H) (xs : List X) → ((h : H) (x : X) → KeepsBytes (layout h) x) → EachKeeps layout hs xs
every layout [] xs all = tt
every layout (h ∷ hs) [] all = tt
every layout (h ∷ hs) (x ∷ xs) all = (all h x, every layout hs xs all)

pub repeated_keeps : {X : Type 0} (n : ℕ) (c : Layout X) (xs : List X) → ((x : X) → KeepsBytes c x) → KeepsBytes (repeated n c) xs
repeated_keeps n c xs all = each_keeps (λ (_ : Unit {0}). c) (replicate n tt) xs (every (λ (_ : Unit {0}). c) (replicate n tt) xs (λ _ x. all x))

-- ---- strings and SIDs

pub string_head_keeps : (h : StringHead) → KeepsBytes string_head h
string_head_keeps h =
    alike string_head h (beside (number_keeps w16 h.len) (beside (number_keeps w16 h.len) (alike (pointer_to h.len) h.there (pointer_keeps h.there) (λ old. refl)))) (λ old. refl)

units_keep : (octets : List ℕ) → IsBytes octets → KeepsBytes (units (length octets)) octets
units_keep octets fits =
    alike (units (length octets)) octets (beside (number_keeps w32 _) (beside (number_keeps w32 0) (beside (number_keeps w32 _) (raw_keeps 0 octets fits)))) (λ old. refl)

pub text_keeps : (text : List ℕ) → IsUtf8 text → KeepsBytes (text_of (head_of text)) text
text_keeps text utf8 =
    pointed_keeps (head_of text).there _ [] text (alike _ text (units_keep (utf16le_text text) (IsBytes-utf16 text utf8)) (λ old. refl))

pub texts_keep : (texts : List (List ℕ)) → All (λ text. IsNdrText text) texts → EachKeeps text_of (map head_of texts) texts
texts_keep [] all = tt
texts_keep (t ∷ ts) all = (text_keeps t (All-head (λ u. IsNdrText u) t ts all).utf8, texts_keep ts (All-tail (λ u. IsNdrText u) t ts all))

pub sid_keeps : (most : ℕ) (s : SidValue) → KeepsBytes (rpc_sid most) s
sid_keeps most s =
    let n : ℕ = length s.numbers in
    let body : KeepsBytes (repeated n (number w32)) s.numbers = repeated_keeps n (number w32) s.numbers (number_keeps w32) in
    alike (rpc_sid most) s (beside (number_keeps w32 n) (beside (number_keeps w8 1) (beside (number_keeps w8 n) (beside (raw_keeps 6 (drop 2 (to_be_bytes w64 s.authority)) (IsBytes-drop 2 (to_be_bytes w64 s.authority) (IsBytes-be w64 s.authority))) body)))) (λ old. refl)

-- ---- objects

begins : IsBytes (1 ∷ 16 ∷ 8 ∷ 0 ∷ [])
begins = IsBytes-cons 1 (16 ∷ 8 ∷ 0 ∷ []) (lit< tt) (IsBytes-cons 16 (8 ∷ 0 ∷ []) (lit< tt) (IsBytes-cons 8 (0 ∷ []) (lit< tt) (IsBytes-zeros 1)))

filler : IsBytes (204 ∷ 204 ∷ 204 ∷ 204 ∷ [])
filler = IsBytes-same 204 4 (lit< tt)

headed : (n : ℕ) → IsBytes (header_bytes n)
headed n =
    let number : List ℕ = to_le_bytes w32 n ++ 0 ∷ 0 ∷ 0 ∷ 0 ∷ [] in
    IsBytes-append (1 ∷ 16 ∷ 8 ∷ 0 ∷ []) (204 ∷ 204 ∷ 204 ∷ 204 ∷ number) begins (IsBytes-append (204 ∷ 204 ∷ 204 ∷ 204 ∷ []) number filler (IsBytes-append (to_le_bytes w32 n) (0 ∷ 0 ∷ 0 ∷ 0 ∷ []) (IsBytes-le w32 n) (IsBytes-zeros 4)))

pub padded_keeps : (bytes : List ℕ) → IsBytes bytes → IsBytes (padded bytes)
padded_keeps bytes h = IsBytes-append bytes (replicate (gap 8 (length bytes)) 0) h (IsBytes-zeros (gap 8 (length bytes)))

pub finished_keeps : (bytes : List ℕ) → IsBytes bytes → IsBytes (finished bytes)
finished_keeps bytes h = IsBytes-append (header_bytes (length (padded bytes) - 16)) (drop 16 (padded bytes)) (headed (length (padded bytes) - 16)) (IsBytes-drop 16 (padded bytes) (padded_keeps bytes h))

pub begun_bytes : IsBytes begun.bytes
begun_bytes = IsBytes-append (header_bytes 0) (to_le_bytes w32 131072) (headed 0) (IsBytes-le w32 131072)
