-- How many bytes a value takes at most.
use Rattle.std.proofs.Common.{◌≡◌, ℕ, ◌+◌, ◌*◌, ◌/◌, ◌%◌, ◌<◌, ◌≤◌, ◌^◌, Bool, true, false, not, eqb, List, [], ◌∷◌, ◌++◌, length, drop, map, replicate, length-append, arith}
use Rattle.std.specs.List.{All}
use Rattle.std.specs.Int.{w8, w16, w32, w64, to_le_bytes, to_be_bytes}
use Rattle.std.proofs.lemmas.List.{length-drop, length-replicate}
use Rattle.std.proofs.lemmas.List.Elements.{All-head, All-tail}
use Rattle.krb_names.specs.SidValue.{SidValue}
use Rattle.krb_names.specs.Utf16.{utf16le_reading, utf16le_text}
use Rattle.ndr_core.specs.Layout.{Layout, Written, decoded, pointed}
use Rattle.ndr_core.specs.Fields.{gap, number, put_number, put_pointer}
use Rattle.ndr_core.specs.Arrays.{put_each, units}
use Rattle.ndr_core.specs.Object.{begun, blank, finished, spelling, packed_spelling, padded}
use Rattle.ndr_values.specs.Sids.{packed_sid}
use Rattle.ndr_values.specs.Texts.{string_head, text_of, head_of}
use Rattle.pac_buffers.specs.declared.client_info.ClientInfo.{ClientInfo}
use Rattle.pac_buffers.specs.declared.delegation_info.DelegationInfo.{DelegationInfo}
use Rattle.pac_buffers.specs.declared.signature_data.SignatureData.{SignatureData}
use Rattle.pac_buffers.specs.Client.{client}
use Rattle.pac_buffers.specs.Signature.{signature, natural}
use Rattle.pac_buffers.specs.Delegation.{listed, delegation}

gap_most : (width place : ℕ) → 0 < width → gap width place ≤ width
unfolding gap
gap_most width place some = omega arith

number8_most : (old : Written) (n : ℕ) → length (put_number w8 old n).bytes ≤ length old.bytes + 2
number8_most old n =
    omega (arith, gap_most 1 (length old.bytes), length-append old.bytes (replicate (gap 1 (length old.bytes)) 0 ++ to_le_bytes w8 n), length-append (replicate (gap 1 (length old.bytes)) 0) (to_le_bytes w8 n), length-replicate {A = ℕ} (gap 1 (length old.bytes)) 0)

number16_most : (old : Written) (n : ℕ) → length (put_number w16 old n).bytes ≤ length old.bytes + 4
number16_most old n =
    omega (arith, gap_most 2 (length old.bytes), length-append old.bytes (replicate (gap 2 (length old.bytes)) 0 ++ to_le_bytes w16 n), length-append (replicate (gap 2 (length old.bytes)) 0) (to_le_bytes w16 n), length-replicate {A = ℕ} (gap 2 (length old.bytes)) 0)

number32_most : (old : Written) (n : ℕ) → length (put_number w32 old n).bytes ≤ length old.bytes + 8
number32_most old n =
    omega (arith, gap_most 4 (length old.bytes), length-append old.bytes (replicate (gap 4 (length old.bytes)) 0 ++ to_le_bytes w32 n), length-append (replicate (gap 4 (length old.bytes)) 0) (to_le_bytes w32 n), length-replicate {A = ℕ} (gap 4 (length old.bytes)) 0)

pointer_most : (old : Written) (there : Bool) → length (put_pointer old there).bytes ≤ length old.bytes + 8
pointer_most old true = number32_most old old.next
pointer_most old false = number32_most old 0

-- values one behind the other, each of at most this many bytes
each_most : {H X : Type 0} (layout : H → Layout X) (most : ℕ) (hs : List H) (old : Written) (xs : List X) → ((w : Written) (h : H) (x : X) → length ((layout h).written w x).bytes ≤ length w.bytes + most)
    → length (put_each layout hs old xs).bytes ≤ length old.bytes + length xs * most
each_most layout most [] old xs one = omega arith
each_most layout most (h ∷ hs) old [] one = omega arith
each_most layout most (h ∷ hs) old (x ∷ xs) one =
    let first = one old h x in
    let rest = each_most layout most hs ((layout h).written old x) xs one in
    omega arith

-- ---- the structures without a header

pub packed_sid_most : (old : Written) (s : SidValue) → length s.numbers ≤ 15 → length (packed_sid.written old s).bytes ≤ length old.bytes + 130
packed_sid_most old s few =
    let one : Written = put_number w8 old 1 in
    let two : Written = put_number w8 one (length s.numbers) in
    let eight : Written = record { bytes = two.bytes ++ drop 2 (to_be_bytes w64 s.authority); next = two.next } in
    let numbers = each_most (λ (_ : Unit {0}). number w32) 8 (replicate (length s.numbers) tt) eight s.numbers (λ w h x. number32_most w x) in
    omega (arith, number8_most old 1, number8_most one (length s.numbers), length-append two.bytes (drop 2 (to_be_bytes w64 s.authority)), numbers)

pub client_most : (old : Written) (c : ClientInfo) → length (utf16le_text c.name) ≤ 65534 → length (client.written old c).bytes ≤ length old.bytes + 65554
client_most old c few =
    let low : Written = put_number w32 old (c.time % 2 ^ 32) in
    let high : Written = put_number w32 low (c.time / 2 ^ 32) in
    let len : Written = put_number w16 high (length (utf16le_text c.name)) in
    omega (arith, number32_most old (c.time % 2 ^ 32), number32_most low (c.time / 2 ^ 32), number16_most high (length (utf16le_text c.name)), length-append len.bytes (utf16le_text c.name))

pub signature_most : (old : Written) (x : SignatureData) → length x.sum ≡ 12 → length (signature.written old x).bytes ≤ length old.bytes + 20
signature_most old x sized =
    let kind : Written = put_number w32 old (natural x.sum_type) in
    omega (arith, number32_most old (natural x.sum_type), length-append kind.bytes x.sum)

-- ---- delegation information

head_most : (old : Written) (text : List ℕ) → length (string_head.written old (head_of text)).bytes ≤ length old.bytes + 16
head_most old text =
    let n : ℕ = length (utf16le_text text) in
    let one : Written = put_number w16 old n in
    let two : Written = put_number w16 one n in
    omega (arith, number16_most old n, number16_most one n, pointer_most two (head_of text).there)

units_most : (old : Written) (x : List ℕ) → length ((units (length x)).written old x).bytes ≤ length old.bytes + 24 + length x
units_most old x =
    let n : ℕ = length x / 2 in
    let one : Written = put_number w32 old n in
    let two : Written = put_number w32 one 0 in
    let three : Written = put_number w32 two n in
    omega (arith, number32_most old n, number32_most one 0, number32_most two n, length-append three.bytes x)

pointed_most : {X : Type 0} (there : Bool) (c : Layout X) (other : X) (most : ℕ) (old : Written) (x : X) → length (c.written old x).bytes ≤ length old.bytes + most
    → length ((pointed there c other).written old x).bytes ≤ length old.bytes + most
pointed_most true c other most old x le = le
pointed_most false c other most old x le = omega arith

text_most : (old : Written) (text : List ℕ) → length (utf16le_text text) ≤ 65534 → length ((text_of (head_of text)).written old text).bytes ≤ length old.bytes + 65558
text_most old text few =
    let c : Layout (List ℕ) = decoded (units (head_of text).len) utf16le_reading utf16le_text in
    pointed_most (head_of text).there c [] 65558 old text (omega (arith, units_most old (utf16le_text text)))

texts_most : (old : Written) (texts : List (List ℕ)) → All (λ t. length (utf16le_text t) ≤ 65534) texts → length (put_each text_of (map head_of texts) old texts).bytes ≤ length old.bytes + length texts * 65558
texts_most old [] few = omega arith
texts_most old (t ∷ ts) few =
    let first = text_most old t (All-head (λ u. length (utf16le_text u) ≤ 65534) t ts few) in
    let rest = texts_most ((text_of (head_of t)).written old t) ts (All-tail (λ u. length (utf16le_text u) ≤ 65534) t ts few) in
    omega arith

heads_most : (old : Written) (hs : List (Unit {0})) (texts : List (List ℕ)) → length (put_each (λ (_ : Unit {0}). string_head) hs old (map head_of texts)).bytes ≤ length old.bytes + length texts * 16
heads_most old [] texts = omega arith
heads_most old (h ∷ hs) [] = omega arith
heads_most old (h ∷ hs) (t ∷ ts) =
    let first = head_most old t in
    let rest = heads_most (string_head.written old (head_of t)) hs ts in
    omega arith

listed_most : (old : Written) (texts : List (List ℕ)) → length texts ≤ 32 → All (λ t. length (utf16le_text t) ≤ 65534) texts → length ((listed (length texts)).written old texts).bytes ≤ length old.bytes + 2098376
listed_most old texts few short =
    let n : ℕ = length texts in
    let counted : Written = put_number w32 old n in
    let heads : Written = put_each (λ (_ : Unit {0}). string_head) (replicate n tt) counted (map head_of texts) in
    omega (arith, number32_most old n, heads_most counted (replicate n tt) texts, texts_most heads texts short)

finished_most : (bytes : List ℕ) → length (finished bytes) ≤ length bytes + 24
finished_most bytes =
    let zeros : List ℕ = replicate (gap 8 (length bytes)) 0 in
    omega (arith, length-drop 16 (padded bytes), length-append bytes zeros, length-replicate {A = ℕ} (gap 8 (length bytes)) 0, gap_most 8 (length bytes))

pub delegation_most : (d : DelegationInfo) → length (utf16le_text d.target) ≤ 65534 → length d.services ≤ 32 → All (λ t. length (utf16le_text t) ≤ 65534) d.services → length (delegation.written begun d).bytes < 2 ^ 22
delegation_most d target few short =
    let n : ℕ = length d.services in
    let head : Written = string_head.written begun (head_of d.target) in
    let size : Written = put_number w32 head n in
    let there : Written = put_pointer size (not (eqb n 0)) in
    let text : Written = (text_of (head_of d.target)).written there d.target in
    let services = pointed_most (not (eqb n 0)) (listed n) [] 2098376 text d.services (listed_most text d.services few short) in
    omega (arith, head_most begun d.target, number32_most head n, pointer_most size (not (eqb n 0)), text_most there d.target target, services)

pub delegation_short : (d : DelegationInfo) → length (utf16le_text d.target) ≤ 65534 → length d.services ≤ 32 → All (λ t. length (utf16le_text t) ≤ 65534) d.services → length (spelling delegation d) < 2 ^ 30
delegation_short d target few short = omega (arith, delegation_most d target few short, finished_most (delegation.written begun d).bytes)

pub client_short : (c : ClientInfo) → length (utf16le_text c.name) ≤ 65534 → length (packed_spelling client c) < 2 ^ 30
client_short c few = omega (arith, client_most blank c few)
