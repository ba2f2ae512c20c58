-- A value has one spelling but for bit strings, so that others are written in no more bytes than they were read from.
use Rattle.std.proofs.Common.{◌≡◌, ℕ, ◌+◌, ◌≤◌, ℤ, pos, Bool, eqb, List, [], ◌∷◌, ◌++◌, length, Option, Some, None, refl, sym, ap, subst, length-append, arith}
use Rattle.std.specs.List.{flat_map}
use Rattle.std.proofs.lemmas.List.Concat.{flat_map-cons}
use Rattle.krb_names.specs.Times.{ktime_text}
use Rattle.der_core.specs.Sizes.{size}
use Rattle.der_core.specs.SizeLaws.{size_le, size_near}
use Rattle.der_core.specs.declared.refusal.DerCause.TheVariants.{LengthForm, BadText}
use Rattle.der_core.specs.Elements.{element}
use Rattle.der_core.specs.Codec.{Codec, Content, element_of, alone, explicit, such, mapped}
use Rattle.der_core.specs.Laws.{IsBytes, IsCodec}
use Rattle.der_core.specs.CodecLaws.{IsBytes-content}
use Rattle.der_core.specs.Forms.{bytes, texts, bit_strings, within, int_within, uint32, natural, number_is, bits, octets, text_such}
use Rattle.der_core.specs.FormLaws.{int_within_lawful, is_natural, only_between}
use Rattle.der_core.specs.IntegerLaws.{integer_one}
use Rattle.der_core.specs.BitLaws.{bits_near}
use Rattle.der_forms.specs.Fields.{Fields, end, depending, field, optional, made, dropped, listed, list_of, unless_empty, optional_spelling, IsOptional, sequence, tag_of}
use Rattle.der_forms.specs.FieldLaws.{parts_are_bytes, depending_lawful, field_lawful, end_lawful}
use Rattle.der_forms.specs.Growths.{Grows, ContentGrows, FieldsGrow}
use Rattle.der_forms.specs.Keys.{etype, key_octets, encryption_key, parts, make, parts_of, fields}
use Rattle.der_forms.specs.KeyLaws.{etype_again, etype_lawful, key_again, key_octets_lawful}
use Rattle.der_forms.specs.Laws.{AreFields}
use Rattle.der_forms.specs.Lists.{AreItems, items, sequence_of}
use Rattle.der_forms.specs.Times.{times, kerberos_time}
use Rattle.der_forms.specs.TimeLaws.{long_text}
use Rattle.der_forms.specs.Values.{flags}
use Rattle.der_forms.specs.declared.value.Flags.{Flags}
use Rattle.krb_names.specs.Etypes.{key_length}
use Rattle.krb_names.specs.declared.etype.Etype.{Etype}

-- ---- elements

element_length : (tag : ℕ) (content : List ℕ) → length (element tag content) ≡ 1 + (length (size (length content)) + length content)
element_length tag content = omega (arith, length-append (size (length content)) content)

pub element_of_same : {X : Type 0} (tag : ℕ) (c : Content X) → ContentGrows 0 c → Grows 0 (element_of tag c)
element_of_same tag c same = record {
  at_most = λ bytes x are_bytes d.
      let inside = same.at_most d.content x (IsBytes-content tag bytes d.content are_bytes d.outside) d.inside in
      let header = size_le (length d.content) (length (c.spelling x)) (omega (arith, inside)) in
      omega (arith, inside, header, ap length d.outside.spelt, element_length tag d.content, element_length tag (c.spelling x));
}

pub element_of_grows : {X : Type 0} (k tag : ℕ) (c : Content X) → k ≤ 100 → ContentGrows k c → Grows (k + 1) (element_of tag c)
element_of_grows k tag c few grows = record {
  at_most = λ bytes x are_bytes d.
      let inside = grows.at_most d.content x (IsBytes-content tag bytes d.content are_bytes d.outside) d.inside in
      let header = size_near (length d.content) (length (c.spelling x)) (omega (arith, inside, few)) in
      omega (arith, inside, header, ap length d.outside.spelt, element_length tag d.content, element_length tag (c.spelling x));
}

pub explicit_same : {X : Type 0} (tag : ℕ) (c : Codec X) → Grows 0 c → Grows 0 (explicit tag c)
explicit_same tag c same = element_of_same tag (alone c) (record { at_most = same.at_most })

pub explicit_grows : {X : Type 0} (k tag : ℕ) (c : Codec X) → k ≤ 100 → Grows k c → Grows (k + 1) (explicit tag c)
explicit_grows k tag c few grows = element_of_grows k tag (alone c) few (record { at_most = grows.at_most })

-- ---- fields

pub end_same : FieldsGrow 0 end
end_same = record {
  at_most = λ bytes x are_bytes d. omega arith;
}

sum_grows : (j k : ℕ) (bytes front rest first second : List ℕ) → bytes ≡ front ++ rest → length first ≤ length front + j → length second ≤ length rest + k
    → length (first ++ second) ≤ length bytes + (j + k)
sum_grows j k bytes front rest first second whole le le2 = omega (arith, le, le2, ap length whole, length-append front rest, length-append first second)

-- a first field, and those behind it
pub behind_grows : {X Y : Type 0} (j k n : ℕ) (c : Codec X) (more : X → Fields Y) → Grows j (explicit (tag_of n) c) → ((x : X) → FieldsGrow k (more x)) → FieldsGrow (j + k) (depending n c more)
behind_grows j k n c more one others = record {
  at_most = λ bytes x are_bytes d.
      let both = parts_are_bytes bytes d.front d.rest are_bytes d.whole in
      sum_grows j k bytes d.front d.rest (element (tag_of n) (c.spelling x.0)) ((more x.0).content.spelling x.1) d.whole (one.at_most d.front x.0 both.0 d.first) ((others x.0).at_most d.rest x.1 both.1 d.second);
}

pub depending_same : {X Y : Type 0} (n : ℕ) (c : Codec X) (more : X → Fields Y) → Grows 0 c → ((x : X) → FieldsGrow 0 (more x)) → FieldsGrow 0 (depending n c more)
depending_same n c more one others = behind_grows 0 0 n c more (explicit_same (tag_of n) c one) others

pub field_same : {X Y : Type 0} (n : ℕ) (c : Codec X) (more : Fields Y) → Grows 0 c → FieldsGrow 0 more → FieldsGrow 0 (field n c more)
field_same {X} n c more one others = depending_same n c (λ (_ : X). more) one (λ (_ : X). others)

optional_one : {X : Type 0} (n : ℕ) (c : Codec X) → Grows 0 c → (bytes : List ℕ) (x : Option X) → IsBytes bytes → IsOptional n c bytes x → length (optional_spelling n c x) ≤ length bytes + 0
optional_one n c one bytes None are_bytes d = omega arith
optional_one n c one bytes (Some x) are_bytes d = (explicit_same (tag_of n) c one).at_most bytes x are_bytes d

pub optional_same : {X Y : Type 0} (n : ℕ) (c : Codec X) (more : Fields Y) → Grows 0 c → FieldsGrow 0 more → FieldsGrow 0 (optional n c more)
optional_same n c more one others = record {
  at_most = λ bytes x are_bytes d.
      let both = parts_are_bytes bytes d.front d.rest are_bytes d.whole in
      sum_grows 0 0 bytes d.front d.rest (optional_spelling n c x.0) (more.content.spelling x.1) d.whole (optional_one n c one d.front x.0 both.0 d.first) (others.at_most d.rest x.1 both.1 d.second);
}

pub made_grows : {X Y : Type 0} (k : ℕ) (fields : Fields X) (make : X → Y) (parts_of : Y → X) → ((x : X) → parts_of (make x) ≡ x) → FieldsGrow k fields → FieldsGrow k (made fields make parts_of)
made_grows {X} {Y} k fields make parts_of back grows = record {
  at_most = λ bytes y are_bytes d.
      let inside = grows.at_most bytes d.parts are_bytes d.spelt in
      let again : length (fields.content.spelling (parts_of (make d.parts))) ≤ length bytes + k = subst (λ (x : X). length (fields.content.spelling x) ≤ length bytes + k) (sym (back d.parts)) inside in
      subst (λ (v : Y). length (fields.content.spelling (parts_of v)) ≤ length bytes + k) d.made again;
}

-- the same where the values that can be written alone are made again
pub fitting_grows : {X Y : Type 0} (k : ℕ) (fields : Fields X) (make : X → Y) (parts_of : Y → X) → ((x : X) → fields.content.Fits x → parts_of (make x) ≡ x)
    → AreFields fields → FieldsGrow k fields → FieldsGrow k (made fields make parts_of)
fitting_grows {X} {Y} k fields make parts_of back lawful grows = record {
  at_most = λ bytes y are_bytes d.
      let inside = grows.at_most bytes d.parts are_bytes d.spelt in
      let same = back d.parts (lawful.content.fits bytes d.parts are_bytes d.spelt) in
      let again : length (fields.content.spelling (parts_of (make d.parts))) ≤ length bytes + k = subst (λ (x : X). length (fields.content.spelling x) ≤ length bytes + k) (sym same) inside in
      subst (λ (v : Y). length (fields.content.spelling (parts_of v)) ≤ length bytes + k) d.made again;
}

pub dropped_same : {X Y : Type 0} (n : ℕ) (c : Codec X) (more : Fields Y) → FieldsGrow 0 more → FieldsGrow 0 (dropped n c more)
dropped_same {X} {Y} n c more others = record {
  at_most = λ bytes y are_bytes d.
      let both = parts_are_bytes bytes d.spelt.front d.spelt.rest are_bytes d.spelt.whole in
      let behind = others.at_most d.spelt.rest d.parts.1 both.1 d.spelt.second in
      let inside : length (more.content.spelling d.parts.1) ≤ length bytes + 0 = omega (arith, behind, ap length d.spelt.whole, length-append d.spelt.front d.spelt.rest) in
      subst (λ (v : Y). length (more.content.spelling v) ≤ length bytes + 0) d.made inside;
}

pub listed_same : {X Y : Type 0} (n : ℕ) (c : Codec (List X)) (more : Fields Y) → Grows 0 c → FieldsGrow 0 more → FieldsGrow 0 (listed n c more)
listed_same {X} {Y} n c more one others = record {
  at_most = λ bytes y are_bytes d.
      let inside = (optional_same n c more one others).at_most bytes d.parts are_bytes d.spelt in
      subst (λ (v : List X × Y). length (optional_spelling n c (unless_empty v.0) ++ more.content.spelling v.1) ≤ length bytes + 0) d.made (by_list (length bytes) d.parts.0 d.parts.1 inside);
}
  where
    by_list : (size : ℕ) (list : Option (List X)) (z : Y) → length (optional_spelling n c list ++ more.content.spelling z) ≤ size + 0
        → length (optional_spelling n c (unless_empty (list_of list)) ++ more.content.spelling z) ≤ size + 0
    by_list size None z le = le
    by_list size (Some []) z le = omega (arith, le, length-append (optional_spelling n c (Some [])) (more.content.spelling z))
    by_list size (Some (x ∷ xs)) z le = le

pub sequence_same : {X : Type 0} (fields : Fields X) → FieldsGrow 0 fields → Grows 0 (sequence fields)
sequence_same fields same = element_of_same 0x30 fields.content (record { at_most = same.at_most })

pub sequence_grows : {X : Type 0} (k : ℕ) (fields : Fields X) → k ≤ 100 → FieldsGrow k fields → Grows (k + 1) (sequence fields)
sequence_grows k fields few grows = element_of_grows k 0x30 fields.content few (record { at_most = grows.at_most })

-- ---- lists

pub items_same : {X : Type 0} (c : Codec X) → Grows 0 c → (bytes : List ℕ) (xs : List X) → IsBytes bytes → AreItems c.IsDer bytes xs → length (flat_map c.spelling xs) ≤ length bytes + 0
items_same c same bytes [] are_bytes d = omega arith
items_same c same bytes (x ∷ xs) are_bytes d =
    let both = parts_are_bytes bytes d.front d.rest are_bytes d.whole in
    let one = same.at_most d.front x both.0 d.first in
    let others = items_same c same d.rest xs both.1 d.second in
    omega (arith, one, others, ap length d.whole, length-append d.front d.rest, ap length (flat_map-cons c.spelling x xs), length-append (c.spelling x) (flat_map c.spelling xs))

pub sequence_of_same : {X : Type 0} (c : Codec X) → Grows 0 c → Grows 0 (sequence_of c)
sequence_of_same c same = element_of_same 0x30 (items c) (record { at_most = items_same c same })

-- ---- single values

pub mapped_same : {X Y : Type 0} (c : Codec X) (make : X → Y) (part_of : Y → X) → ((x : X) → c.Fits x → part_of (make x) ≡ x) → IsCodec c → Grows 0 c → Grows 0 (mapped c make part_of)
mapped_same {X} {Y} c make part_of back lawful same = record {
  at_most = λ bytes y are_bytes d.
      let again = back d.parts (lawful.fits bytes d.parts are_bytes d.spelt) in
      subst (λ (v : Y). length (c.spelling (part_of v)) ≤ length bytes + 0) d.made (subst (λ (x : X). length (c.spelling x) ≤ length bytes + 0) (sym again) (same.at_most bytes d.parts are_bytes d.spelt));
}

pub octets_same : Grows 0 octets
octets_same = element_of_same 4 bytes (record { at_most = λ content x are_bytes d. omega (arith, ap length d) })

pub text_such_same : (passes : List ℕ → Bool) → Grows 0 (text_such passes)
text_such_same passes = element_of_same 0x1b (such passes BadText texts) (record { at_most = λ content x are_bytes d. omega (arith, ap length d.0.0) })

pub int_within_same : (low high : ℤ) → Grows 0 (int_within low high)
int_within_same low high = element_of_same 2 (within low high) (record { at_most = λ content n are_bytes d. omega (arith, ap length (integer_one content n are_bytes d.0)) })

pub uint32_same : Grows 0 uint32
uint32_same = mapped_same _ natural pos (λ n fits. is_natural n fits.1) (int_within_lawful (pos 0) (pos 4294967295)) (int_within_same (pos 0) (pos 4294967295))

pub number_is_same : (n : ℤ) → Grows 0 (number_is n)
number_is_same n = mapped_same (int_within n n) (λ _. tt) (λ _. n) (λ m fits. only_between n m fits.1) (int_within_lawful n n) (int_within_same n n)

pub kerberos_time_same : Grows 0 kerberos_time
kerberos_time_same = element_of_same 0x18 times (record {
  at_most = λ content seconds are_bytes d. let long = long_text content seconds d in let fifteen : length (ktime_text seconds) ≡ 15 = refl in omega (arith, long, fifteen);
})

-- 32 bits are written, however many were read
pub flags_near : Grows 5 flags
flags_near = record {
  at_most = λ bytes x are_bytes d.
      let near : Grows 5 bits = element_of_grows 4 3 bit_strings (omega arith) (record { at_most = λ content n are_bytes d. bits_near content n d }) in
      subst (λ (v : Flags). length (bits.spelling v.0) ≤ length bytes + 5) d.made (near.at_most bytes d.parts are_bytes d.spelt);
}

pub etype_same : Grows 0 etype
etype_same = mapped_same _ _ _ (λ n fits. etype_again n fits.1) (int_within_lawful (pos 17) (pos 18)) (int_within_same (pos 17) (pos 18))

pub key_same : Grows 0 encryption_key
key_same = sequence_same fields (fitting_grows 0 parts make parts_of key_again parts_lawful (
    depending_same 0 _ _ etype_same (λ e.
    field_same 1 _ _ (key_octets_same e)
    end_same)))
  where
    key_octets_same : (e : Etype) → Grows 0 (key_octets e)
    key_octets_same e = element_of_same 4 (such (λ octets. eqb (length octets) (key_length e)) LengthForm bytes) (record { at_most = λ content x are_bytes d. omega (arith, ap length d.0) })

    parts_lawful : AreFields parts
    parts_lawful = depending_lawful 0 _ _ etype_lawful (λ e. field_lawful 1 _ _ (key_octets_lawful e) end_lawful)
