-- Which values that were read are of bytes.
use Rattle.std.proofs.Common.{ℕ, zero, suc, ◌+◌, ◌-◌, ◌<◌, List, [], ◌∷◌, ◌++◌, length, take, drop, replicate, Option, Some, None, sym, subst, arith, inl, inr}
use Rattle.std.specs.Int.{w32, to_be_bytes, byte_at, bytes_high_first}
use Rattle.std.specs.List.{AllByRecursion}
use Rattle.std.proofs.lemmas.Bool.{cases_lt}
use Rattle.std.proofs.lemmas.List.{take-append-drop}
use Rattle.der_core.specs.Codec.{Codec}
use Rattle.der_core.specs.CodecLaws.{IsBytes-content}
use Rattle.der_core.specs.Forms.{int32, uint32}
use Rattle.der_core.specs.Forms.{octets as octets_form}
use Rattle.der_core.specs.Laws.{IsBytes}
use Rattle.der_core.specs.Elements.{element}
use Rattle.der_core.specs.Sizes.{size, width_of}
use Rattle.der_core.specs.SizeLaws.{width_within, size_short, size_long}
use Rattle.der_core.specs.Steps.{IsBytes-append, IsBytes-front, IsBytes-rest}
use Rattle.der_forms.specs.Fields.{Fields, Are, tag_of, end, field, optional, dropped, listed, list_of, IsOptional}
use Rattle.der_forms.specs.Keys.{encryption_key}
use Rattle.der_forms.specs.Lists.{AreItems, sequence_of}
use Rattle.krb_names.specs.declared.key.Key.{Key}
use Rattle.krb_tickets.specs.declared.auth_item.AuthItem.{AuthItem}
use Rattle.krb_tickets.specs.declared.encrypted_data.EncryptedData.{EncryptedData}
use Rattle.krb_tickets.specs.AuthItem.{auth_item}
use Rattle.krb_tickets.specs.EncryptedData.{encrypted_data}

-- ---- the fields of a SEQUENCE

-- both parts of bytes are bytes
halves : {Front Rest : List ℕ → Type 0} (bytes : List ℕ) (d : Are Front Rest bytes) → IsBytes bytes → IsBytes d.front × IsBytes d.rest
halves bytes d h =
    let all : IsBytes (d.front ++ d.rest) = subst IsBytes d.whole h in
    (IsBytes-front d.front d.rest all, IsBytes-rest d.front d.rest all)

-- fields of bytes give values that pass
pub record Keeps {X : Type 0} (fields : Fields X) (P : X → Type 0) : Type 0 where
  pub keeps : (bytes : List ℕ) (x : X) → IsBytes bytes → fields.content.IsDer bytes x → P x

pub end_keeps : Keeps end (λ x. Unit {0})
end_keeps = record { keeps = λ bytes x h d. tt }

pub field_keeps : {X Y : Type 0} (k : ℕ) (c : Codec X) (more : Fields Y) (P : X → Type 0) (Q : Y → Type 0) → ((bytes : List ℕ) (x : X) → IsBytes bytes → c.IsDer bytes x → P x) → Keeps more Q
    → Keeps (field k c more) (λ x. P x.0 × Q x.1)
field_keeps k c more P Q one rest = record {
  keeps = λ bytes x h d.
      let parts = halves bytes d h in
      (one d.first.content x.0 (IsBytes-content (tag_of k) d.front d.first.content parts.0 d.first.outside) d.first.inside, rest.keeps d.rest x.1 parts.1 d.second);
}

pub field_passed : {X Y : Type 0} (k : ℕ) (c : Codec X) (more : Fields Y) (Q : Y → Type 0) → Keeps more Q → Keeps (field k c more) (λ x. Q x.1)
field_passed k c more Q rest = record { keeps = λ bytes x h d. rest.keeps d.rest x.1 (halves bytes d h).1 d.second }

pub optional_passed : {X Y : Type 0} (k : ℕ) (c : Codec X) (more : Fields Y) (Q : Y → Type 0) → Keeps more Q → Keeps (optional k c more) (λ x. Q x.1)
optional_passed k c more Q rest = record { keeps = λ bytes x h d. rest.keeps d.rest x.1 (halves bytes d h).1 d.second }

pub dropped_passed : {X Y : Type 0} (k : ℕ) (c : Codec X) (more : Fields Y) (Q : Y → Type 0) → Keeps more Q → Keeps (dropped k c more) Q
dropped_passed k c more Q rest = record {
  keeps = λ bytes x h d. subst Q d.made (rest.keeps d.spelt.rest d.parts.1 (halves bytes d.spelt h).1 d.spelt.second);
}

-- ---- octets

zeros : (k : ℕ) → IsBytes (replicate k 0)
zeros zero i = omega arith
zeros (suc k) zero = omega arith
zeros (suc k) (suc i) = zeros k i

pub key_keeps : (bytes : List ℕ) (key : Key) → IsBytes bytes → encryption_key.IsDer bytes key → IsBytes key.raw
key_keeps bytes key h d =
    let octets : List ℕ = d.inside.parts.1.0 in
    let fields = halves d.content d.inside.spelt (IsBytes-content 48 bytes d.content h d.outside) in
    let second = d.inside.spelt.second in
    let element = IsBytes-content 161 second.front second.first.content (halves d.inside.spelt.rest second fields.1).0 second.first.outside in
    let inside = IsBytes-content 4 second.first.content second.first.inside.content element second.first.inside.outside in
    let own : IsBytes octets = subst IsBytes second.first.inside.inside.0 inside in
    subst (λ (k : Key). IsBytes k.raw) d.inside.made (IsBytes-append octets (replicate (32 - length octets) 0) own (zeros (32 - length octets)))

pub octets_keep : (bytes octets : List ℕ) → IsBytes bytes → octets_form.IsDer bytes octets → IsBytes octets
octets_keep bytes octets h d = subst IsBytes d.inside (IsBytes-content 4 bytes d.content h d.outside)

pub item_keeps : (bytes : List ℕ) (x : AuthItem) → IsBytes bytes → auth_item.IsDer bytes x → IsBytes x.content
item_keeps bytes x h d =
    let fields = field_passed 0 int32 _ _ (field_keeps 1 octets_form _ _ _ octets_keep end_keeps) in
    let own = fields.keeps d.content d.inside.parts (IsBytes-content 48 bytes d.content h d.outside) d.inside.spelt in
    subst (λ (x : AuthItem). IsBytes x.content) d.inside.made own.0

pub sealed_keeps : (bytes : List ℕ) (x : EncryptedData) → IsBytes bytes → encrypted_data.IsDer bytes x → IsBytes x.cipher
sealed_keeps bytes x h d =
    let fields = field_passed 0 int32 _ _ (optional_passed 1 uint32 _ _ (field_keeps 2 octets_form _ _ _ octets_keep end_keeps)) in
    let own = fields.keeps d.content d.inside.parts (IsBytes-content 48 bytes d.content h d.outside) d.inside.spelt in
    subst (λ (x : EncryptedData). IsBytes x.cipher) d.inside.made own.0

-- ---- authorization data

abbrev pub AreOfBytes : List AuthItem → Type 0
AreOfBytes items = AllByRecursion (λ item. IsBytes item.content) items

items_keep : (bytes : List ℕ) (items : List AuthItem) → IsBytes bytes → AreItems auth_item.IsDer bytes items → AreOfBytes items
items_keep bytes [] h d = tt
items_keep bytes (x ∷ xs) h d = let parts = halves bytes d h in (item_keeps d.front x parts.0 d.first, items_keep d.rest xs parts.1 d.second)

abbrev pub last : Fields (List AuthItem × Unit {0})
last = listed 10 (sequence_of auth_item) end

list_keeps : (bytes : List ℕ) (items : Option (List AuthItem)) → IsBytes bytes → IsOptional 10 (sequence_of auth_item) bytes items → AreOfBytes (list_of items)
list_keeps bytes None h d = tt
list_keeps bytes (Some items) h d =
    let element = IsBytes-content 170 bytes d.content h d.outside in
    items_keep d.inside.content items (IsBytes-content 48 d.content d.inside.content element d.inside.outside) d.inside.inside

pub last_keeps : Keeps last (λ x. AreOfBytes x.0)
last_keeps = record {
  keeps = λ bytes x h d.
      subst (λ (v : List AuthItem × Unit {0}). AreOfBytes v.0) d.made (list_keeps d.spelt.front d.parts.0 (halves bytes d.spelt h).0 d.spelt.first);
}

-- ---- what is written of bytes is of bytes

pub IsBytes-cons : (b : ℕ) (bytes : List ℕ) → b < 256 → IsBytes bytes → IsBytes (b ∷ bytes)
IsBytes-cons b bytes small h zero = small
IsBytes-cons b bytes small h (suc i) = h i

digit_small : (k n : ℕ) → byte_at k n < 256
digit_small zero n = omega arith
digit_small (suc k) n = omega arith

digits_bytes : (k n : ℕ) → IsBytes (bytes_high_first k n)
digits_bytes zero n = zeros 0
digits_bytes (suc k) n = IsBytes-cons (byte_at k n) (bytes_high_first k n) (digit_small k n) (digits_bytes k n)

size_bytes : (n : ℕ) → IsBytes (size n)
size_bytes n =
    elim (cases_lt n 128) [
      | inl a ↦ subst IsBytes (sym (size_short n a)) (IsBytes-cons n [] (omega arith) (zeros 0))
      | inr a ↦
          let whole = take-append-drop (4 - width_of n) (to_be_bytes w32 n) in
          let digits = IsBytes-rest (take (4 - width_of n) (to_be_bytes w32 n)) (drop (4 - width_of n) (to_be_bytes w32 n)) (subst IsBytes (sym whole) (digits_bytes 4 n)) in
          subst IsBytes (sym (size_long n a)) (IsBytes-cons (128 + width_of n) (drop (4 - width_of n) (to_be_bytes w32 n)) (let w = width_within n in omega (arith, w)) digits)
    ]

pub element_bytes : (tag : ℕ) (content : List ℕ) → tag < 256 → IsBytes content → IsBytes (element tag content)
element_bytes tag content small h = IsBytes-cons tag (size (length content) ++ content) small (IsBytes-append (size (length content)) content (size_bytes (length content)) h)
