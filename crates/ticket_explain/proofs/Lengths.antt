-- A line of hex is not shorter than its bytes, and a ticket not shorter than what is sealed in it.
use Rattle.std.proofs.Common.{◌≡◌, ℕ, pos, ◌-◌, ◌*◌, ◌+◌, ◌<◌, ◌≤◌, ◌^◌, Bool, true, false, cond, eqb, List, [], ◌++◌, length, take, Ok, arith, length-append}
use Rattle.std.specs.Prelude.{slice_index}
use Rattle.std.proofs.lemmas.List.{length-take}
use Rattle.hex.specs.Hex.{decode_of}
use Rattle.hex.proofs.HexLemmas.{decode_of-ok}
use Rattle.kdc_prelude.specs.Lines.{without_last_newline}
use Rattle.der_core.specs.Elements.{element}
use Rattle.der_core.specs.Sizes.{size}
use Rattle.der_core.specs.Forms.{int32, number_is, uint32}
use Rattle.der_forms.specs.Fields.{optional_spelling, tag_of}
use Rattle.der_forms.specs.Names.{realm}
use Rattle.krb_tickets.specs.declared.encrypted_data.EncryptedData.{EncryptedData}
use Rattle.krb_tickets.specs.declared.ticket.Ticket.{Ticket}
use Rattle.krb_tickets.specs.EncryptedData.{encrypted_data}
use Rattle.krb_tickets.specs.PrincipalName.{name_of, principal_name}
use Rattle.krb_tickets.specs.Ticket.{ticket}

no_longer : (text : List ℕ) → length (without_last_newline text) ≤ length text
no_longer text = by_test (eqb (slice_index text (length text - 1)) 10)
  where
    by_test : (b : Bool) → length (cond b (take (length text - 1) text) text) ≤ length text
    by_test true = omega (arith, length-take (length text - 1) text)
    by_test false = omega arith

pub few_bytes : (text line bytes : List ℕ) → length text < 2 ^ 32 → line ≡ without_last_newline text → decode_of line ≡ Ok bytes → length bytes < 2 ^ 31
few_bytes text line bytes short is decoded =
    let pairs = (decode_of-ok line bytes decoded).2 in
    let le = no_longer text in
    let same = is in
    by_lengths (length text) (length line) (length bytes) short (rw same le) pairs
  where
    by_lengths : (n m k : ℕ) → n < 2 ^ 32 → m ≤ n → m ≡ 2 * k → k < 2 ^ 31
    by_lengths n m k short le e = omega arith

through : {a b c : ℕ} → a ≤ b → b ≤ c → a ≤ c
through h k = omega arith

content_within : (tag : ℕ) (content : List ℕ) → length content ≤ length (element tag content)
content_within tag content = omega (arith, length-append (size (length content)) content)

later_within : (front content : List ℕ) → length content ≤ length (front ++ content)
later_within front content = omega (arith, length-append front content)

-- what the last field of a SEQUENCE holds
last_within : (tag : ℕ) (content : List ℕ) → length content ≤ length (element tag content ++ [])
last_within tag content = through (content_within tag content) (omega (arith, length-append (element tag content) []))

sealed_within : (x : EncryptedData) → length x.cipher ≤ length (encrypted_data.spelling x)
sealed_within x =
    let cipher = element 4 x.cipher in
    let third = element (tag_of 2) cipher ++ [] in
    let second = optional_spelling 1 uint32 x.kvno ++ third in
    let first = element (tag_of 0) (int32.spelling x.etype) ++ second in
    through (content_within 4 x.cipher) (
    through (last_within (tag_of 2) cipher) (
    through (later_within (optional_spelling 1 uint32 x.kvno) third) (
    through (later_within (element (tag_of 0) (int32.spelling x.etype)) second) (
    content_within 0x30 first))))

pub cipher_within : (t : Ticket) → length t.sealed.cipher ≤ length (ticket.spelling t)
cipher_within t =
    let sealed = encrypted_data.spelling t.sealed in
    let fourth = element (tag_of 3) sealed ++ [] in
    let name = element (tag_of 2) (principal_name.spelling (name_of t.sname)) in
    let third = name ++ fourth in
    let issuer = element (tag_of 1) (realm.spelling t.realm) in
    let second = issuer ++ third in
    let number = element (tag_of 0) ((number_is (pos 5)).spelling tt) in
    let first = number ++ second in
    through (sealed_within t.sealed) (
    through (last_within (tag_of 3) sealed) (
    through (later_within name fourth) (
    through (later_within issuer third) (
    through (later_within number second) (
    through (content_within 0x30 first) (
    content_within 0x61 (element 0x30 first)))))))

-- what can be opened of a line of hex
pub few_sealed : (t : Ticket) (bytes : List ℕ) → length bytes < 2 ^ 31 → length (ticket.spelling t) ≤ length bytes → length t.sealed.cipher < 2 ^ 31
few_sealed t bytes few le = through_below (length t.sealed.cipher) (length (ticket.spelling t)) (length bytes) (cipher_within t) le few
  where
    through_below : (k m n : ℕ) → k ≤ m → m ≤ n → n < 2 ^ 31 → k < 2 ^ 31
    through_below k m n within le few = omega arith
