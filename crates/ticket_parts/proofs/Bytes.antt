-- The bytes of a signed PAC are bytes.
use Rattle.std.proofs.Common.{ℕ, zero, suc, ℤ, Bool, true, false, cond, List, [], ◌∷◌, ◌++◌, get_or, length, take, replicate, Option, Some, None, sym, subst}
use Rattle.std.specs.Prelude.{IfSome, nat_eq}
use Rattle.std.specs.List.{AllByRecursion, flat_map}
use Rattle.std.specs.Int.{w32, w64, to_be_bytes, to_le_bytes}
use Rattle.std.proofs.lemmas.List.Concat.{flat_map-cons}
use Rattle.krb_crypto.specs.Derivation.{checksum_key}
use Rattle.krb_crypto.specs.KeyedHash.{hmac_sha1}
use Rattle.krb_names.specs.declared.key.Key.{Key}
use Rattle.krb_names.specs.Keys.{key_bytes}
use Rattle.ndr_core.specs.Laws.{IsBytes}
use Rattle.ndr_core.specs.Object.{padded}
use Rattle.pac_buffers.specs.declared.info_buffer.InfoBuffer.{InfoBuffer}
use Rattle.pac_buffers.specs.Buffers.{Buffer, built, contents, entry_bytes, header, pac, placed, unsigned, with_sum}
use Rattle.pac_buffers.specs.Container.{list_end}
use Rattle.pac_buffers.specs.Signature.{natural}
use Rattle.pac_laws.proofs.Bytes.{IsBytes-append, IsBytes-be, IsBytes-cons, IsBytes-le, IsBytes-nil, IsBytes-tail, IsBytes-zeros, padded_keeps}
use Rattle.pac_sign.specs.Signed.{signed}
use Rattle.pac_sign.specs.Sums.{sum_of}
use Rattle.sha1.specs.Sha1.{digest_bytes, sha1}

pub IsBytes-take : (n : ℕ) (bytes : List ℕ) → IsBytes bytes → IsBytes (take n bytes)
IsBytes-take zero bytes h = IsBytes-nil
IsBytes-take (suc n) [] h = IsBytes-nil
IsBytes-take (suc n) (b ∷ bytes) h = IsBytes-cons b (take n bytes) (h 0) (IsBytes-take n bytes (IsBytes-tail b bytes h))

-- ---- checksums

digest_is_bytes : (h : List ℕ) (n : ℕ) → IsBytes (digest_bytes h n)
unfolding digest_bytes
digest_is_bytes h zero = IsBytes-nil
digest_is_bytes h (suc n) = IsBytes-append (digest_bytes h n) (to_be_bytes w32 (get_or h n 0)) (digest_is_bytes h n) (IsBytes-be w32 (get_or h n 0))

sha1_is_bytes : (m : List ℕ) → IsBytes (sha1 m)
unfolding sha1
sha1_is_bytes m = digest_is_bytes _ 5

sum_is_bytes : (key : Key) (text : List ℕ) → IsBytes (sum_of key text)
sum_is_bytes key text = IsBytes-take 12 (hmac_sha1 (key_bytes (checksum_key key 17)) text) (sha1_is_bytes _)

-- ---- buffers

abbrev pub AreOfBytes : List Buffer → Type 0
AreOfBytes bs = AllByRecursion (λ b. IsBytes b.content) bs

value_of_bytes : (t : Bool) (sum : List ℕ) (b : Buffer) → IsBytes sum → IsBytes b.content → IsBytes (cond t (record { kind = b.kind; content = take 4 b.content ++ sum }) b).content
value_of_bytes true sum b s h = IsBytes-append (take 4 b.content) sum (IsBytes-take 4 b.content h) s
value_of_bytes false sum b s h = h

sums_of_bytes : (kind : ℕ) (sum : List ℕ) (bs : List Buffer) → IsBytes sum → AreOfBytes bs → AreOfBytes (with_sum kind sum bs)
sums_of_bytes kind sum [] s h = tt
sums_of_bytes kind sum (b ∷ bs) s h = (value_of_bytes (nat_eq b.kind kind) sum b s h.0, sums_of_bytes kind sum bs s h.1)

pub signed_of_bytes : (holder realm : Key) (part : Option (List ℕ)) (bs : List Buffer) → AreOfBytes bs → AreOfBytes (signed holder realm part bs)
unfolding signed
signed_of_bytes holder realm None bs h = sums_of_bytes 7 _ _ (sum_is_bytes realm _) (sums_of_bytes 6 _ bs (sum_is_bytes holder _) h)
signed_of_bytes holder realm (Some part) bs h =
    let first : AreOfBytes (with_sum 16 (sum_of realm part) bs) = sums_of_bytes 16 (sum_of realm part) bs (sum_is_bytes realm part) h in
    sums_of_bytes 7 _ _ (sum_is_bytes realm _) (sums_of_bytes 6 _ _ (sum_is_bytes holder _) first)

unsigned_of_bytes : (kind : ℕ) (sum_type : ℤ) → IsBytes (unsigned kind sum_type).content
unsigned_of_bytes kind sum_type = IsBytes-append (to_le_bytes w32 (natural sum_type)) (replicate 12 0) (IsBytes-le w32 (natural sum_type)) (IsBytes-zeros 12)

pub built_of_bytes : (logon client : List ℕ) (delegation : Option (List ℕ)) (ticket : Bool) (server realm : ℤ) → IsBytes logon → IsBytes client → IfSome delegation (λ x. IsBytes x) → AreOfBytes (built logon client delegation ticket server realm)
built_of_bytes logon client None false server realm a b c = (a, (b, (unsigned_of_bytes 6 server, (unsigned_of_bytes 7 realm, tt))))
built_of_bytes logon client None true server realm a b c = (a, (b, (unsigned_of_bytes 6 server, (unsigned_of_bytes 7 realm, (unsigned_of_bytes 16 realm, tt)))))
built_of_bytes logon client (Some x) false server realm a b c = (a, (b, (c, (unsigned_of_bytes 6 server, (unsigned_of_bytes 7 realm, tt)))))
built_of_bytes logon client (Some x) true server realm a b c = (a, (b, (c, (unsigned_of_bytes 6 server, (unsigned_of_bytes 7 realm, (unsigned_of_bytes 16 realm, tt))))))

-- ---- the container

entry_of_bytes : (e : InfoBuffer) → IsBytes (entry_bytes e)
entry_of_bytes e =
    let size : List ℕ = to_le_bytes w32 e.size in
    let offset : List ℕ = to_le_bytes w64 e.offset in
    IsBytes-append (to_le_bytes w32 e.kind) (size ++ offset) (IsBytes-le w32 e.kind) (IsBytes-append size offset (IsBytes-le w32 e.size) (IsBytes-le w64 e.offset))

entries_of_bytes : (es : List InfoBuffer) → IsBytes (flat_map entry_bytes es)
entries_of_bytes [] = IsBytes-nil
entries_of_bytes (e ∷ es) = subst IsBytes (sym (flat_map-cons entry_bytes e es)) (IsBytes-append (entry_bytes e) (flat_map entry_bytes es) (entry_of_bytes e) (entries_of_bytes es))

contents_of_bytes : (bs : List Buffer) → AreOfBytes bs → IsBytes (contents bs)
contents_of_bytes [] h = IsBytes-nil
contents_of_bytes (b ∷ bs) h =
    subst IsBytes (sym (flat_map-cons (λ (c : Buffer). padded c.content) b bs)) (IsBytes-append (padded b.content) (contents bs) (padded_keeps b.content h.0) (contents_of_bytes bs h.1))

pub pac_of_bytes : (bs : List Buffer) → AreOfBytes bs → IsBytes (pac bs)
unfolding pac
pac_of_bytes bs h =
    let head : IsBytes (header (length bs)) = IsBytes-append (to_le_bytes w32 (length bs)) (to_le_bytes w32 0) (IsBytes-le w32 (length bs)) (IsBytes-le w32 0) in
    let es : List InfoBuffer = placed (list_end (length bs)) bs in
    IsBytes-append (header (length bs) ++ flat_map entry_bytes es) (contents bs) (IsBytes-append (header (length bs)) (flat_map entry_bytes es) head (entries_of_bytes es)) (contents_of_bytes bs h)
