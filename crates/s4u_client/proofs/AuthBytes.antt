-- What is written of an authenticator and of a timestamp is bytes.
use Rattle.std.proofs.Common.{◌≡◌, ℕ, zero, suc, ◌<◌, ◌≤◌, ℤ, pos, Bool, true, false, cond, List, [], ◌∷◌, ◌++◌, length, get_or, Option, Some, None, refl, arith}
use Rattle.std.specs.Str.{IsAscii}
use Rattle.std.proofs.lemmas.Str.{IsUtf8-from_ascii, chars-IsAscii, is_utf8-from_IsUtf8}
use Rattle.std.proofs.lemmas.Str.Ascii.{IsAscii-cons, IsAscii-nil}
use Rattle.std.specs.Prelude.{IfSome, replicate}
use Rattle.std.specs.Int.{w32, w64, to_be_bytes, cast_unsigned}
use Rattle.der_core.specs.Codec.{Codec}
use Rattle.der_core.specs.Elements.{element}
use Rattle.der_core.specs.Forms.{int, number_is}
use Rattle.der_core.specs.Integers.{integer, is_superfluous, shortest}
use Rattle.der_core.specs.Laws.{IsBytes}
use Rattle.der_core.specs.Sizes.{size}
use Rattle.der_core.specs.Steps.{IsBytes-append, IsBytes-front, IsBytes-rest}
use Rattle.der_forms.specs.Fields.{Fields, tag_of, end, field, optional, dropped}
use Rattle.der_forms.specs.Keys.{encryption_key}
use Rattle.der_forms.specs.Lists.{sequence_of}
use Rattle.der_forms.specs.Names.{realm}
use Rattle.der_forms.specs.Times.{kerberos_time, moment_time}
use Rattle.der_forms.specs.Values.{flags as ticket_flags, micros}
use Rattle.krb_names.specs.declared.etype.Etype.TheVariants.{Aes256}
use Rattle.krb_names.specs.declared.key.Key.{Key}
use Rattle.krb_names.specs.declared.moment.Moment.{Moment}
use Rattle.krb_names.specs.declared.principal.Principal.{Principal}
use Rattle.krb_crypto.specs.Checksums.{mac}
use Rattle.krb_crypto.specs.Derivation.{checksum_key}
use Rattle.krb_crypto.specs.KeyedHash.{hmac_sha1}
use Rattle.krb_names.specs.Keys.{key_bytes}
use Rattle.krb_tickets.specs.declared.enc_ticket_part.EncTicketPart.{EncTicketPart}
use Rattle.krb_tickets.specs.AuthItem.{auth_item}
use Rattle.krb_tickets.specs.EncTicketPart.{enc_ticket_part}
use Rattle.krb_tickets.specs.EncTicketPart as part_form
use Rattle.krb_tickets.specs.HostAddress.{host_address}
use Rattle.krb_tickets.specs.PrincipalName.{name_of, principal_name}
use Rattle.krb_tickets.specs.Transited.{is_realm, transited}
use Rattle.ticket_laws.specs.Writable.{IsWritablePart}
use Rattle.ticket_laws.proofs.Bytes.{element_bytes, last}
use Rattle.pac_laws.proofs.Bytes.{IsBytes-be, IsBytes-nil, IsBytes-tail, IsBytes-zeros}
use Rattle.ticket_codec.proofs.PartBytes.{part_bytes}
use Rattle.ticket_parts.proofs.Bytes.{IsBytes-take}
use Rattle.sha1.specs.Sha1.{digest_bytes, sha1}
use Rattle.krb_messages.specs.declared.authenticator.Authenticator.{Authenticator}
use Rattle.krb_messages.specs.declared.checksum.Checksum.{Checksum}
use Rattle.krb_messages.specs.Authenticator.{authenticator}
use Rattle.krb_messages.specs.Authenticator as auth_form
use Rattle.krb_messages.specs.Checksum.{checksum_form}
use Rattle.krb_messages.specs.PaEncTsEnc.{pa_enc_ts_enc}
use Rattle.krb_messages.specs.PaEncTsEnc as stamp_form
use Rattle.s4u_client.specs.Requests.{authenticator_at, body_sum, stamp_at}
use Rattle.s4u_client.specs.Writable.{IsName, IsWhole}

-- ---- numbers

by_test : (test : Bool) (a b : List ℕ) → IsBytes a → IsBytes b → IsBytes (cond test a b)
by_test true a b h k = h
by_test false a b h k = k

shortest_bytes : (bytes : List ℕ) → IsBytes bytes → IsBytes (shortest bytes)
shortest_bytes [] h = h
shortest_bytes (b ∷ bytes) h = by_test (is_superfluous b bytes) (shortest bytes) (b ∷ bytes) (shortest_bytes bytes (IsBytes-tail b bytes h)) h

number_bytes : (n : ℤ) → IsBytes (element 2 (integer n))
unfolding integer
number_bytes n = element_bytes 2 (integer n) (omega arith) (shortest_bytes (to_be_bytes w64 (cast_unsigned w64 n)) (IsBytes-be w64 (cast_unsigned w64 n)))

-- ---- the fields of a SEQUENCE

content_bytes : (tag : ℕ) (content : List ℕ) → IsBytes (element tag content) → IsBytes content
content_bytes tag content h = IsBytes-rest (size (length content)) content (IsBytes-tail tag (size (length content) ++ content) h)

record OfBytes {X : Type 0} (fields : Fields X) (x : X) : Type 0 where
  spelt : IsBytes (fields.content.spelling x)

optional_bytes : {X Y : Type 0} (k : ℕ) (c : Codec X) (more : Fields Y) (x : Option X) (y : Y) → tag_of k < 256 → IfSome x (λ x. IsBytes (c.spelling x)) → OfBytes more y → OfBytes (optional k c more) (x, y)
optional_bytes k c more None y small one rest = record { spelt = rest.spelt }
optional_bytes k c more (Some x) y small one rest =
    record { spelt = IsBytes-append (element (tag_of k) (c.spelling x)) (more.content.spelling y) (element_bytes (tag_of k) (c.spelling x) small one) rest.spelt }

field_bytes : {X Y : Type 0} (k : ℕ) (c : Codec X) (more : Fields Y) (x : X) (y : Y) → tag_of k < 256 → IsBytes (c.spelling x) → OfBytes more y → OfBytes (field k c more) (x, y)
field_bytes k c more x y small one rest = record { spelt = (optional_bytes k c more (Some x) y small one rest).spelt }

dropped_bytes : {X Y : Type 0} (k : ℕ) (c : Codec X) (more : Fields Y) (y : Y) → OfBytes more y → OfBytes (dropped k c more) y
dropped_bytes k c more y rest = record { spelt = rest.spelt }

end_bytes : OfBytes end tt
end_bytes = record { spelt = IsBytes-nil }

-- the front field, and those behind it
front_of : {X Y : Type 0} (k : ℕ) (c : Codec X) (more : Fields Y) (x : X) (y : Y) → OfBytes (field k c more) (x, y) → IsBytes (c.spelling x) × OfBytes more y
front_of k c more x y h =
    let front : List ℕ = element (tag_of k) (c.spelling x) in
    let rest : List ℕ = more.content.spelling y in
    (content_bytes (tag_of k) (c.spelling x) (IsBytes-front front rest h.spelt), record { spelt = IsBytes-rest front rest h.spelt })

-- ---- names, times and keys: they are written in a ticket too

-- a part that has them
abbrev part_with : Principal → ℕ → Key → EncTicketPart
part_with client time key = record {
  flags = 0;
  key = key;
  client = client;
  transited = [];
  auth = time;
  start = None;
  end = 0;
  items = [];
}

part_is : (client : Principal) (time : ℕ) (key : Key) → IsName client → time ≤ 253402300799 → IsWhole key → IsBytes key.raw → IsWritablePart (part_with client time key)
part_is client time key n early k octets = record {
  flags = omega arith;
  key_length = k.long;
  key_octets = octets;
  key_padding = k.padded;
  crealm = n.realm;
  cname_kind = n.kind;
  cname_parts = n.parts;
  transited = refl;
  auth = early;
  start = tt;
  end = omega arith;
  items = tt;
}

record AreWritten (client : Principal) (seconds : ℕ) (session : Key) : Type 0 where
  key : IsBytes (encryption_key.spelling session)
  crealm : IsBytes (realm.spelling client.realm)
  cname : IsBytes (principal_name.spelling (name_of client))
  time : IsBytes (kerberos_time.spelling seconds)

are_written : (client : Principal) (time : ℕ) (key : Key) → IsName client → time ≤ 253402300799 → IsWhole key → IsBytes key.raw → AreWritten client time key
are_written client time key n early k octets =
    let p : EncTicketPart = part_with client time key in
    let fields : List ℕ = part_form.parts.content.spelling (part_form.parts_of p) in
    let inside : IsBytes fields = content_bytes 48 fields (content_bytes 99 (element 48 fields) (part_bytes p (part_is client time key n early k octets))) in
    let all : OfBytes part_form.parts (part_form.parts_of p) = record { spelt = inside } in
    let one = front_of 0 ticket_flags _ _ _ all in
    let two = front_of 1 encryption_key _ _ _ one.1 in
    let three = front_of 2 realm _ _ _ two.1 in
    let four = front_of 3 principal_name _ _ _ three.1 in
    let five = front_of 4 transited _ _ _ four.1 in
    let behind = optional 6 kerberos_time (field 7 kerberos_time (dropped 8 kerberos_time (dropped 9 (sequence_of host_address) last))) in
    let six = front_of 5 kerberos_time behind _ _ five.1 in
    record { key = two.0; crealm = three.0; cname = four.0; time = six.0 }

-- ---- checksums

digest_is_bytes : (h : List ℕ) (n : ℕ) → IsBytes (digest_bytes h n)
unfolding digest_bytes
digest_is_bytes h zero = IsBytes-nil
digest_is_bytes h (suc n) = IsBytes-append (digest_bytes h n) (to_be_bytes w32 (get_or h n 0)) (digest_is_bytes h n) (IsBytes-be w32 (get_or h n 0))

sha1_is_bytes : (m : List ℕ) → IsBytes (sha1 m)
unfolding sha1
sha1_is_bytes m = digest_is_bytes _ 5

mac_bytes : (key : Key) (usage : ℕ) (text : List ℕ) → IsBytes (mac key usage text)
mac_bytes key usage text = IsBytes-take 12 (hmac_sha1 (key_bytes (checksum_key key usage)) text) (sha1_is_bytes _)

two_fields : (first second : List ℕ) → IsBytes first → IsBytes second → IsBytes (element 48 (element 160 first ++ (element 161 second ++ [])))
two_fields first second a b =
    let front = element_bytes 160 first (omega arith) a in
    let rest = IsBytes-append (element 161 second) [] (element_bytes 161 second (omega arith) b) IsBytes-nil in
    element_bytes 48 (element 160 first ++ (element 161 second ++ [])) (omega arith) (IsBytes-append (element 160 first) (element 161 second ++ []) front rest)

sum_bytes : (x : Checksum) → IsBytes x.checksum → IsBytes (checksum_form.spelling x)
sum_bytes x h = two_fields (element 2 (integer x.cksumtype)) (element 4 x.checksum) (number_bytes x.cksumtype) (element_bytes 4 x.checksum (omega arith) h)

-- ---- Authenticator (RFC 4120, section 5.5.1)

-- its checksum and its subkey, where it has them
record AreOfBytes (sum : Option Checksum) (subkey : Option Key) : Type 0 where
  cksum : IfSome sum (λ sum. IsBytes (checksum_form.spelling sum))
  key : IfSome subkey (λ key. IsBytes (encryption_key.spelling key))

auth_bytes : (client : Principal) (now : Moment) (key : Key) (sum : Option Checksum) (subkey : Option Key) → AreWritten client now.secs key → AreOfBytes sum subkey
    → IsBytes (authenticator.spelling (authenticator_at client now sum subkey))
unfolding authenticator
auth_bytes client now key sum subkey w o =
    let x : Authenticator = authenticator_at client now sum subkey in
    let fields : OfBytes auth_form.parts (auth_form.parts_of x) =
    field_bytes 0 (number_is (pos 5)) _ _ _ (omega arith) (number_bytes (pos 5)) (
    field_bytes 1 realm _ _ _ (omega arith) w.crealm (
    field_bytes 2 principal_name _ _ _ (omega arith) w.cname (
    optional_bytes 3 checksum_form _ _ _ (omega arith) o.cksum (
    field_bytes 4 micros _ _ _ (omega arith) (number_bytes (pos now.micros)) (
    field_bytes 5 moment_time _ _ _ (omega arith) w.time (
    optional_bytes 6 encryption_key _ _ _ (omega arith) o.key (
    optional_bytes 7 int _ None _ (omega arith) tt (
    dropped_bytes 8 (sequence_of auth_item) _ _
    end_bytes)))))))) in
    let inside : List ℕ = auth_form.parts.content.spelling (auth_form.parts_of x) in
    element_bytes 98 (element 48 inside) (omega arith) (element_bytes 48 inside (omega arith) fields.spelt)

-- a key of zeros
abbrev no_key : Key
no_key = record { etype = Aes256; raw = replicate 32 0 }

no_key_is : IsWhole no_key
no_key_is = record { long = refl; padded = refl }

early : (now : Moment) → now.secs ≤ 253402300799
early now = let low = now.in_range in omega (arith, low)

-- that of a service
pub service_auth_bytes : (client : Principal) (now : Moment) → IsName client → IsBytes (authenticator.spelling (authenticator_at client now None None))
service_auth_bytes client now n =
    auth_bytes client now no_key None None (are_written client now.secs no_key n (early now) no_key_is (IsBytes-zeros 32)) (record { cksum = tt; key = tt })

-- that of a TGS-REQ
pub header_auth_bytes : (client : Principal) (now : Moment) (session subkey : Key) (body : List ℕ) → IsName client → IsWhole subkey → IsBytes subkey.raw
    → IsBytes (authenticator.spelling (authenticator_at client now (Some (body_sum session body)) (Some subkey)))
header_auth_bytes client now session subkey body n k octets =
    let w = are_written client now.secs subkey n (early now) k octets in
    auth_bytes client now subkey (Some (body_sum session body)) (Some subkey) w (record { cksum = sum_bytes (body_sum session body) (mac_bytes session 6 body); key = w.key })

-- ---- PA-ENC-TS-ENC (RFC 4120, section 5.2.7.2)

-- a name that can be written
abbrev some_text : List ℕ
some_text = 97 ∷ []

abbrev some_name : Principal
some_name = record { kind = pos 1; parts = some_text ∷ []; realm = some_text }

is_ascii : IsAscii some_text
is_ascii = IsAscii-cons 97 [] (omega arith) IsAscii-nil

is_text : is_realm some_text ≡ true
is_text = rw (is_utf8-from_IsUtf8 some_text (IsUtf8-from_ascii some_text is_ascii), chars-IsAscii some_text is_ascii) refl

some_name_is : IsName some_name
some_name_is = record { kind = record { sfits = omega arith }; parts = rw is_text refl; realm = is_text }

pub stamp_bytes : (now : Moment) → IsBytes (pa_enc_ts_enc.spelling (stamp_at now))
stamp_bytes now =
    let w = are_written some_name now.secs no_key some_name_is (early now) no_key_is (IsBytes-zeros 32) in
    let fields : OfBytes stamp_form.parts (stamp_form.parts_of (stamp_at now)) =
    field_bytes 0 moment_time _ _ _ (omega arith) w.time (
    optional_bytes 1 micros _ _ _ (omega arith) (number_bytes (pos now.micros))
    end_bytes) in
    element_bytes 48 (stamp_form.parts.content.spelling (stamp_form.parts_of (stamp_at now))) (omega arith) fields.spelt
