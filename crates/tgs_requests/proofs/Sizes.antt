-- What is sealed in an AP-REQ is no longer than the bytes that it was read from, and a user-id than it is written.
use Rattle.std.proofs.Common.{ℕ, ◌*◌, ◌<◌, ◌≤◌, ◌^◌, pos, List, [], ◌++◌, length, Option, None, Some, subst, ap, length-append, arith}
use Rattle.std.specs.Prelude.{IfOk, IfSome, Result, Ok, Err}
use Rattle.std.specs.List.{AllByRecursion}
use Rattle.der_core.specs.Codec.{Codec}
use Rattle.der_core.specs.Elements.{element, IsElement}
use Rattle.der_core.specs.Forms.{int32, number_is, octets, uint32}
use Rattle.der_core.specs.Sizes.{size}
use Rattle.der_forms.specs.Fields.{Are, end, field, Fields, optional, tag_of}
use Rattle.der_forms.specs.Names.{realm}
use Rattle.der_forms.specs.Values.{flags}
use Rattle.krb_tickets.specs.declared.encrypted_data.EncryptedData.{EncryptedData}
use Rattle.krb_tickets.specs.declared.ticket.Ticket.{Ticket}
use Rattle.krb_tickets.specs.EncryptedData.{encrypted_data}
use Rattle.krb_tickets.specs.PrincipalName.{principal_name}
use Rattle.krb_tickets.specs.Ticket.{ticket}
use Rattle.krb_messages.specs.declared.ap_req.ApReq.{ApReq}
use Rattle.krb_messages.specs.declared.pa_data.PaData.{PaData}
use Rattle.krb_messages.specs.ApReq.{ap_req}
use Rattle.krb_messages.specs.Checksum.{checksum_form}
use Rattle.s4u_padata.specs.declared.x509_user.X509User.{X509User}
use Rattle.s4u_padata.specs.X509User.{x509_user}

-- a content is no longer than its element
inside : (tag : ℕ) (bytes content : List ℕ) → IsElement tag bytes content → length content ≤ length bytes
inside tag bytes content d = omega (arith, ap length d.spelt, length-append (size (length content)) content)

-- parts are no longer than the whole
front_in : {Front Rest : List ℕ → Type 0} (bytes : List ℕ) (d : Are Front Rest bytes) → length d.front ≤ length bytes
front_in bytes d = omega (arith, ap length d.whole, length-append d.front d.rest)

rest_in : {Front Rest : List ℕ → Type 0} (bytes : List ℕ) (d : Are Front Rest bytes) → length d.rest ≤ length bytes
rest_in bytes d = omega (arith, ap length d.whole, length-append d.front d.rest)

-- the fields' bytes are at least as many as a value's size
record Within {X : Type 0} (fields : Fields X) (size_of : X → ℕ) : Type 0 where
  at_most : (bytes : List ℕ) (x : X) → fields.content.IsDer bytes x → size_of x ≤ length bytes

field_within : {X Y : Type 0} (k : ℕ) (c : Codec X) (more : Fields Y) (size_of : X → ℕ) → ((bytes : List ℕ) (x : X) → c.IsDer bytes x → size_of x ≤ length bytes) → Within (field k c more) (λ x. size_of x.0)
field_within k c more size_of one = record {
  at_most = λ bytes x d.
      let own = one d.first.content x.0 d.first.inside in
      let here = inside (tag_of k) d.front d.first.content d.first.outside in
      omega (arith, own, here, front_in bytes d);
}

behind_field : {X Y : Type 0} (k : ℕ) (c : Codec X) (more : Fields Y) (size_of : Y → ℕ) → Within more size_of → Within (field k c more) (λ x. size_of x.1)
behind_field k c more size_of rest = record { at_most = λ bytes x d. let own = rest.at_most d.rest x.1 d.second in omega (arith, own, rest_in bytes d) }

behind_optional : {X Y : Type 0} (k : ℕ) (c : Codec X) (more : Fields Y) (size_of : Y → ℕ) → Within more size_of → Within (optional k c more) (λ x. size_of x.1)
behind_optional k c more size_of rest = record { at_most = λ bytes x d. let own = rest.at_most d.rest x.1 d.second in omega (arith, own, rest_in bytes d) }

-- ---- of each type

octets_in : (bytes x : List ℕ) → octets.IsDer bytes x → length x ≤ length bytes
octets_in bytes x d = let here = inside 4 bytes d.content d.outside in omega (arith, here, ap length d.inside)

cipher_in : (bytes : List ℕ) (x : EncryptedData) → encrypted_data.IsDer bytes x → length x.cipher ≤ length bytes
cipher_in bytes x d =
    let fields = behind_field 0 int32 _ _ (behind_optional 1 uint32 _ _ (field_within 2 octets end length octets_in)) in
    let own = fields.at_most d.content d.inside.parts d.inside.spelt in
    let outer = inside 48 bytes d.content d.outside in
    subst (λ (y : EncryptedData). length y.cipher ≤ length bytes) d.inside.made (omega (arith, own, outer))

sealed_in : (bytes : List ℕ) (x : Ticket) → ticket.IsDer bytes x → length x.sealed.cipher ≤ length bytes
sealed_in bytes x d =
    let sealed = field_within 3 encrypted_data end (λ (y : EncryptedData). length y.cipher) cipher_in in
    let fields = behind_field 0 (number_is (pos 5)) _ _ (behind_field 1 realm _ _ (behind_field 2 principal_name _ _ sealed)) in
    let own = fields.at_most d.inside.content d.inside.inside.parts d.inside.inside.spelt in
    let outer = inside 97 bytes d.content d.outside in
    let inner = inside 48 d.content d.inside.content d.inside.outside in
    subst (λ (y : Ticket). length y.sealed.cipher ≤ length bytes) d.inside.inside.made (omega (arith, own, outer, inner))

pub record InBytes (bytes : List ℕ) (x : ApReq) : Type 0 where
  pub sealed : length x.ticket.sealed.cipher ≤ length bytes
  pub auth : length x.authenticator.cipher ≤ length bytes

pub ap_req_in_bytes : (bytes : List ℕ) (x : ApReq) → ap_req.IsDer bytes x → InBytes bytes x
unfolding ap_req
ap_req_in_bytes bytes x d =
    let last = field_within 4 encrypted_data end (λ (y : EncryptedData). length y.cipher) cipher_in in
    let ticket_in = field_within 3 ticket (field 4 encrypted_data end) (λ (y : Ticket). length y.sealed.cipher) sealed_in in
    let auth_in = behind_field 3 ticket _ _ last in
    let of_ticket = behind_field 0 (number_is (pos 5)) _ _ (behind_field 1 (number_is (pos 14)) _ _ (behind_field 2 flags _ _ ticket_in)) in
    let of_auth = behind_field 0 (number_is (pos 5)) _ _ (behind_field 1 (number_is (pos 14)) _ _ (behind_field 2 flags _ _ auth_in)) in
    let content : List ℕ = d.inside.content in
    let sealed = of_ticket.at_most content d.inside.inside.parts d.inside.inside.spelt in
    let auth = of_auth.at_most content d.inside.inside.parts d.inside.inside.spelt in
    let outer = inside 110 bytes d.content d.outside in
    let inner = inside 48 d.content content d.inside.outside in
    subst (InBytes bytes) d.inside.inside.made (record { sealed = omega (arith, sealed, outer, inner); auth = omega (arith, auth, outer, inner) })

pub sealed_few : {E : Type 0} (bytes : List ℕ) (r : Result (Option ApReq) E) → length bytes < 2 ^ 32 → IfOk r (λ found. IfSome found (λ x. ap_req.IsDer bytes x))
    → IfOk r (λ found. IfSome found (λ x. length x.ticket.sealed.cipher < 2 ^ 32))
sealed_few bytes (Ok None) h d = tt
sealed_few bytes (Ok (Some x)) h d = let own = (ap_req_in_bytes bytes x d).sealed in omega (arith, h, own)
sealed_few bytes (Err fault) h d = tt

pub auth_few : {E : Type 0} (bytes : List ℕ) (r : Result (Option ApReq) E) → length bytes < 2 ^ 32 → IfOk r (λ found. IfSome found (λ x. ap_req.IsDer bytes x))
    → IfOk r (λ found. IfSome found (λ x. length x.authenticator.cipher < 2 ^ 32))
auth_few bytes (Ok None) h d = tt
auth_few bytes (Ok (Some x)) h d = let own = (ap_req_in_bytes bytes x d).auth in omega (arith, h, own)
auth_few bytes (Err fault) h d = tt

-- ---- a user-id

content_in : (tag : ℕ) (content : List ℕ) → length content ≤ length (element tag content)
content_in tag content = omega (arith, length-append (size (length content)) content)

id_in : (x : X509User) → length x.id_bytes ≤ length (x509_user.spelling x)
id_in x =
    let sum : List ℕ = checksum_form.spelling (record { cksumtype = x.sum_type; checksum = x.sum }) in
    let behind : List ℕ = element 161 sum ++ [] in
    omega (arith, content_in 160 x.id_bytes, length-append (element 160 x.id_bytes) behind, content_in 48 (element 160 x.id_bytes ++ behind))

pub id_short : (items : List PaData) (found : Option X509User)
    → ((n : ℕ) → AllByRecursion (λ item. length item.padata_value ≤ n) items → IfSome found (λ x. length (x509_user.spelling x) ≤ 3 * n))
    → IfSome found (λ x. (n : ℕ) → AllByRecursion (λ item. length item.padata_value ≤ n) items → length x.id_bytes ≤ 3 * n)
id_short items None h = tt
id_short items (Some x) h = λ n all. omega (arith, h n all, id_in x)
