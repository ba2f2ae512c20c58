-- What is known of a reply that was read: how long its ticket and its sealed part are, and that its names can be written.
use Rattle.std.proofs.Common.{◌≡◌, ℕ, ◌≤◌, ◌^◌, true, pos, List, length, Ok, Err, subst, ap, length-append, arith}
use Rattle.std.specs.Prelude.{IfOk, Result}
use Rattle.der_core.specs.Codec.{Codec}
use Rattle.der_core.specs.CodecLaws.{IsBytes-content}
use Rattle.der_core.specs.Elements.{IsElement}
use Rattle.der_core.specs.Forms.{int32, number_is, octets, uint32}
use Rattle.der_core.specs.Laws.{IsBytes}
use Rattle.der_core.specs.Sizes.{size}
use Rattle.der_core.specs.Steps.{IsBytes-front, IsBytes-rest}
use Rattle.der_forms.specs.Choices.{tag_in}
use Rattle.der_forms.specs.Fields.{Are, end, field, Fields, optional, tag_of}
use Rattle.der_forms.specs.Lists.{sequence_of}
use Rattle.der_forms.specs.Names.{realm}
use Rattle.krb_names.specs.Keys.{is_padded}
use Rattle.krb_tickets.specs.declared.encrypted_data.EncryptedData.{EncryptedData}
use Rattle.krb_tickets.specs.declared.ticket.Ticket.{Ticket}
use Rattle.krb_tickets.specs.EncryptedData.{encrypted_data}
use Rattle.krb_tickets.specs.Growths.{ticket_same}
use Rattle.krb_tickets.specs.PrincipalName.{principal_name}
use Rattle.krb_tickets.specs.Ticket.{ticket}
use Rattle.krb_tickets.specs.Transited.{is_realm}
use Rattle.ticket_laws.proofs.Texts.{parts_only, realm_only}
use Rattle.ticket_laws.proofs.Values.{int32_only, key_only}
use Rattle.krb_messages.specs.declared.enc_kdc_rep.EncKdcRep.{EncKdcRep}
use Rattle.krb_messages.specs.declared.kdc_rep.KdcRep.{KdcRep}
use Rattle.krb_messages.specs.EncKdcRep.{enc_kdc_rep}
use Rattle.krb_messages.specs.KdcRep.{is_as_rep, kdc_rep, msg_type_of}
use Rattle.krb_messages.specs.PaData.{pa_data}
use Rattle.s4u_client.specs.declared.cred.Cred.{Cred}
use Rattle.s4u_client.specs.Finishing.{IsFound, IsReply, cred_of}
use Rattle.s4u_client.specs.Writable.{IsCred, IsName}

-- ---- how long it is

-- a content is no longer than its element
inside : (tag : ℕ) (bytes content : List ℕ) → IsElement tag bytes content → length content ≤ length bytes
inside tag bytes content d = omega (arith, ap length d.spelt, length-append (size (length content)) content)

-- the fields' bytes are at least as many as a value's size
record Within {X : Type 0} (fields : Fields X) (size_of : X → ℕ) : Type 0 where
  at_most : (bytes : List ℕ) (x : X) → IsBytes bytes → fields.content.IsDer bytes x → size_of x ≤ length bytes

front_well : {Front Rest : List ℕ → Type 0} (bytes : List ℕ) → IsBytes bytes → (d : Are Front Rest bytes) → IsBytes d.front
front_well bytes well d = IsBytes-front d.front d.rest (subst IsBytes d.whole well)

rest_well : {Front Rest : List ℕ → Type 0} (bytes : List ℕ) → IsBytes bytes → (d : Are Front Rest bytes) → IsBytes d.rest
rest_well bytes well d = IsBytes-rest d.front d.rest (subst IsBytes d.whole well)

field_within : {X Y : Type 0} (k : ℕ) (c : Codec X) (more : Fields Y) (size_of : X → ℕ)
    → ((bytes : List ℕ) (x : X) → IsBytes bytes → c.IsDer bytes x → size_of x ≤ length bytes) → Within (field k c more) (λ x. size_of x.0)
field_within k c more size_of one = record {
  at_most = λ bytes x well d.
      let own = one d.first.content x.0 (IsBytes-content (tag_of k) d.front d.first.content (front_well bytes well d) d.first.outside) d.first.inside in
      let here = inside (tag_of k) d.front d.first.content d.first.outside in
      omega (arith, own, here, ap length d.whole, length-append d.front d.rest);
}

behind_field : {X Y : Type 0} (k : ℕ) (c : Codec X) (more : Fields Y) (size_of : Y → ℕ) → Within more size_of → Within (field k c more) (λ x. size_of x.1)
behind_field k c more size_of rest = record {
  at_most = λ bytes x well d.
      let own = rest.at_most d.rest x.1 (rest_well bytes well d) d.second in
      omega (arith, own, ap length d.whole, length-append d.front d.rest);
}

behind_optional : {X Y : Type 0} (k : ℕ) (c : Codec X) (more : Fields Y) (size_of : Y → ℕ) → Within more size_of → Within (optional k c more) (λ x. size_of x.1)
behind_optional k c more size_of rest = record {
  at_most = λ bytes x well d.
      let own = rest.at_most d.rest x.1 (rest_well bytes well d) d.second in
      omega (arith, own, ap length d.whole, length-append d.front d.rest);
}

octets_in : (bytes x : List ℕ) → IsBytes bytes → octets.IsDer bytes x → length x ≤ length bytes
octets_in bytes x well d = let here = inside 4 bytes d.content d.outside in omega (arith, here, ap length d.inside)

cipher_in : (bytes : List ℕ) (x : EncryptedData) → IsBytes bytes → encrypted_data.IsDer bytes x → length x.cipher ≤ length bytes
cipher_in bytes x well d =
    let fields = behind_field 0 int32 _ _ (behind_optional 1 uint32 _ _ (field_within 2 octets end length octets_in)) in
    let own = fields.at_most d.content d.inside.parts (IsBytes-content 48 bytes d.content well d.outside) d.inside.spelt in
    let outer = inside 48 bytes d.content d.outside in
    subst (λ (y : EncryptedData). length y.cipher ≤ length bytes) d.inside.made (omega (arith, own, outer))

ticket_in : (bytes : List ℕ) (x : Ticket) → IsBytes bytes → ticket.IsDer bytes x → length (ticket.spelling x) ≤ length bytes
ticket_in bytes x well d = let same = ticket_same.at_most bytes x well d in omega (arith, same)

record InBytes (bytes : List ℕ) (x : KdcRep) : Type 0 where
  short : length (ticket.spelling x.ticket) ≤ length bytes
  sealed : length x.enc_part.cipher ≤ length bytes

reply_in_bytes : (bytes : List ℕ) (x : KdcRep) → IsBytes bytes → kdc_rep.IsDer bytes x → InBytes bytes x
unfolding kdc_rep
reply_in_bytes bytes x well d =
    let type = number_is (msg_type_of (is_as_rep x)) in
    let last = field_within 6 encrypted_data end (λ (y : EncryptedData). length y.cipher) cipher_in in
    let fifth = field_within 5 ticket (field 6 encrypted_data end) (λ (y : Ticket). length (ticket.spelling y)) ticket_in in
    let sixth = behind_field 5 ticket _ _ last in
    let of_ticket = behind_field 0 (number_is (pos 5)) _ _ (behind_field 1 type _ _ (behind_optional 2 (sequence_of pa_data) _ _ (behind_field 3 realm _ _ (behind_field 4 principal_name _ _ fifth)))) in
    let of_sealed = behind_field 0 (number_is (pos 5)) _ _ (behind_field 1 type _ _ (behind_optional 2 (sequence_of pa_data) _ _ (behind_field 3 realm _ _ (behind_field 4 principal_name _ _ sixth)))) in
    let tag = tag_in 0x6b 0x6d (is_as_rep x) in
    let content : List ℕ = d.inside.content in
    let own = IsBytes-content 48 d.content content (IsBytes-content tag bytes d.content well d.outside) d.inside.outside in
    let short = of_ticket.at_most content d.inside.inside.parts own d.inside.inside.spelt in
    let sealed = of_sealed.at_most content d.inside.inside.parts own d.inside.inside.spelt in
    let outer = inside tag bytes d.content d.outside in
    let inner = inside 48 d.content content d.inside.outside in
    subst (InBytes bytes) d.inside.inside.made (record { short = omega (arith, short, outer, inner); sealed = omega (arith, sealed, outer, inner) })

pub reply_is : {E : Type 0} (bytes : List ℕ) (r : Result KdcRep E) → IsBytes bytes → IfOk r (λ x. kdc_rep.IsDer bytes x) → IfOk r (λ x. kdc_rep.Fits x) → IfOk r (IsReply bytes)
reply_is bytes (Ok x) well d fits = let own = reply_in_bytes bytes x well d in record { fits = fits; short = own.short; sealed = own.sealed }
reply_is bytes (Err fault) well d fits = tt

-- ---- its names

pub client_is_name : (x : KdcRep) → kdc_rep.Fits x → IsName x.cname
unfolding kdc_rep
client_is_name x fits =
    let of_realm = fits.1.1.1.1.0 in
    let of_name = fits.1.1.1.1.1.0 in
    let same : x.crealm ≡ x.cname.realm = ap (λ (y : KdcRep). y.cname.realm) fits.0 in
    record {
      kind = int32_only x.cname.kind of_name.1.0;
      parts = parts_only x.cname.kind x.cname.parts of_name.1.1.0;
      realm = subst (λ (name : List ℕ). is_realm name ≡ true) same (realm_only x.crealm of_realm);
    }

ticket_fits : (x : KdcRep) → kdc_rep.Fits x → ticket.Fits x.ticket
unfolding kdc_rep
ticket_fits x fits = fits.1.1.1.1.1.1.0

pub server_is_name : (x : EncKdcRep) → enc_kdc_rep.Fits x → IsName x.sname
unfolding enc_kdc_rep
server_is_name x fits =
    let of_realm = fits.1.1.1.1.1.1.1.1.1.1.0 in
    let of_name = fits.1.1.1.1.1.1.1.1.1.1.1.0 in
    let same : x.srealm ≡ x.sname.realm = ap (λ (y : EncKdcRep). y.sname.realm) fits.0 in
    record {
      kind = int32_only x.sname.kind of_name.1.0;
      parts = parts_only x.sname.kind x.sname.parts of_name.1.1.0;
      realm = subst (λ (name : List ℕ). is_realm name ≡ true) same (realm_only x.srealm of_realm);
    }

key_is_padded : (x : EncKdcRep) → enc_kdc_rep.Fits x → is_padded x.key ≡ true
unfolding enc_kdc_rep
key_is_padded x fits = (key_only x.key fits.1.0).1

pub cred_is_found : (bytes : List ℕ) (reply : KdcRep) (part : EncKdcRep) → IsReply bytes reply → enc_kdc_rep.Fits part → IsFound bytes (cred_of reply part)
cred_is_found bytes reply part is_reply fits = record {
  client = client_is_name reply is_reply.fits;
  server = server_is_name part fits;
  fits = ticket_fits reply is_reply.fits;
  short = is_reply.short;
  key_padding = key_is_padded part fits;
}

pub found_is_cred : (bytes : List ℕ) (cred : Cred) → IsFound bytes cred → length bytes ≤ 2 ^ 27 → IsCred cred
found_is_cred bytes cred found few = record {
  client = found.client;
  server = found.server;
  shown = record { fits = found.fits; short = let own = found.short in omega (arith, own, few) };
  key_padding = found.key_padding;
}
