-- What is sealed in a reply is bytes.
use Rattle.std.proofs.Common.{◌≡◌, ℕ, ◌<◌, pos, Bool, true, false, List, [], ◌∷◌, Some, None, refl, sym, subst, arith}
use Rattle.std.specs.List.{flat_map}
use Rattle.std.proofs.lemmas.List.Concat.{flat_map-cons}
use Rattle.der_core.specs.Elements.{element}
use Rattle.der_core.specs.Forms.{int32}
use Rattle.der_core.specs.Laws.{IsBytes}
use Rattle.der_core.specs.Steps.{IsBytes-append}
use Rattle.der_forms.specs.Choices.{tag_in}
use Rattle.der_forms.specs.Fields.{dropped, end, listed}
use Rattle.der_forms.specs.Keys.{encryption_key}
use Rattle.der_forms.specs.Lists.{sequence_of}
use Rattle.der_forms.specs.Names.{realm}
use Rattle.der_forms.specs.Times.{kerberos_time}
use Rattle.der_forms.specs.Values.{flags as ticket_flags, nonce as nonce_number}
use Rattle.krb_names.specs.declared.principal.Principal.{Principal}
use Rattle.krb_tickets.specs.declared.enc_ticket_part.EncTicketPart.{EncTicketPart}
use Rattle.krb_tickets.specs.AuthItem.{auth_item}
use Rattle.krb_tickets.specs.EncTicketPart as ticket_form
use Rattle.krb_tickets.specs.HostAddress.{host_address}
use Rattle.krb_tickets.specs.PrincipalName.{name_of, principal_name}
use Rattle.krb_tickets.specs.Transited.{is_realm, transited}
use Rattle.ticket_laws.specs.Writable.{IsWritablePart}
use Rattle.ticket_laws.proofs.Bytes.{element_bytes}
use Rattle.pac_laws.proofs.Bytes.{IsBytes-nil}
use Rattle.ticket_codec.proofs.PartBytes.{part_bytes}
use Rattle.ticket_codec.specs.Made.{IsTicketName}
use Rattle.ticket_parts.specs.Sound.{IsSound}
use Rattle.krb_messages.specs.declared.enc_kdc_rep.EncKdcRep.{EncKdcRep}
use Rattle.krb_messages.specs.declared.last_req.LastReq.{LastReq}
use Rattle.krb_messages.specs.EncKdcRep.{enc_kdc_rep, is_as_part}
use Rattle.krb_messages.specs.EncKdcRep as part_form
use Rattle.krb_messages.specs.LastReq.{last_req}
use Rattle.krb_messages.specs.LastReq as last_req_form
use Rattle.krb_messages.specs.PaData.{pa_data}
use Rattle.kdc_records.specs.declared.ticket_rec.TicketRec.{TicketRec}
use Rattle.tgs_core.specs.Grants.{Grant, IsGrant, granted_record}
use Rattle.tgs_core.specs.Replies.{reply_part}
use Rattle.ends_laws.proofs.FieldBytes.{OfBytes, content_bytes, dropped_bytes, end_bytes, field_bytes, front_field, number_bytes, optional_bytes, present_field}

-- ---- what is written in a ticket too

-- the part of a record, under the server's name
abbrev named_part : TicketRec → Principal → EncTicketPart
named_part t server = record {
  flags = t.flags;
  key = t.session;
  client = server;
  transited = t.transited;
  auth = t.auth;
  start = Some t.start;
  end = t.end;
  items = [];
}

named_part_is : (t : TicketRec) (issuer : List ℕ) (server : Principal) → IsSound t → IsTicketName issuer server → IsWritablePart (named_part t server)
named_part_is t issuer server s n = record {
  flags = s.part.flags;
  key_length = s.part.key_length;
  key_octets = s.part.key_octets;
  key_padding = s.part.key_padding;
  crealm = subst (λ (name : List ℕ). is_realm name ≡ true) (sym n.same) n.realm;
  cname_kind = n.kind;
  cname_parts = n.parts;
  transited = s.part.transited;
  auth = s.part.auth;
  start = s.part.start;
  end = s.part.end;
  items = tt;
}

record AreWritten (t : TicketRec) (server : Principal) : Type 0 where
  flags : IsBytes (ticket_flags.spelling (record { 0 = t.flags }))
  key : IsBytes (encryption_key.spelling t.session)
  srealm : IsBytes (realm.spelling server.realm)
  sname : IsBytes (principal_name.spelling (name_of server))
  auth : IsBytes (kerberos_time.spelling t.auth)
  start : IsBytes (kerberos_time.spelling t.start)
  end : IsBytes (kerberos_time.spelling t.end)

are_written : (t : TicketRec) (issuer : List ℕ) (server : Principal) → IsSound t → IsTicketName issuer server → AreWritten t server
are_written t issuer server s n =
    let p : EncTicketPart = named_part t server in
    let fields : List ℕ = ticket_form.parts.content.spelling (ticket_form.parts_of p) in
    let all : OfBytes ticket_form.parts (ticket_form.parts_of p) = record { spelt = content_bytes 48 fields (content_bytes 99 (element 48 fields) (part_bytes p (named_part_is t issuer server s n))) } in
    let one = front_field 0 ticket_flags _ _ _ all in
    let two = front_field 1 encryption_key _ _ _ one.1 in
    let three = front_field 2 realm _ _ _ two.1 in
    let four = front_field 3 principal_name _ _ _ three.1 in
    let five = front_field 4 transited _ _ _ four.1 in
    let six = front_field 5 kerberos_time _ _ _ five.1 in
    let seven = present_field 6 kerberos_time _ _ _ six.1 in
    let behind = dropped 8 kerberos_time (dropped 9 (sequence_of host_address) (listed 10 (sequence_of auth_item) end)) in
    let eight = front_field 7 kerberos_time behind _ _ seven.1 in
    record { flags = one.0; key = two.0; srealm = three.0; sname = four.0; auth = six.0; start = seven.0; end = eight.0 }

-- ---- last-req

time_bytes : (x : LastReq) → IsBytes (kerberos_time.spelling x.lr_value) → IsBytes (last_req.spelling x)
time_bytes x time =
    let fields : OfBytes last_req_form.parts (last_req_form.parts_of x) =
    field_bytes 0 int32 _ _ _ (omega arith) (number_bytes x.lr_type) (
    field_bytes 1 kerberos_time _ _ _ (omega arith) time
    end_bytes) in
    element_bytes 48 (last_req_form.parts.content.spelling (last_req_form.parts_of x)) (omega arith) fields.spelt

lone_time : (x : LastReq) → IsBytes (kerberos_time.spelling x.lr_value) → IsBytes ((sequence_of last_req).spelling (x ∷ []))
lone_time x time =
    let one : IsBytes (last_req.spelling x) = time_bytes x time in
    let all : IsBytes (flat_map last_req.spelling (x ∷ [])) = subst IsBytes (sym (flat_map-cons last_req.spelling x [])) (IsBytes-append (last_req.spelling x) [] one IsBytes-nil) in
    element_bytes 48 (flat_map last_req.spelling (x ∷ [])) (omega arith) all

-- ---- EncKDCRepPart (RFC 4120, section 5.4.2)

small_tag : (is_as : Bool) → tag_in 0x79 0x7a is_as < 256
small_tag true = omega arith
small_tag false = omega arith

abbrev last_time : Grant → LastReq
last_time grant = record { lr_type = pos 0; lr_value = grant.terms.start }

part_of_bytes : (grant : Grant) (t : TicketRec) → IsGrant grant → IsSound t → t.start ≡ grant.terms.start → IsBytes (enc_kdc_rep.spelling (reply_part grant t))
unfolding enc_kdc_rep
part_of_bytes grant t g s same =
    let x : EncKdcRep = reply_part grant t in
    let w = are_written t grant.realm.name grant.server s g.server in
    let srealm : IsBytes (realm.spelling grant.realm.name) = subst (λ (name : List ℕ). IsBytes (realm.spelling name)) g.server.same w.srealm in
    let last : IsBytes ((sequence_of last_req).spelling (last_time grant ∷ [])) = lone_time (last_time grant) (subst (λ (time : ℕ). IsBytes (kerberos_time.spelling time)) same w.start) in
    let fields : OfBytes part_form.parts (part_form.parts_of x) =
    field_bytes 0 encryption_key _ _ _ (omega arith) w.key (
    field_bytes 1 (sequence_of last_req) _ _ _ (omega arith) last (
    field_bytes 2 nonce_number _ _ _ (omega arith) (number_bytes x.nonce) (
    optional_bytes 3 kerberos_time _ None _ (omega arith) tt (
    field_bytes 4 ticket_flags _ _ _ (omega arith) w.flags (
    field_bytes 5 kerberos_time _ _ _ (omega arith) w.auth (
    optional_bytes 6 kerberos_time _ (Some t.start) _ (omega arith) w.start (
    field_bytes 7 kerberos_time _ _ _ (omega arith) w.end (
    optional_bytes 8 kerberos_time _ None _ (omega arith) tt (
    field_bytes 9 realm _ _ _ (omega arith) srealm (
    field_bytes 10 principal_name _ _ _ (omega arith) w.sname (
    dropped_bytes 11 (sequence_of host_address) _ _ (
    dropped_bytes 12 (sequence_of pa_data) _ _
    end_bytes)))))))))))) in
    let inside : List ℕ = part_form.parts.content.spelling (part_form.parts_of x) in
    element_bytes (tag_in 0x79 0x7a (is_as_part x)) (element 48 inside) (small_tag (is_as_part x)) (element_bytes 48 inside (omega arith) fields.spelt)

starts : (grant : Grant) (block : List ℕ) → (granted_record grant block).start ≡ grant.terms.start
unfolding granted_record
starts grant block = refl

pub reply_part_bytes : (grant : Grant) (block : List ℕ) → IsGrant grant → IsSound (granted_record grant block) → IsBytes (enc_kdc_rep.spelling (reply_part grant (granted_record grant block)))
reply_part_bytes grant block g s = part_of_bytes grant (granted_record grant block) g s (starts grant block)
