-- KDC-REQ-BODY ::= SEQUENCE (RFC 4120, section 5.4.1); addresses and enc-authorization-data are read past.
use Rattle.std.specs.Prelude.{ℕ, ℤ, List, Option}
use Rattle.der_core.specs.Codec.{Codec}
use Rattle.der_core.specs.Forms.{int32}
use Rattle.der_forms.specs.declared.value.Flags.{Flags}
use Rattle.der_forms.specs.Fields.{Fields, end, field, optional, dropped, made, sequence}
use Rattle.der_forms.specs.Lists.{sequence_of}
use Rattle.der_forms.specs.Names.{realm as realm_name}
use Rattle.der_forms.specs.Times.{kerberos_time}
use Rattle.der_forms.specs.Values.{flags, nonce as nonce_number}
use Rattle.krb_tickets.specs.declared.principal_name.PrincipalName.{PrincipalName}
use Rattle.krb_tickets.specs.declared.ticket.Ticket.{Ticket}
use Rattle.krb_tickets.specs.EncryptedData.{encrypted_data}
use Rattle.krb_tickets.specs.HostAddress.{host_address}
use Rattle.krb_tickets.specs.PrincipalName.{principal_name, named, unnamed}
use Rattle.krb_tickets.specs.Ticket.{ticket}
use Rattle.der_forms.specs.declared.value.Nonce.{Nonce}
use Rattle.krb_messages.specs.declared.kdc_req_body.KdcReqBody.{KdcReqBody}

abbrev pub Parts : Type 0
Parts = Flags × (Option PrincipalName × (List ℕ × (Option PrincipalName × (Option ℕ × (ℕ × (Option ℕ × (Nonce × (List ℤ × (Option (List Ticket) × Unit {0})))))))))

abbrev pub parts : Fields Parts
parts =
    field 0 flags (
    optional 1 principal_name (
    field 2 realm_name (
    optional 3 principal_name (
    optional 4 kerberos_time (
    field 5 kerberos_time (
    optional 6 kerberos_time (
    field 7 nonce_number (
    field 8 (sequence_of int32) (
    dropped 9 (sequence_of host_address) (
    dropped 10 encrypted_data (
    optional 11 (sequence_of ticket)
    end)))))))))))

abbrev pub make : Parts → KdcReqBody
make (options, (cname, (realm, (sname, (start, (till, (rtime, (nonce, (etype, (tickets, _)))))))))) =
    record { kdc_options = options.0; cname = named realm cname; realm = realm; sname = named realm sname; from = start; till = till; rtime = rtime; nonce = nonce.0; etype = etype; additional_tickets = tickets }

abbrev pub parts_of : KdcReqBody → Parts
parts_of x = (record { 0 = x.kdc_options }, (unnamed x.cname, (x.realm, (unnamed x.sname, (x.from, (x.till, (x.rtime, (record { 0 = x.nonce }, (x.etype, (x.additional_tickets, tt))))))))))

abbrev pub fields : Fields KdcReqBody
fields = made parts make parts_of

unfoldable pub kdc_req_body : Codec KdcReqBody
kdc_req_body = sequence fields
