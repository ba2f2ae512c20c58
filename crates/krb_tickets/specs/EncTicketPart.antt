-- EncTicketPart ::= [APPLICATION 3] SEQUENCE (RFC 4120, section 5.3); renew-till and caddr are read past.
use Rattle.std.specs.Prelude.{ℕ, List, Option}
use Rattle.der_core.specs.Codec.{Codec, explicit}
use Rattle.der_forms.specs.declared.value.Flags.{Flags}
use Rattle.der_forms.specs.Fields.{Fields, end, field, optional, dropped, listed, made, sequence}
use Rattle.der_forms.specs.Keys.{encryption_key}
use Rattle.der_forms.specs.Lists.{sequence_of}
use Rattle.der_forms.specs.Names.{realm}
use Rattle.der_forms.specs.Times.{kerberos_time}
use Rattle.der_forms.specs.Values.{flags as ticket_flags}
use Rattle.krb_names.specs.declared.key.Key.{Key}
use Rattle.krb_tickets.specs.declared.auth_item.AuthItem.{AuthItem}
use Rattle.krb_tickets.specs.declared.enc_ticket_part.EncTicketPart.{EncTicketPart}
use Rattle.krb_tickets.specs.declared.principal_name.PrincipalName.{PrincipalName}
use Rattle.krb_tickets.specs.AuthItem.{auth_item}
use Rattle.krb_tickets.specs.HostAddress.{host_address}
use Rattle.krb_tickets.specs.PrincipalName.{principal_name, in_realm, name_of}
use Rattle.krb_tickets.specs.Transited.{transited as transited_encoding}

abbrev pub Parts : Type 0
Parts = Flags × (Key × (List ℕ × (PrincipalName × (List (List ℕ) × (ℕ × (Option ℕ × (ℕ × (List AuthItem × Unit {0}))))))))

abbrev pub parts : Fields Parts
parts =
    field 0 ticket_flags (
    field 1 encryption_key (
    field 2 realm (
    field 3 principal_name (
    field 4 transited_encoding (
    field 5 kerberos_time (
    optional 6 kerberos_time (
    field 7 kerberos_time (
    dropped 8 kerberos_time (
    dropped 9 (sequence_of host_address) (
    listed 10 (sequence_of auth_item)
    end))))))))))

abbrev pub make : Parts → EncTicketPart
make (flags, (key, (crealm, (cname, (transited, (authtime, (starttime, (endtime, (items, _))))))))) =
    record { flags = flags.0; key = key; client = in_realm cname crealm; transited = transited; auth = authtime; start = starttime; end = endtime; items = items }

abbrev pub parts_of : EncTicketPart → Parts
parts_of x = (record { 0 = x.flags }, (x.key, (x.client.realm, (name_of x.client, (x.transited, (x.auth, (x.start, (x.end, (x.items, tt)))))))))

abbrev pub fields : Fields EncTicketPart
fields = made parts make parts_of

abbrev pub enc_ticket_part : Codec EncTicketPart
enc_ticket_part = explicit 0x63 (sequence fields)
