-- Ticket ::= [APPLICATION 1] SEQUENCE { tkt-vno [0] INTEGER (5), realm [1] Realm, sname [2] PrincipalName, enc-part [3] EncryptedData } (RFC 4120, section 5.3)
use Rattle.std.specs.Prelude.{ℕ, pos, List}
use Rattle.der_core.specs.Codec.{Codec, explicit}
use Rattle.der_core.specs.Forms.{number_is}
use Rattle.der_forms.specs.Fields.{Fields, end, field, made, sequence}
use Rattle.der_forms.specs.Names.{realm}
use Rattle.krb_tickets.specs.declared.encrypted_data.EncryptedData.{EncryptedData}
use Rattle.krb_tickets.specs.declared.principal_name.PrincipalName.{PrincipalName}
use Rattle.krb_tickets.specs.declared.ticket.Ticket.{Ticket}
use Rattle.krb_tickets.specs.EncryptedData.{encrypted_data}
use Rattle.krb_tickets.specs.PrincipalName.{principal_name, in_realm, name_of}

abbrev pub Parts : Type 0
Parts = Unit {0} × (List ℕ × (PrincipalName × (EncryptedData × Unit {0})))

abbrev pub parts : Fields Parts
parts =
    field 0 (number_is (pos 5)) (
    field 1 realm (
    field 2 principal_name (
    field 3 encrypted_data
    end)))

abbrev pub make : Parts → Ticket
make (_, (realm, (sname, (sealed, _)))) = record { realm = realm; sname = in_realm sname realm; sealed = sealed }

abbrev pub parts_of : Ticket → Parts
parts_of x = (tt, (x.realm, (name_of x.sname, (x.sealed, tt))))

abbrev pub fields : Fields Ticket
fields = made parts make parts_of

abbrev pub ticket : Codec Ticket
ticket = explicit 0x61 (sequence fields)
