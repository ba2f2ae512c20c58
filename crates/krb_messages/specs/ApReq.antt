-- AP-REQ ::= [APPLICATION 14] SEQUENCE { pvno [0] INTEGER (5), msg-type [1] INTEGER (14), ap-options [2] APOptions, ticket [3] Ticket, authenticator [4] EncryptedData } (RFC 4120, section 5.5.1)
use Rattle.std.specs.Prelude.{pos}
use Rattle.der_core.specs.Codec.{Codec, explicit}
use Rattle.der_core.specs.Forms.{number_is}
use Rattle.der_forms.specs.Fields.{Fields, end, field, made, sequence}
use Rattle.der_forms.specs.Values.{flags}
use Rattle.der_forms.specs.declared.value.Flags.{Flags}
use Rattle.krb_tickets.specs.EncryptedData.{encrypted_data}
use Rattle.krb_tickets.specs.Ticket.{ticket}
use Rattle.krb_tickets.specs.declared.encrypted_data.EncryptedData.{EncryptedData}
use Rattle.krb_tickets.specs.declared.ticket.Ticket.{Ticket}
use Rattle.krb_messages.specs.declared.ap_req.ApReq.{ApReq}

abbrev pub Parts : Type 0
Parts = Unit {0} × (Unit {0} × (Flags × (Ticket × (EncryptedData × Unit {0}))))

abbrev pub parts : Fields Parts
parts =
    field 0 (number_is (pos 5)) (
    field 1 (number_is (pos 14)) (
    field 2 flags (
    field 3 ticket (
    field 4 encrypted_data
    end))))

abbrev pub make : Parts → ApReq
make (_, (_, (ap_options, (ticket, (authenticator, _))))) =
    record { pvno = pos 5; msg_type = pos 14; ap_options = ap_options.0; ticket = ticket; authenticator = authenticator }

abbrev pub parts_of : ApReq → Parts
parts_of x = (tt, (tt, (record { 0 = x.ap_options }, (x.ticket, (x.authenticator, tt)))))

abbrev pub fields : Fields ApReq
fields = made parts make parts_of

unfoldable pub ap_req : Codec ApReq
ap_req = explicit 0x6e (sequence fields)
