-- AP-REP ::= [APPLICATION 15] SEQUENCE { pvno [0] INTEGER (5), msg-type [1] INTEGER (15), enc-part [2] EncryptedData } (RFC 4120, section 5.5.2)
use Rattle.std.specs.Prelude.{pos}
use Rattle.der_core.specs.Codec.{Codec, explicit}
use Rattle.der_core.specs.Forms.{number_is}
use Rattle.der_forms.specs.Fields.{Fields, end, field, made, sequence}
use Rattle.krb_tickets.specs.EncryptedData.{encrypted_data}
use Rattle.krb_tickets.specs.declared.encrypted_data.EncryptedData.{EncryptedData}
use Rattle.krb_messages.specs.declared.ap_rep.ApRep.{ApRep}

abbrev pub Parts : Type 0
Parts = Unit {0} × (Unit {0} × (EncryptedData × Unit {0}))

abbrev pub parts : Fields Parts
parts =
    field 0 (number_is (pos 5)) (
    field 1 (number_is (pos 15)) (
    field 2 encrypted_data
    end))

abbrev pub make : Parts → ApRep
make (_, (_, (enc_part, _))) =
    record { pvno = pos 5; msg_type = pos 15; enc_part = enc_part }

abbrev pub parts_of : ApRep → Parts
parts_of x = (tt, (tt, (x.enc_part, tt)))

abbrev pub fields : Fields ApRep
fields = made parts make parts_of

abbrev pub ap_rep : Codec ApRep
ap_rep = explicit 0x6f (sequence fields)
