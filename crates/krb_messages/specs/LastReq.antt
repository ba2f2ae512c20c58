-- LastReq ::= SEQUENCE OF SEQUENCE { lr-type [0] Int32, lr-value [1] KerberosTime } (RFC 4120, section 5.4.2)
use Rattle.std.specs.Prelude.{ℕ, ℤ}
use Rattle.der_core.specs.Codec.{Codec}
use Rattle.der_core.specs.Forms.{int32}
use Rattle.der_forms.specs.Fields.{Fields, end, field, made, sequence}
use Rattle.der_forms.specs.Times.{kerberos_time}
use Rattle.krb_messages.specs.declared.last_req.LastReq.{LastReq}

abbrev pub Parts : Type 0
Parts = ℤ × (ℕ × Unit {0})

abbrev pub parts : Fields Parts
parts =
    field 0 int32 (
    field 1 kerberos_time
    end)

abbrev pub make : Parts → LastReq
make (lr_type, (lr_value, _)) =
    record { lr_type = lr_type; lr_value = lr_value }

abbrev pub parts_of : LastReq → Parts
parts_of x = (x.lr_type, (x.lr_value, tt))

abbrev pub fields : Fields LastReq
fields = made parts make parts_of

abbrev pub last_req : Codec LastReq
last_req = sequence fields
