-- Checksum ::= SEQUENCE { cksumtype [0] Int32, checksum [1] OCTET STRING } (RFC 4120, section 5.2.9)
use Rattle.std.specs.Prelude.{ℕ, ℤ, List}
use Rattle.der_core.specs.Codec.{Codec}
use Rattle.der_core.specs.Forms.{int32, octets}
use Rattle.der_forms.specs.Fields.{Fields, end, field, made, sequence}
use Rattle.krb_messages.specs.declared.checksum.Checksum.{Checksum}

abbrev pub Parts : Type 0
Parts = ℤ × (List ℕ × Unit {0})

abbrev pub parts : Fields Parts
parts =
    field 0 int32 (
    field 1 octets
    end)

abbrev pub make : Parts → Checksum
make (cksumtype, (checksum, _)) = record { cksumtype = cksumtype; checksum = checksum }

abbrev pub parts_of : Checksum → Parts
parts_of x = (x.cksumtype, (x.checksum, tt))

abbrev pub fields : Fields Checksum
fields = made parts make parts_of

abbrev pub checksum_form : Codec Checksum
checksum_form = sequence fields
