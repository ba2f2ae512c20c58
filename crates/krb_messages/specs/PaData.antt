-- PA-DATA ::= SEQUENCE { padata-type [1] Int32, padata-value [2] OCTET STRING } (RFC 4120, section 5.2.7)
use Rattle.std.specs.Prelude.{ℕ, ℤ, List}
use Rattle.der_core.specs.Codec.{Codec}
use Rattle.der_core.specs.Forms.{int32, octets}
use Rattle.der_forms.specs.Fields.{Fields, end, field, made, sequence}
use Rattle.krb_messages.specs.declared.pa_data.PaData.{PaData}

abbrev pub Parts : Type 0
Parts = ℤ × (List ℕ × Unit {0})

abbrev pub parts : Fields Parts
parts =
    field 1 int32 (
    field 2 octets
    end)

abbrev pub make : Parts → PaData
make (padata_type, (padata_value, _)) = record { padata_type = padata_type; padata_value = padata_value }

abbrev pub parts_of : PaData → Parts
parts_of x = (x.padata_type, (x.padata_value, tt))

abbrev pub fields : Fields PaData
fields = made parts make parts_of

abbrev pub pa_data : Codec PaData
pa_data = sequence fields
