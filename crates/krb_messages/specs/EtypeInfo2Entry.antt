-- ETYPE-INFO2-ENTRY ::= SEQUENCE { etype [0] Int32, salt [1] KerberosString OPTIONAL, s2kparams [2] OCTET STRING OPTIONAL } (RFC 4120, section 5.2.7.5)
use Rattle.std.specs.Prelude.{ℕ, ℤ, List, Option}
use Rattle.der_core.specs.Codec.{Codec}
use Rattle.der_core.specs.Forms.{int32, octets, text}
use Rattle.der_forms.specs.Fields.{Fields, end, field, optional, made, sequence}
use Rattle.krb_messages.specs.declared.etype_info2.EtypeInfo2Entry.{EtypeInfo2Entry}

abbrev pub Parts : Type 0
Parts = ℤ × (Option (List ℕ) × (Option (List ℕ) × Unit {0}))

abbrev pub parts : Fields Parts
parts =
    field 0 int32 (
    optional 1 text (
    optional 2 octets
    end))

abbrev pub make : Parts → EtypeInfo2Entry
make (etype, (salt, (s2kparams, _))) =
    record { etype = etype; salt = salt; s2kparams = s2kparams }

abbrev pub parts_of : EtypeInfo2Entry → Parts
parts_of x = (x.etype, (x.salt, (x.s2kparams, tt)))

abbrev pub fields : Fields EtypeInfo2Entry
fields = made parts make parts_of

abbrev pub etype_info2_entry : Codec EtypeInfo2Entry
etype_info2_entry = sequence fields
