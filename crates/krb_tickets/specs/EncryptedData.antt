-- EncryptedData ::= SEQUENCE { etype [0] Int32, kvno [1] UInt32 OPTIONAL, cipher [2] OCTET STRING } (RFC 4120, section 5.2.9)
use Rattle.std.specs.Prelude.{ℕ, ℤ, List, Option}
use Rattle.der_core.specs.Codec.{Codec}
use Rattle.der_core.specs.Forms.{int32, uint32, octets}
use Rattle.der_forms.specs.Fields.{Fields, end, field, optional, made, sequence}
use Rattle.krb_tickets.specs.declared.encrypted_data.EncryptedData.{EncryptedData}

abbrev pub Parts : Type 0
Parts = ℤ × (Option ℕ × (List ℕ × Unit {0}))

abbrev pub parts : Fields Parts
parts =
    field 0 int32 (
    optional 1 uint32 (
    field 2 octets
    end))

abbrev pub make : Parts → EncryptedData
make (etype, (kvno, (cipher, _))) = record { etype = etype; kvno = kvno; cipher = cipher }

abbrev pub parts_of : EncryptedData → Parts
parts_of x = (x.etype, (x.kvno, (x.cipher, tt)))

abbrev pub fields : Fields EncryptedData
fields = made parts make parts_of

abbrev pub encrypted_data : Codec EncryptedData
encrypted_data = sequence fields
