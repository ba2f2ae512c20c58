-- HostAddress ::= SEQUENCE { addr-type [0] Int32, address [1] OCTET STRING } (RFC 4120, section 5.2.5)
use Rattle.std.specs.Prelude.{ℕ, ℤ, List}
use Rattle.der_core.specs.Codec.{Codec}
use Rattle.der_core.specs.Forms.{int32, octets}
use Rattle.der_forms.specs.Fields.{Fields, end, field, made, sequence}
use Rattle.krb_tickets.specs.declared.host_address.HostAddress.{HostAddress}

abbrev pub Parts : Type 0
Parts = ℤ × (List ℕ × Unit {0})

abbrev pub parts : Fields Parts
parts =
    field 0 int32 (
    field 1 octets
    end)

abbrev pub make : Parts → HostAddress
make (addr_type, (address, _)) = record { addr_type = addr_type; address = address }

abbrev pub parts_of : HostAddress → Parts
parts_of x = (x.addr_type, (x.address, tt))

abbrev pub fields : Fields HostAddress
fields = made parts make parts_of

abbrev pub host_address : Codec HostAddress
host_address = sequence fields
