-- AuthorizationData ::= SEQUENCE OF SEQUENCE { ad-type [0] Int32, ad-data [1] OCTET STRING } (RFC 4120, section 5.2.6)
use Rattle.std.specs.Prelude.{ℕ, ℤ, List}
use Rattle.der_core.specs.Codec.{Codec}
use Rattle.der_core.specs.Forms.{int32, octets}
use Rattle.der_forms.specs.Fields.{Fields, end, field, made, sequence}
use Rattle.krb_tickets.specs.declared.auth_item.AuthItem.{AuthItem}

abbrev pub Parts : Type 0
Parts = ℤ × (List ℕ × Unit {0})

abbrev pub parts : Fields Parts
parts =
    field 0 int32 (
    field 1 octets
    end)

abbrev pub make : Parts → AuthItem
make (kind, (content, _)) = record { kind = kind; content = content }

abbrev pub parts_of : AuthItem → Parts
parts_of x = (x.kind, (x.content, tt))

abbrev pub fields : Fields AuthItem
fields = made parts make parts_of

abbrev pub auth_item : Codec AuthItem
auth_item = sequence fields
