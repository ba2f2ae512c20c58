-- PA-S4U-X509-USER ::= SEQUENCE { user-id [0] S4UUserID, checksum [1] Checksum } (MS-SFU, section 2.2.2)
use Rattle.std.specs.Prelude.{ℕ, List}
use Rattle.der_core.specs.Codec.{Codec}
use Rattle.der_forms.specs.Fields.{Fields, end, field, made, sequence}
use Rattle.krb_messages.specs.declared.checksum.Checksum.{Checksum}
use Rattle.s4u_padata.specs.declared.user_id.UserId.{UserId}
use Rattle.s4u_padata.specs.declared.x509_user.X509User.{X509User}
use Rattle.krb_messages.specs.Checksum.{checksum_form}
use Rattle.der_forms.specs.Kept.{kept}
use Rattle.s4u_padata.specs.UserId.{user_id}

abbrev pub Parts : Type 0
Parts = (UserId × List ℕ) × (Checksum × Unit {0})

abbrev pub parts : Fields Parts
parts =
    field 0 (kept user_id) (
    field 1 checksum_form
    end)

abbrev pub make : Parts → X509User
make (id, (sum, _)) = record { nonce = id.0.nonce; user = id.0.user; realm = id.0.realm; options = id.0.options; id_bytes = id.1; sum_type = sum.cksumtype; sum = sum.checksum }

abbrev pub parts_of : X509User → Parts
parts_of x = ((record { nonce = x.nonce; user = x.user; realm = x.realm; options = x.options }, x.id_bytes), (record { cksumtype = x.sum_type; checksum = x.sum }, tt))

abbrev pub fields : Fields X509User
fields = made parts make parts_of

abbrev pub x509_user : Codec X509User
x509_user = sequence fields
