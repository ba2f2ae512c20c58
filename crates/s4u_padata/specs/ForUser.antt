-- PA-FOR-USER ::= SEQUENCE { userName [0] PrincipalName, userRealm [1] Realm, cksum [2] Checksum, auth-package [3] KerberosString } (MS-SFU, section 2.2.1)
use Rattle.std.specs.Prelude.{ℕ, List}
use Rattle.der_core.specs.Codec.{Codec}
use Rattle.der_core.specs.Forms.{text}
use Rattle.der_forms.specs.Fields.{Fields, end, field, made, sequence}
use Rattle.der_forms.specs.Names.{realm as realm_name}
use Rattle.krb_tickets.specs.declared.principal_name.PrincipalName.{PrincipalName}
use Rattle.krb_tickets.specs.PrincipalName.{principal_name, in_realm, name_of}
use Rattle.krb_messages.specs.declared.checksum.Checksum.{Checksum}
use Rattle.krb_messages.specs.Checksum.{checksum_form}
use Rattle.s4u_padata.specs.declared.for_user.ForUser.{ForUser}

abbrev pub Parts : Type 0
Parts = PrincipalName × (List ℕ × (Checksum × (List ℕ × Unit {0})))

abbrev pub parts : Fields Parts
parts =
    field 0 principal_name (
    field 1 realm_name (
    field 2 checksum_form (
    field 3 text
    end)))

abbrev pub make : Parts → ForUser
make (name, (realm, (sum, (auth_package, _)))) = record { user = in_realm name realm; sum_type = sum.cksumtype; sum = sum.checksum; «package» = auth_package }

abbrev pub parts_of : ForUser → Parts
parts_of x = (name_of x.user, (x.user.realm, (record { cksumtype = x.sum_type; checksum = x.sum }, (x.«package», tt))))

abbrev pub fields : Fields ForUser
fields = made parts make parts_of

abbrev pub for_user : Codec ForUser
for_user = sequence fields
