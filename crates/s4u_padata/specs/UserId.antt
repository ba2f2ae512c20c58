-- S4UUserID ::= SEQUENCE (MS-SFU, section 2.2.2); subject-certificate is read past, absent options are 0.
use Rattle.std.specs.Prelude.{ℕ, List, Option, Bool, nat_eq}
use Rattle.der_core.specs.Codec.{Codec}
use Rattle.der_core.specs.Forms.{octets}
use Rattle.der_forms.specs.declared.value.Flags.{Flags}
use Rattle.der_forms.specs.Fields.{Fields, end, field, optional, dropped, made, sequence}
use Rattle.der_forms.specs.Names.{realm as realm_name}
use Rattle.der_forms.specs.Values.{flags, nonce as nonce_number}
use Rattle.krb_tickets.specs.declared.principal_name.PrincipalName.{PrincipalName}
use Rattle.krb_tickets.specs.PrincipalName.{principal_name, named, unnamed}
use Rattle.der_forms.specs.declared.value.Nonce.{Nonce}
use Rattle.s4u_padata.specs.declared.user_id.UserId.{UserId}
use Rattle.der_forms.specs.Defaults.{defaulted}

abbrev pub Parts : Type 0
Parts = Nonce × (Option PrincipalName × (List ℕ × (Flags × Unit {0})))

abbrev pub no_flags : Flags
no_flags = record { 0 = 0 }

abbrev pub are_none : Flags → Bool
are_none flags = nat_eq flags.0 0

abbrev pub parts : Fields Parts
parts =
    field 0 nonce_number (
    optional 1 principal_name (
    field 2 realm_name (
    dropped 3 octets (
    defaulted 4 flags no_flags are_none
    end))))

abbrev pub make : Parts → UserId
make (nonce, (user, (realm, (options, _)))) = record { nonce = nonce.0; user = named realm user; realm = realm; options = options.0 }

abbrev pub parts_of : UserId → Parts
parts_of x = (record { 0 = x.nonce }, (unnamed x.user, (x.realm, (record { 0 = x.options }, tt))))

abbrev pub fields : Fields UserId
fields = made parts make parts_of

unfoldable pub user_id : Codec UserId
user_id = sequence fields
