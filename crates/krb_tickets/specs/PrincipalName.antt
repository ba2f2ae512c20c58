-- PrincipalName ::= SEQUENCE { name-type [0] Int32, name-string [1] SEQUENCE OF KerberosString } (RFC 4120, section 5.2.2)
use Rattle.std.specs.Prelude.{◌≡◌, ℕ, ℤ, List, Option, Some, None, option_map}
use Rattle.std.proofs.Common.{refl}
use Rattle.der_core.specs.Codec.{Codec, element_of}
use Rattle.der_core.specs.Forms.{int32}
use Rattle.der_forms.specs.Fields.{Fields, end, depending, field, made, sequence}
use Rattle.krb_names.specs.declared.principal.Principal.{Principal}
use Rattle.krb_tickets.specs.declared.principal_name.PrincipalName.{PrincipalName}
use Rattle.krb_tickets.specs.NameString.{name_string}

abbrev pub Parts : Type 0
Parts = ℤ × (List (List ℕ) × Unit {0})

abbrev pub parts : Fields Parts
parts =
    depending 0 int32 (λ kind.
    field 1 (element_of 0x30 (name_string kind))
    end)

abbrev pub make : Parts → PrincipalName
make (name_type, (name_string, _)) = record { name_type = name_type; name_string = name_string }

abbrev pub parts_of : PrincipalName → Parts
parts_of x = (x.name_type, (x.name_string, tt))

abbrev pub fields : Fields PrincipalName
fields = made parts make parts_of

abbrev pub principal_name : Codec PrincipalName
principal_name = sequence fields

-- the principal of this name in this realm
abbrev pub in_realm : PrincipalName → List ℕ → Principal
in_realm name realm = record { kind = name.name_type; parts = name.name_string; realm = realm }

abbrev pub name_of : Principal → PrincipalName
name_of p = record { name_type = p.kind; name_string = p.parts }

-- the same for a name that may be absent
abbrev pub named : List ℕ → Option PrincipalName → Option Principal
named realm name = option_map (λ n. in_realm n realm) name

abbrev pub unnamed : Option Principal → Option PrincipalName
unnamed principal = option_map name_of principal

pub named_again : (realm : List ℕ) (name : Option PrincipalName) → unnamed (named realm name) ≡ name
named_again realm None = refl
named_again realm (Some name) = refl
