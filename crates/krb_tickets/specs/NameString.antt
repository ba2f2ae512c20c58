-- name-string [1] SEQUENCE OF KerberosString (RFC 4120, section 5.2.2), of 1 to 8 parts.
use Rattle.std.specs.Prelude.{◌≡◌, ℕ, ℤ, pos, negsuc, List, [], ◌∷◌, length, Bool, true, false, not, ◌&&◌, nat_eq, Result, Ok, Err, is_ok, ◌⊎◌, if◌then◌else◌}
use Rattle.std.specs.List.{flat_map}
use Rattle.der_core.specs.declared.refusal.DerRefusal.{DerRefusal}
use Rattle.der_core.specs.declared.refusal.DerCause.TheVariants.{BadText}
use Rattle.der_core.specs.Place.{At, refused, ◌>>=◌}
use Rattle.der_core.specs.Elements.{element_at}
use Rattle.der_core.specs.Codec.{Content}
use Rattle.der_core.specs.Forms.{text, text_such}
use Rattle.der_forms.specs.Lists.{some_items}
use Rattle.der_forms.specs.Names.{kerberos_string}
use Rattle.krb_names.specs.Pieces.{is_name}
use Rattle.krb_names.specs.Principals.{name_reading}

-- name texts
abbrev pub plain_parts : Content (List (List ℕ))
plain_parts = some_items 8 kerberos_string

-- a name and a realm joined by `@`, which is no name text itself
abbrev pub is_joined : List ℕ → Bool
is_joined text = not (is_name text) && is_ok (name_reading text)

-- one part, a joined text
pub record IsLone (bytes : List ℕ) (parts : List (List ℕ)) : Type 0 where
  pub part : List ℕ
  pub lone : parts ≡ part ∷ []
  pub spelt : (text_such is_joined).IsDer bytes part

pub record FitsLone (parts : List (List ℕ)) : Type 0 where
  pub part : List ℕ
  pub lone : parts ≡ part ∷ []
  pub fits : (text_such is_joined).Fits part

-- NT-ENTERPRISE, whose one part may be a joined text
abbrev pub is_enterprise : ℤ → Bool
is_enterprise (pos n) = nat_eq n 10
is_enterprise (negsuc n) = false

abbrev pub is_joined_text : Result (List ℕ × At) DerRefusal → Bool
is_joined_text (Ok x) = is_joined x.0
is_joined_text (Err e) = false

-- the first part is a joined text
abbrev pub begins_joined : At → Bool
begins_joined here = is_joined_text (text.reading here)

-- the one part; where anything follows it, the part itself is at fault
abbrev pub lone_at : At → Result (List (List ℕ)) DerRefusal
lone_at here = element_at 0x1b here >>= λ e. if nat_eq (length e.1.bytes) 0 then Ok (e.0.bytes ∷ []) else refused BadText e.0.place

-- the parts of a name of this type
abbrev pub name_string : ℤ → Content (List (List ℕ))
name_string kind = record {
  IsDer = λ bytes parts. plain_parts.IsDer bytes parts ⊎ ((is_enterprise kind ≡ true) × IsLone bytes parts);
  spelling = flat_map text.spelling;
  reading = λ here. if is_enterprise kind && begins_joined here then lone_at here else plain_parts.reading here;
  Fits = λ parts. plain_parts.Fits parts ⊎ ((is_enterprise kind ≡ true) × FitsLone parts);
}
