-- Names of principals (RFC 4120, section 6.2).
use Rattle.std.specs.Prelude.{ℕ, ◌==◌, ◌&&◌, true, false, Bool, List, [], ◌∷◌, if◌then◌else◌, Option, None, Some, unwrap_or, Result, Err, pos}
use Rattle.kdc_prelude.specs.Results.{unless_refused}
use lib.Pointwise.{pointwise}
use Rattle.kdc_prelude.specs.Texts.{same_text}
use Rattle.krb_names.specs.declared.refusal.NameRefusal.{NameRefusal}
use Rattle.krb_names.specs.declared.refusal.NameRefusal.TheVariants.{BadText}
use Rattle.krb_names.specs.declared.principal.Principal.{Principal}
use Rattle.krb_names.specs.Pieces.{fault_of}

-- b and the parts round the last `@` of what follows it; those round b where it is that `@`
abbrev pub cut_at : ℕ → List ℕ → Option (List ℕ × List ℕ) → Option (List ℕ × List ℕ)
cut_at b rest None = if b == 64 then Some ([], rest) else None
cut_at b rest (Some parts) = Some (b ∷ parts.0, parts.1)

-- the parts round the last `@`, if there is one
abbrev pub round_last_at : List ℕ → Option (List ℕ × List ℕ)
round_last_at [] = None
round_last_at (b ∷ rest) = cut_at b rest (round_last_at rest)

-- a name and its realm; a text without `@` is one piece, which is no name
abbrev pub name_of_parts : List ℕ → Option (List ℕ × List ℕ) → Result Principal NameRefusal
name_of_parts text None = Err (unwrap_or (fault_of (text ∷ []) false) BadText)
name_of_parts text (Some parts) = unless_refused (fault_of (parts.0 ∷ parts.1 ∷ []) true) (record { kind = pos 1; parts = parts.0 ∷ []; realm = parts.1 })

-- `name@REALM`, a name of kind 1 with one part
abbrev pub name_reading : List ℕ → Result Principal NameRefusal
name_reading text = name_of_parts text (round_last_at text)

-- the same parts and the same realm; the kind does not count
abbrev pub same_principal : Principal → Principal → Bool
same_principal a b = pointwise same_text a.parts b.parts && same_text a.realm b.realm
