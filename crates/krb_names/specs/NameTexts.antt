-- Names in words (own choice).
use Rattle.std.specs.Prelude.{ℕ, List, ◌∷◌, ◌++◌}
use Rattle.std.specs.List.{join_with_byte}
use Rattle.krb_names.specs.declared.principal.Principal.{Principal}

-- a name and its realm: `NAME@REALM`
abbrev pub at_realm : List ℕ → List ℕ → List ℕ
at_realm name realm = name ++ 64 ∷ realm

-- the parts joined by `/`, then `@`, then the realm
abbrev pub name_text : Principal → List ℕ
name_text p = at_realm (join_with_byte 47 p.parts) p.realm
