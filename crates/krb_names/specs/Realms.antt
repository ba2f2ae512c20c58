-- The names of realms (RFC 4120, section 6.1).
use Rattle.std.specs.Prelude.{ℕ, true, List, [], ◌∷◌, Result}
use Rattle.kdc_prelude.specs.Results.{unless_refused}
use Rattle.krb_names.specs.declared.refusal.NameRefusal.{NameRefusal}
use Rattle.krb_names.specs.Pieces.{fault_of}

-- a realm is one piece
abbrev pub realm_reading : List ℕ → Result (List ℕ) NameRefusal
realm_reading text = unless_refused (fault_of (text ∷ []) true) text
