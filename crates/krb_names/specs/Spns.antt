-- Service principal names (own choice, within RFC 4120, section 6.2).
use Rattle.std.specs.Prelude.{ℕ, ◌==◌, ◌&&◌, nat_lt, List, length, Result}
use Rattle.std.specs.List.{slice_split}
use Rattle.kdc_prelude.specs.Results.{unless_refused}
use Rattle.krb_names.specs.declared.refusal.NameRefusal.{NameRefusal}
use Rattle.krb_names.specs.Pieces.{fault_of}

-- the texts between the slashes
abbrev pub spn_pieces : List ℕ → List (List ℕ)
spn_pieces text = slice_split (λ b. b == 47) text

-- two or three pieces
abbrev pub spn_reading : List ℕ → Result (List ℕ) NameRefusal
spn_reading text = unless_refused (fault_of (spn_pieces text) (nat_lt 1 (length (spn_pieces text)) && nat_lt (length (spn_pieces text)) 4)) text
