-- The pieces of names (own choice, within RFC 4120, section 6).
use Rattle.std.specs.Prelude.{ℕ, ◌==◌, ◌||◌, ◌&&◌, nat_le, nat_lt, Bool, true, not, List, [], ◌∷◌, length, if◌then◌else◌, Option, None, Some, is_none}
use Rattle.std.specs.List.{list_any}
use Rattle.std.specs.Str.{chars}
use Rattle.krb_names.specs.declared.refusal.NameRefusal.{NameRefusal}
use Rattle.krb_names.specs.declared.refusal.NameRefusal.TheVariants.{Empty, TooLong, BadText}

-- a control character (U+0000 to 1F, U+007F to 9F), a space, `@`, `/` or `,`
abbrev pub is_forbidden : ℕ → Bool
is_forbidden c = nat_le c 32 || (nat_le 127 c && nat_le c 159) || c == 64 || c == 47 || c == 44

abbrev pub is_empty : List ℕ → Bool
is_empty piece = length piece == 0

-- more than 255 bytes of UTF-8
abbrev pub is_long : List ℕ → Bool
is_long piece = nat_lt 255 (length piece)

abbrev pub has_forbidden : List ℕ → Bool
has_forbidden piece = list_any is_forbidden (chars piece)

-- the first cause for which these pieces are no name, where fits tells whether they are as many as they should be
abbrev pub fault_of : List (List ℕ) → Bool → Option NameRefusal
fault_of pieces fits =
    if list_any is_empty pieces then Some Empty
    else (if list_any is_long pieces then Some TooLong
    else (if not fits || list_any has_forbidden pieces then Some BadText
    else None))

-- a text that may stand in a name
abbrev pub is_name : List ℕ → Bool
is_name text = is_none (fault_of (text ∷ []) true)
