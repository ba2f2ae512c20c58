-- Security identifiers as texts (MS-DTYP, section 2.4.2.1; own choice: an authority is decimal, however large).
use Rattle.std.specs.Prelude.{ℕ, ◌-◌, ◌^◌, ◌==◌, ◌&&◌, nat_eq, nat_le, List, [], ◌∷◌, codes, drop, length, if◌then◌else◌, Option, None, Some, option_map, Result, Err}
use Rattle.std.specs.List.{slice_split, starts_with}
use Rattle.kdc_prelude.specs.Answers.{or_fault}
use Rattle.kdc_prelude.specs.Steps.{◌>>=◌, with_front}
use Rattle.krb_names.specs.Decimals.{decimal_reading}
use Rattle.krb_names.specs.SidValue.{SidValue}
use Rattle.krb_names.specs.declared.refusal.NameRefusal.{NameRefusal}
use Rattle.krb_names.specs.declared.refusal.NameRefusal.TheVariants.{Empty, BadText}

-- each piece is a number below 2^32
abbrev pub numbers_of : List (List ℕ) → Option (List ℕ)
numbers_of [] = Some []
numbers_of (piece ∷ pieces) = decimal_reading (2 ^ 32 - 1) piece >>= λ number. with_front (number ∷ []) (numbers_of pieces)

-- 1 to 15 sub-authorities
abbrev pub sub_authorities_of : List (List ℕ) → Option (List ℕ)
sub_authorities_of pieces = if nat_le 1 (length pieces) && nat_le (length pieces) 15 then numbers_of pieces else None

-- an authority below 2^48, and the sub-authorities
abbrev pub sid_of_pieces : List (List ℕ) → Option SidValue
sid_of_pieces [] = None
sid_of_pieces (first ∷ pieces) = decimal_reading (2 ^ 48 - 1) first >>= λ authority. option_map (λ numbers. record { authority = authority; numbers = numbers }) (sub_authorities_of pieces)

-- what follows `S-1-`
abbrev pub after_prefix : List ℕ → Option (List ℕ)
after_prefix text = if starts_with nat_eq text (codes "S-1-") then Some (drop 4 text) else None

-- the texts between the hyphens
abbrev pub hyphen_pieces : List ℕ → List (List ℕ)
hyphen_pieces text = slice_split (λ b. b == 45) text

-- `S-1-`, the authority and the sub-authorities, with a hyphen between them
abbrev pub sid_of_text : List ℕ → Option SidValue
sid_of_text text = after_prefix text >>= λ rest. sid_of_pieces (hyphen_pieces rest)

abbrev pub sid_reading : List ℕ → Result SidValue NameRefusal
sid_reading text = if length text == 0 then Err Empty else or_fault BadText (sid_of_text text)
