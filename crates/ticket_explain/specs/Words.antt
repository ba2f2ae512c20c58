-- Parts of a ticket and its record in words (own choice).
use Rattle.std.specs.Prelude.{ℕ, ◌++◌, List, [], ◌∷◌, codes, decimal, map, Option, None, Some}
use Rattle.std.specs.List.{filter, join_with_byte}
use Rattle.krb_names.specs.Times.{ktime_text}
use Rattle.kdc_records.specs.declared.subject.Delegation.{Delegation}
use Rattle.kdc_records.specs.Bits.{has_bit}

abbrev pub kvno_text : Option ℕ → List ℕ
kvno_text None = codes "-"
kvno_text (Some kvno) = decimal kvno

-- texts with a separator between; `-` for none
abbrev pub listed : ℕ → List (List ℕ) → List ℕ
listed separator [] = codes "-"
listed separator (text ∷ texts) = join_with_byte separator (text ∷ texts)

-- `YYYYMMDDHHMMSSZ` (RFC 4120, section 5.2.3)
unfoldable pub time_text : ℕ → List ℕ
time_text time = ktime_text time

-- the flags that are told, in this order (RFC 4120, section 5.3): forwardable(1), initial(9), pre-authent(10)
abbrev pub told_flags : List (ℕ × List ℕ)
told_flags = (1, codes "forwardable") ∷ (9, codes "initial") ∷ (10, codes "pre-authent") ∷ []

abbrev pub flag_names : ℕ → List (List ℕ)
flag_names flags = map (λ told. told.1) (filter (λ told. has_bit told.0 flags) told_flags)

-- the service that was asked for, and those that delegated
unfoldable pub delegation_text : Option Delegation → List ℕ
delegation_text None = codes "-"
delegation_text (Some d) = d.target ++ codes " via " ++ listed 32 d.services
