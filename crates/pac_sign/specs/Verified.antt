-- A PAC whose signatures are compared.
use Rattle.std.specs.Prelude.{ℕ, List, [], ◌∷◌, length, take, drop, Bool, true, false, ◌&&◌, nat_le, nat_eq, Option, None, Some, unwrap_or, Result, Ok, Err, if◌then◌else◌}
use Rattle.std.specs.Int.{w32, from_le_bytes}
use Rattle.kdc_prelude.specs.Texts.{same_text}
use Rattle.kdc_prelude.specs.Verdicts.{first_failing}
use Rattle.krb_names.specs.declared.key.Key.{Key}
use Rattle.pac_buffers.specs.Container.{buffer_of}
use Rattle.pac_sign.specs.declared.fault.SignFault.{SignFault}
use Rattle.pac_sign.specs.declared.fault.SignFault.TheVariants.{Server, Kdc, Ticket}
use Rattle.pac_sign.specs.Sums.{sum_type, sum_of, covered}

-- the value in a signature's buffer, where it is whole and of the key's type
abbrev pub value_for : Key → Option (List ℕ) → Option (List ℕ)
value_for key None = None
value_for key (Some content) = if nat_le 16 (length content) && nat_eq (from_le_bytes w32 content) (sum_type key.etype) then Some (take 12 (drop 4 content)) else None

abbrev pub is_value : Option (List ℕ) → List ℕ → Bool
is_value None sum = false
is_value (Some value) sum = same_text value sum

-- the server signature is right
abbrev pub server_holds : Key → List ℕ → Bool
server_holds server bytes = is_value (value_for server (buffer_of 6 bytes)) (sum_of server (covered bytes))

-- the KDC signature is right, over the value of the server signature
abbrev pub kdc_holds : Key → Key → List ℕ → Bool
kdc_holds server realm bytes = is_value (value_for realm (buffer_of 7 bytes)) (sum_of realm (unwrap_or (value_for server (buffer_of 6 bytes)) []))

-- the ticket signature is right, over the part
abbrev pub ticket_holds : Key → List ℕ → List ℕ → Bool
ticket_holds realm part bytes = is_value (value_for realm (buffer_of 16 bytes)) (sum_of realm part)

-- asked only where there is a key
abbrev pub kdc_asked : Key → Option Key → List ℕ → Bool
kdc_asked server None bytes = true
kdc_asked server (Some realm) bytes = kdc_holds server realm bytes

-- asked only where there is a part
abbrev pub ticket_asked : Option Key → Option (List ℕ) → List ℕ → Bool
ticket_asked (Some realm) (Some part) bytes = ticket_holds realm part bytes
ticket_asked (Some realm) None bytes = true
ticket_asked None part bytes = true

-- the signatures, in the order in which they are compared
abbrev pub checks : Key → Option Key → Option (List ℕ) → List ℕ → List (SignFault × Bool)
checks server realm part bytes = (Server, server_holds server bytes) ∷ (Kdc, kdc_asked server realm bytes) ∷ (Ticket, ticket_asked realm part bytes) ∷ []

abbrev pub or_wrong : Option SignFault → Result (Unit {0}) SignFault
or_wrong None = Ok tt
or_wrong (Some fault) = Err fault

-- the first signature that is wrong
abbrev pub verified : Key → Option Key → Option (List ℕ) → List ℕ → Result (Unit {0}) SignFault
verified server realm part bytes = or_wrong (first_failing (checks server realm part bytes))
