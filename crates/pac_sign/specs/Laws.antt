-- What was signed verifies.
use Rattle.std.specs.Prelude.{◌≡◌, ℕ, ◌+◌, ◌-◌, ◌<◌, ◌^◌, pos, List, length, false, Option, Some, Ok, IfSome, is_some, option_map}
use Rattle.std.specs.Int.{w32, from_le_bytes}
use Rattle.krb_names.specs.declared.key.Key.{Key}
use Rattle.pac_buffers.specs.Buffers.{Buffer, pac, built, size_of, content_of, is_signature, IsSound}
use Rattle.pac_sign.specs.Sums.{sum_type}
use Rattle.pac_sign.specs.Signed.{signed}
use Rattle.pac_sign.specs.Verified.{verified}

-- the type of the checksum in the signature of this type
abbrev pub type_of : ℕ → List Buffer → Option ℕ
type_of kind bs = option_map (λ content. from_le_bytes w32 content) (content_of kind bs)

-- the signatures are of the keys' types, and there is a ticket signature where a part is given
pub record IsFor (server realm : Key) (part : Option (List ℕ)) (bs : List Buffer) : Type 0 where
  pub server_type : type_of 6 bs ≡ Some (sum_type server.etype)
  pub kdc_type : type_of 7 bs ≡ Some (sum_type realm.etype)
  pub ticket_type : IfSome part (λ _. type_of 16 bs ≡ Some (sum_type realm.etype))

-- what is signed is a PAC
abbrev pub SignedIsSound : Type 0
SignedIsSound = (server realm : Key) (part : Option (List ℕ)) (bs : List Buffer) → IsSound bs → IsSound (signed server realm part bs)

-- the other buffers stay
abbrev pub OthersStay : Type 0
OthersStay = (server realm : Key) (part : Option (List ℕ)) (bs : List Buffer) (kind : ℕ) → is_signature kind ≡ false → content_of kind (signed server realm part bs) ≡ content_of kind bs

abbrev pub SignedVerifies : Type 0
SignedVerifies = (server realm : Key) (part : Option (List ℕ)) (bs : List Buffer) → IsSound bs → IsFor server realm part bs → verified server (Some realm) part (pac (signed server realm part bs)) ≡ Ok tt

-- the same for a PAC as it is built
abbrev pub BuiltVerifies : Type 0
BuiltVerifies = (server realm : Key) (part delegation : Option (List ℕ)) (logon client : List ℕ) → length logon + length client + size_of delegation < 2 ^ 32 - 256
    → verified server (Some realm) part (pac (signed server realm part (built logon client delegation (is_some part) (pos (sum_type server.etype)) (pos (sum_type realm.etype))))) ≡ Ok tt
