-- Security identifiers (MS-DTYP, section 2.4.2).
use Rattle.std.specs.Prelude.{◌≡◌, ℕ, ◌-◌, ◌<◌, ◌≤◌, ◌^◌, ◌==◌, ◌&&◌, Bool, List, [], ◌∷◌, ◌++◌, codes, decimal, drop, length, replicate, slice_index, take}
use Rattle.std.specs.List.{flat_map}
use Rattle.kdc_prelude.specs.Texts.{same_text}

-- an authority and its sub-authorities
pub record SidValue : Type 0 where
  pub authority : ℕ
  pub numbers : List ℕ

-- the same authority, and one number more
abbrev pub followed_by : SidValue → ℕ → SidValue
followed_by sid number = record sid { numbers = sid.numbers ++ number ∷ [] }

-- a SID without its last number: the domain's
abbrev pub domain_of : SidValue → SidValue
domain_of sid = record sid { numbers = take (length sid.numbers - 1) sid.numbers }

-- the last number of a SID: the account's in its domain
abbrev pub number_of : SidValue → ℕ
number_of sid = slice_index sid.numbers (length sid.numbers - 1)

-- a hyphen before each number
abbrev pub numbers_text : List ℕ → List ℕ
numbers_text numbers = flat_map (λ number. 45 ∷ decimal number) numbers

-- `S-1-A-N1-N2`, the authority in decimal too (MS-DTYP, section 2.4.2.1 has an authority of 2^32 and more in hexadecimal)
unfoldable pub sid_text : SidValue → List ℕ
sid_text sid = codes "S-1-" ++ decimal sid.authority ++ numbers_text sid.numbers

abbrev pub same_sid : SidValue → SidValue → Bool
same_sid a b = (a.authority == b.authority) && same_text a.numbers b.numbers

-- 1 to 15 sub-authorities; the fields past them are zero
pub record IsSid (authority count : ℕ) (subs : List ℕ) : Type 0 where
  pub low : authority < 2 ^ 48
  pub some : 1 ≤ count
  pub few : count ≤ 15
  pub size : length subs ≡ 15
  pub rest : drop count subs ≡ replicate (15 - count) 0
