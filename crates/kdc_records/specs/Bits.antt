-- Flags of tickets and options of requests (RFC 4120, section 5.2.8): bit 0 is the highest of 32.
use Rattle.std.specs.Prelude.{ℕ, ◌-◌, ◌^◌, ◌==◌, Bool, if◌then◌else◌}
use Rattle.std.specs.Int.{bit_at}

-- bit n is set
abbrev pub has_bit : ℕ → ℕ → Bool
has_bit n bits = bit_at bits (31 - n) == 1

-- bit n alone, where it is to be set, and no bit otherwise
abbrev pub bit_if : ℕ → Bool → ℕ
bit_if n set = if set then 2 ^ (31 - n) else 0
