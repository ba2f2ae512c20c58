-- Moments of a clock, and how far apart two of them are.
use Rattle.std.specs.Prelude.{ℕ, ◌+◌, ◌-◌, ◌*◌, Bool, nat_le}
use Rattle.krb_names.specs.declared.moment.Moment.{Moment}

-- microseconds since 1970
abbrev pub in_micros : Moment → ℕ
in_micros moment = moment.secs * 1000000 + moment.micros

-- the microseconds between two moments, whichever comes first
abbrev pub distance : Moment → Moment → ℕ
distance a b = (in_micros a - in_micros b) + (in_micros b - in_micros a)

-- the two are at most 300 seconds apart (RFC 4120, section 3.1.3 leaves the limit open, and names five minutes)
abbrev pub are_within_skew : Moment → Moment → Bool
are_within_skew a b = nat_le (distance a b) 300000000
