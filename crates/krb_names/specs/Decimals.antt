-- Numbers as decimal digits (own choice), without sign and without a leading zero other than `0` itself.
use Rattle.std.specs.Prelude.{ℕ, ◌==◌, ◌&&◌, nat_le, nat_lt, not, Bool, List, length, slice_index, if◌then◌else◌, Option, None, Some}
use Rattle.std.specs.List.{list_all}
use Rattle.std.specs.Char.{is_ascii_digit}
use Rattle.std.specs.Str.Parse.{digits_value}

-- several bytes of which the first is `0`
abbrev pub has_leading_zero : List ℕ → Bool
has_leading_zero text = nat_lt 1 (length text) && slice_index text 0 == 48

-- one digit, or several of which the first is not `0`
abbrev pub is_decimal : List ℕ → Bool
is_decimal text = not (length text == 0) && not (has_leading_zero text) && list_all is_ascii_digit text

-- the number that the text writes, if it is at most `most`
abbrev pub decimal_reading : ℕ → List ℕ → Option ℕ
decimal_reading most text = if is_decimal text && nat_le (digits_value 10 text) most then Some (digits_value 10 text) else None
