-- What a request asks for, by itself and at a time, in whole seconds (RFC 4120, sections 3.1.3 and 3.3.3; the limits are an own choice).
use Rattle.std.specs.Prelude.{ℕ, ℤ, ◌+◌, ◌==◌, ◌&&◌, Bool, true, not, min, nat_le, nat_lt, List, [], ◌∷◌, Option, None, Some, unwrap_or, if◌then◌else◌}
use Rattle.std.specs.List.{list_all, list_any}
use Rattle.krb_names.specs.declared.etype.Etype.{Etype}
use Rattle.krb_names.specs.declared.etype.Etype.TheVariants.{Aes256}
use Rattle.krb_names.specs.declared.moment.Moment.{Moment}
use Rattle.krb_names.specs.Etypes.{etype_numbered}
use Rattle.kdc_records.specs.declared.wish.Wish.{Wish}
use Rattle.kdc_records.specs.Bits.{has_bit}

-- these options are clear
abbrev pub are_clear : List ℕ → ℕ → Bool
are_clear numbers options = list_all (λ n. not (has_bit n options)) numbers

-- no later time is asked for
abbrev pub is_by : ℕ → Option ℕ → Bool
is_by latest None = true
is_by latest (Some from) = nat_le from latest

-- neither allow-postdate nor postdated is asked for, and the start is asked for at most 300 seconds after now
abbrev pub start_is_now : Moment → Wish → Bool
start_is_now now wish = are_clear (5 ∷ 6 ∷ []) wish.options && is_by (now.secs + 300) wish.from

-- the first type of the list that is 17 or 18; type 18 where it has none, which the rules refuse
abbrev pub session_type : List ℤ → Etype
session_type [] = Aes256
session_type (number ∷ numbers) = unwrap_or (etype_numbered number) (session_type numbers)

-- the earlier of the end that is asked for and another one; an end of 1970 is no bound
abbrev pub end_by : ℕ → ℕ → ℕ
end_by till latest = if till == 0 then latest else min till latest

-- the end is later than now
abbrev pub end_is_later : Moment → ℕ → Bool
end_is_later now end = nat_lt now.secs end
