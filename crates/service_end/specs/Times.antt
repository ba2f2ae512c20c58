-- When a service accepts a ticket and its authenticator (RFC 4120, section 3.2.3). All times are compared in microseconds after 1970:
-- a time in whole seconds is before another moment exactly where it is so in whole seconds.
use Rattle.std.specs.Prelude.{ℕ, ◌+◌, ◌-◌, ◌*◌, ◌&&◌, Bool, not, max, nat_le, nat_lt, Result}
use Rattle.kdc_prelude.specs.Results.{◌>>=◌}
use Rattle.krb_tickets.specs.declared.enc_ticket_part.EncTicketPart.{EncTicketPart}
use Rattle.kdc_records.specs.Bits.{has_bit}
use Rattle.tgs_requests.specs.Headers.{starts_at}
use Rattle.service_end.specs.declared.refusal.AcceptRule.{AcceptRule}
use Rattle.service_end.specs.declared.refusal.AcceptRule.TheVariants.{Skew, NotYet, Ended}
use Rattle.service_end.specs.Memory.{Memory}
use Rattle.service_end.specs.Shown.{require}

-- the moment that a call uses: now, or the latest that one used which accepted, where that is later
abbrev pub moment_used : Memory → ℕ → ℕ
moment_used memory now = max now memory.latest

-- Skew: the authenticator was made within 300 seconds of the moment
abbrev pub is_fresh : ℕ → ℕ → Bool
is_fresh moment at = nat_le ((at - moment) + (moment - at)) 300000000

-- NotYet: the ticket starts at most 300 seconds after the moment, and is not invalid
abbrev pub has_begun : ℕ → EncTicketPart → Bool
has_begun moment part = nat_le (starts_at part * 1000000) (moment + 300000000) && not (has_bit 7 part.flags)

-- Ended: the moment is earlier than its end
abbrev pub lasts : ℕ → EncTicketPart → Bool
lasts moment part = nat_lt moment (part.end * 1000000)

-- the first of these rules that fails, of a ticket with an authenticator that was made at this time
abbrev pub is_timely : ℕ → ℕ → EncTicketPart → Result (Unit {0}) AcceptRule
is_timely moment at part =
    require Skew (is_fresh moment at) >>= λ _.
    require NotYet (has_begun moment part) >>= λ _.
    require Ended (lasts moment part)
