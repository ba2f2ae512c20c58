-- The error codes of the rules of a service end (RFC 4120, section 7.5.9; which fits where several do is an own choice).
use Rattle.std.specs.Prelude.{ℤ, pos}
use Rattle.service_end.specs.declared.refusal.AcceptRule.{AcceptRule}
use Rattle.service_end.specs.declared.refusal.AcceptRule.TheVariants.{Malformed, NotUs, Version, Integrity, Match, Skew, NotYet, Ended, Signature, Repeat, Full, NoMemory}

-- want of memory is an error like a full memory: KRB_ERR_GENERIC
abbrev pub code_of : AcceptRule → ℤ
code_of (Malformed place) = pos 40
code_of NotUs = pos 35
code_of Version = pos 44
code_of Integrity = pos 31
code_of Match = pos 36
code_of Skew = pos 37
code_of NotYet = pos 33
code_of Ended = pos 32
code_of Signature = pos 41
code_of (Repeat kept) = pos 34
code_of Full = pos 60
code_of NoMemory = pos 60
