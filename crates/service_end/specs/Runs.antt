-- Calls of a service end, one after the other, on one memory.
use Rattle.std.specs.Prelude.{◌≡◌, ℕ, true, List, [], ◌∷◌, Result, Ok, Err}
use Rattle.kdc_prelude.specs.Distinct.{all_distinct}
use Rattle.service_end.specs.declared.refusal.AcceptRule.{AcceptRule}
use Rattle.service_end.specs.declared.service.ServiceKeys.{ServiceKeys}
use Rattle.service_end.specs.Accepting.{Acceptance, accept_outcome, same_entry}
use Rattle.service_end.specs.Memory.{Entry, Memory, nothing_seen}

-- what a call is given: the service's keys, the time in microseconds after 1970, a confounder, and the message
pub record Call : Type 0 where
  pub keys : ServiceKeys
  pub now : ℕ
  pub conf : List ℕ
  pub bytes : List ℕ

abbrev pub outcome_of : Memory → Call → Result Acceptance AcceptRule
outcome_of memory call = accept_outcome call.keys call.now call.conf memory call.bytes

-- what is accepted comes first, and the rest is told with what is remembered then; a refusal changes nothing, nor does want of memory
abbrev pub entries_by : (Memory → List Entry) → Memory → Result Acceptance AcceptRule → List Entry
entries_by rest memory (Ok a) = a.entry ∷ rest a.memory
entries_by rest memory (Err rule) = rest memory

-- the clients and the authenticators' moments of the calls that accept, in their order
abbrev pub entries_from : List Call → Memory → List Entry
entries_from [] memory = []
entries_from (call ∷ calls) memory = entries_by (entries_from calls) memory (outcome_of memory call)

-- no two calls on one memory accept the same client and the same moment
abbrev pub NothingRepeats : Type 0
NothingRepeats = (calls : List Call) → all_distinct same_entry (entries_from calls nothing_seen) ≡ true
