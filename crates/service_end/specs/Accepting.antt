-- What a service end answers to an AP-REQ (RFC 4120, section 3.2.3; MS-PAC, section 2.8): the first rule that fails, or what it accepts.
use Rattle.std.specs.Prelude.{ℕ, ◌+◌, ◌&&◌, ◌==◌, Bool, nat_le, nat_lt, List, [], ◌∷◌, ◌++◌, length, Option, None, Some, Result, Ok, Err}
use Rattle.std.specs.List.{filter, find}
use Rattle.kdc_prelude.specs.Answers.{or_fault}
use Rattle.kdc_prelude.specs.Results.{◌>>=◌}
use Rattle.krb_names.specs.Principals.{same_principal}
use Rattle.pac_buffers.specs.declared.delegation_info.DelegationInfo.{DelegationInfo}
use Rattle.pac_logon.specs.Logon.{subject_sid}
use Rattle.tgs_requests.specs.Headers.{made_at}
use Rattle.service_end.specs.declared.refusal.AcceptRule.{AcceptRule}
use Rattle.service_end.specs.declared.refusal.AcceptRule.TheVariants.{Signature, Repeat, Full}
use Rattle.service_end.specs.declared.service.Accepted.{Accepted}
use Rattle.service_end.specs.declared.service.ServiceKeys.{ServiceKeys}
use Rattle.service_end.specs.declared.shown.Judged.{Judged}
use Rattle.service_end.specs.declared.shown.Shown.{Shown}
use Rattle.service_end.specs.Memory.{Entry, Memory}
use Rattle.service_end.specs.Readings.{pac_shown}
use Rattle.service_end.specs.Replies.{reply_to}
use Rattle.service_end.specs.Shown.{request_in, require, shown_in}
use Rattle.service_end.specs.Times.{is_timely, moment_used}

-- ---- by the message and the moment alone

-- Signature: the ticket's PAC reads, and its server signature is right
abbrev pub judged_of : ServiceKeys → Shown → Result Judged AcceptRule
judged_of keys shown =
    or_fault Signature (pac_shown keys.key shown.part) >>= λ pac.
    Ok (record { shown = shown; pac = pac })

-- what a message shows, where the rules of a message keep: Malformed, NotUs, Version, Integrity, Match, Skew, NotYet, Ended, Signature
unfoldable pub judged : ServiceKeys → ℕ → List ℕ → Result Judged AcceptRule
judged keys moment bytes =
    request_in bytes >>= λ request.
    shown_in keys request >>= λ shown.
    is_timely moment (made_at shown.auth) shown.part >>= λ _.
    judged_of keys shown

-- ---- by what was accepted before

-- what is kept of it: the ticket's client, and when the authenticator was made
abbrev pub entry_of : Shown → Entry
entry_of shown = record { client = shown.part.client; at = made_at shown.auth }

-- of the same client, whatever the kind of its name, and of the same moment
abbrev pub same_entry : Entry → Entry → Bool
same_entry a b = same_principal a.client b.client && (a.at == b.at)

-- made at most 300 seconds before a moment
abbrev pub is_recent : ℕ → Entry → Bool
is_recent moment entry = nat_le moment (entry.at + 300000000)

-- the entries that are left where older ones are dropped
abbrev pub left_of : ℕ → Memory → List Entry
left_of moment memory = filter (is_recent moment) memory.entries

-- Repeat: no entry of the same client and moment is kept
abbrev pub unless_repeated : Option Entry → Result (Unit {0}) AcceptRule
unless_repeated None = Ok tt
unless_repeated (Some kept) = Err (Repeat kept)

-- Repeat; Full: fewer than 10,000 entries are left (own limit)
abbrev pub is_new : ℕ → Memory → Entry → Result (Unit {0}) AcceptRule
is_new moment memory entry =
    unless_repeated (find (same_entry entry) memory.entries) >>= λ _.
    require Full (nat_lt (length (left_of moment memory)) 10000)

-- what is remembered then
abbrev pub with_entry : ℕ → Memory → Entry → Memory
with_entry moment memory entry = record { entries = left_of moment memory ++ entry ∷ []; latest = moment }

-- ---- what is answered

-- the services that delegated, in their order (MS-PAC, section 2.9)
abbrev pub services_in : Option DelegationInfo → List (List ℕ)
services_in None = []
services_in (Some info) = info.services

-- the ticket's client, the SID of the PAC's user, the services that delegated, and the reply that is asked for
abbrev pub accepted_of : List ℕ → Judged → Accepted
accepted_of conf judged = record {
  client = judged.shown.part.client;
  sid = subject_sid judged.pac.logon;
  services = services_in judged.pac.delegation;
  reply = reply_to conf judged.shown;
}

-- what is answered, what is kept of the message, and what is remembered after it
pub record Acceptance : Type 0 where
  pub accepted : Accepted
  pub entry : Entry
  pub memory : Memory

abbrev pub acceptance_of : List ℕ → ℕ → Memory → Judged → Acceptance
acceptance_of conf moment memory judged = record {
  accepted = accepted_of conf judged;
  entry = entry_of judged.shown;
  memory = with_entry moment memory (entry_of judged.shown);
}

-- where nothing of the message is wrong at a moment: accepted, if it is new
abbrev pub accepted_at : List ℕ → ℕ → Memory → Judged → Result Acceptance AcceptRule
accepted_at conf moment memory judged =
    is_new moment memory (entry_of judged.shown) >>= λ _.
    Ok (acceptance_of conf moment memory judged)

abbrev pub outcome_at : ServiceKeys → ℕ → List ℕ → Memory → List ℕ → Result Acceptance AcceptRule
outcome_at keys moment conf memory bytes = judged keys moment bytes >>= accepted_at conf moment memory

-- what is accepted of a message at a time, with a confounder for the reply and this memory; or the first rule that fails
unfoldable pub accept_outcome : ServiceKeys → ℕ → List ℕ → Memory → List ℕ → Result Acceptance AcceptRule
accept_outcome keys now conf memory bytes = outcome_at keys (moment_used memory now) conf memory bytes

-- as a call tells it: what is accepted, and what is remembered after it
abbrev pub told : Result Acceptance AcceptRule → Result (Accepted × Memory) AcceptRule
told outcome = outcome >>= λ a. Ok (a.accepted, a.memory)
