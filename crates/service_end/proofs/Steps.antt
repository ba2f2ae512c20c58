-- What is known of a call that accepts.
use Rattle.std.proofs.Common.{◌≡◌, ℕ, ◌+◌, ◌≤◌, Bool, true, false, List, [], ◌∷◌, ◌++◌, Option, None, Some, Result, Ok, refl, sym, ap, subst, arith}
use Rattle.std.specs.List.{find}
use Rattle.std.proofs.Math.Nat.{le-max_right}
use Rattle.std.proofs.lemmas.Bool.Decides.{nat_tests}
use Rattle.kdc_prelude.specs.Answers.{or_fault}
use Rattle.kdc_prelude.specs.Results.{◌>>=◌}
use Rattle.krb_tickets.specs.declared.enc_ticket_part.EncTicketPart.{EncTicketPart}
use Rattle.ticket_parts.specs.declared.pac_values.PacValue.{PacValue}
use Rattle.tgs_requests.specs.Headers.{made_at}
use Rattle.service_end.specs.declared.refusal.AcceptRule.{AcceptRule}
use Rattle.service_end.specs.declared.refusal.AcceptRule.TheVariants.{Signature, Skew}
use Rattle.service_end.specs.declared.service.ServiceKeys.{ServiceKeys}
use Rattle.service_end.specs.declared.shown.Judged.{Judged}
use Rattle.service_end.specs.declared.shown.Shown.{Shown}
use Rattle.service_end.specs.Accepting.{Acceptance, accept_outcome, acceptance_of, entry_of, is_new, judged, left_of, same_entry, unless_repeated}
use Rattle.service_end.specs.Memory.{Entry, Memory}
use Rattle.service_end.specs.Readings.{pac_shown}
use Rattle.service_end.specs.Runs.{Call, outcome_of}
use Rattle.service_end.specs.Shown.{request_in, require, shown_in}
use Rattle.service_end.specs.Times.{is_fresh, is_timely, moment_used}
use Rattle.service_end.proofs.Chains.{gave}

required : (rule : AcceptRule) (t : Bool) (done : Unit {0}) → require rule t ≡ Ok done → t ≡ true
required rule true done h = refl
required rule false done h = absurd (cc)

fresh_by : (moment at : ℕ) → is_fresh moment at ≡ true → moment ≤ at + 300000000
fresh_by moment at h = grind (arith, nat_tests)

pub timely_is_fresh : (moment at : ℕ) (part : EncTicketPart) (done : Unit {0}) → is_timely moment at part ≡ Ok done → moment ≤ at + 300000000
timely_is_fresh moment at part done h =
    let step = gave (require Skew (is_fresh moment at)) _ done h in
    fresh_by moment at (required Skew (is_fresh moment at) step.value step.first)

judged_shows : (keys : ServiceKeys) (shown : Shown) (found : Option PacValue) (j : Judged) → (or_fault Signature found >>= λ pac. let told : Result Judged AcceptRule = Ok (record { shown = shown; pac = pac }) in told) ≡ Ok j → j.shown ≡ shown
judged_shows keys shown None j h = absurd (cc)
judged_shows keys shown (Some pac) j h = let same : record { shown = shown; pac = pac } ≡ j = cc in ap (λ (x : Judged). x.shown) (sym same)

-- the authenticator of what keeps the rules of a message is fresh
pub judged_is_fresh : (keys : ServiceKeys) (moment : ℕ) (bytes : List ℕ) (j : Judged) → judged keys moment bytes ≡ Ok j → moment ≤ made_at j.shown.auth + 300000000
unfolding judged
judged_is_fresh keys moment bytes j h =
    let request = gave (request_in bytes) _ j h in
    let shown = gave (shown_in keys request.value) _ j request.rest in
    let timely = gave (is_timely moment (made_at shown.value.auth) shown.value.part) _ j shown.rest in
    let fresh = timely_is_fresh moment (made_at shown.value.auth) shown.value.part timely.value timely.first in
    subst (λ (s : Shown). moment ≤ made_at s.auth + 300000000) (sym (judged_shows keys shown.value (pac_shown keys.key shown.value.part) j timely.rest)) fresh

unrepeated : (found : Option Entry) (done : Unit {0}) → unless_repeated found ≡ Ok done → found ≡ None
unrepeated None done h = refl
unrepeated (Some kept) done h = absurd (cc)

new_by : (moment : ℕ) (memory : Memory) (entry : Entry) (done : Unit {0}) → is_new moment memory entry ≡ Ok done → find (same_entry entry) memory.entries ≡ None
new_by moment memory entry done h =
    let step = gave (unless_repeated (find (same_entry entry) memory.entries)) _ done h in
    unrepeated (find (same_entry entry) memory.entries) step.value step.first

-- what a call that accepts found, and what it left
pub record IsStep (moment : ℕ) (memory : Memory) (a : Acceptance) : Type 0 where
  pub later : memory.latest ≤ moment
  pub fresh : moment ≤ a.entry.at + 300000000
  pub new : find (same_entry a.entry) memory.entries ≡ None
  pub entries : a.memory.entries ≡ left_of moment memory ++ a.entry ∷ []
  pub latest : a.memory.latest ≡ moment

of_acceptance : (conf : List ℕ) (moment : ℕ) (memory : Memory) (j : Judged) → memory.latest ≤ moment → moment ≤ made_at j.shown.auth + 300000000
    → find (same_entry (entry_of j.shown)) memory.entries ≡ None → IsStep moment memory (acceptance_of conf moment memory j)
of_acceptance conf moment memory j later fresh new = record { later = later; fresh = fresh; new = new; entries = refl; latest = refl }

pub accepts : (memory : Memory) (call : Call) (a : Acceptance) → outcome_of memory call ≡ Ok a → IsStep (moment_used memory call.now) memory a
unfolding accept_outcome
accepts memory call a h =
    let moment = moment_used memory call.now in
    let step = gave (judged call.keys moment call.bytes) _ a h in
    let j : Judged = step.value in
    let new = gave (is_new moment memory (entry_of j.shown)) _ a step.rest in
    let same : acceptance_of call.conf moment memory j ≡ a = cc (new.rest) in
    subst (IsStep moment memory) same
    (of_acceptance call.conf moment memory j (le-max_right call.now memory.latest) (judged_is_fresh call.keys moment call.bytes j step.first) (new_by moment memory (entry_of j.shown) new.value new.first))
