-- What is remembered of a call that accepts, and what is answered where a message is refused by what was accepted before.
use Rattle.std.proofs.Common.{◌≡◌, ◌∙◌, ℕ, ◌+◌, ◌≤◌, List, [], ◌∷◌, ◌++◌, Bool, true, Result, Ok, Err, ap, sym, subst, arith}
use Rattle.std.specs.Prelude.{IfErr, IsErr, IsErrAnd, if◌then◌else◌}
use Rattle.std.specs.List.{filter}
use Rattle.std.proofs.lemmas.Bool.Decides.{nat_tests}
use Rattle.std.proofs.lemmas.List.Elements.{filter-append}
use Rattle.kdc_prelude.specs.Results.{◌>>=◌}
use Rattle.service_end.specs.declared.refusal.AcceptRule.{AcceptRule}
use Rattle.service_end.specs.declared.service.ServiceKeys.{ServiceKeys}
use Rattle.service_end.specs.declared.shown.Judged.{Judged}
use Rattle.service_end.specs.Accepting.{Acceptance, accept_outcome, acceptance_of, accepted_at, entry_of, is_new, is_recent, judged, left_of, outcome_at, with_entry}
use Rattle.service_end.specs.Memory.{Entry, Memory}
use Rattle.service_end.specs.Times.{moment_used}

-- ---- what is remembered

recent : (moment : ℕ) (entry : Entry) → moment ≤ entry.at + 300000000 → is_recent moment entry ≡ true
recent moment entry h = grind (arith, nat_tests)

lone : {X : Type 0} (test : X → Bool) (x : X) → test x ≡ true → filter test (x ∷ []) ≡ x ∷ []
lone test x h = ap (λ (t : Bool). if t then x ∷ [] else []) h

pub remembered : (moment : ℕ) (memory : Memory) (entry : Entry) (pushed kept : List Entry) → moment ≤ entry.at + 300000000
    → pushed ≡ memory.entries ++ entry ∷ [] → kept ≡ filter (is_recent moment) pushed → record { entries = kept; latest = moment } ≡ with_entry moment memory entry
remembered moment memory entry pushed kept fresh push retain =
    let left =
    retain ∙ ap (filter (is_recent moment)) push ∙ filter-append (is_recent moment) memory.entries (entry ∷ [])
    ∙ ap (λ (last : List Entry). left_of moment memory ++ last) (lone (is_recent moment) entry (recent moment entry fresh)) in
    ap (λ (entries : List Entry). let made : Memory = record { entries = entries; latest = moment } in made) left

-- ---- a message that is refused

-- a fault of a step is the call's
pub carried : {X : Type 0} (result : Result X AcceptRule) (fault : AcceptRule) (P : AcceptRule → Type 0) → IsErr result × IsErrAnd result (λ told. told ≡ fault) → P fault → IfErr result P
carried (Ok x) fault P h p = tt
carried (Err told) fault P h p = subst P (sym h.1) p

pub refused : (keys : ServiceKeys) (now moment : ℕ) (conf : List ℕ) (memory : Memory) (bytes : List ℕ) (j : Judged) (entry : Entry) (fault : AcceptRule)
    → moment ≡ moment_used memory now → judged keys moment bytes ≡ Ok j → entry ≡ entry_of j.shown → is_new moment memory entry ≡ Err fault
    → accept_outcome keys now conf memory bytes ≡ Err fault
unfolding accept_outcome
refused keys now moment conf memory bytes j entry fault used shows kept old =
    let next = λ (done : Unit {0}). let told : Result Acceptance AcceptRule = Ok (acceptance_of conf moment memory j) in told in
    ap (λ (m : ℕ). outcome_at keys m conf memory bytes) (sym used)
    ∙ ap (λ (r : Result Judged AcceptRule). r >>= accepted_at conf moment memory) shows
    ∙ ap (λ (r : Result (Unit {0}) AcceptRule). r >>= next) (ap (is_new moment memory) (sym kept) ∙ old)
