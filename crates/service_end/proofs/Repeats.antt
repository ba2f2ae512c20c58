-- No two calls on one memory accept the same entry.
use Rattle.std.proofs.Common.{◌≡◌, ◌∙◌, ℕ, ◌+◌, ◌<◌, ◌||◌, ◌&&◌, not, Bool, true, false, List, [], ◌∷◌, ◌++◌, Result, Ok, Err, nat_le, refl, sym, ap, arith}
use Rattle.std.specs.List.{list_any}
use Rattle.std.proofs.lemmas.Bool.Decides.{nat_tests}
use Rattle.std.proofs.lemmas.List.Folds.{list_any-append}
use Rattle.std.proofs.lemmas.Map.Views.{any-filter_same}
use Rattle.kdc_prelude.specs.Distinct.{all_distinct}
use Rattle.service_end.specs.declared.refusal.AcceptRule.{AcceptRule}
use Rattle.service_end.specs.Accepting.{Acceptance, is_recent, left_of, same_entry}
use Rattle.service_end.specs.Memory.{Entry, Memory, nothing_seen}
use Rattle.service_end.specs.Runs.{Call, entries_by, entries_from, NothingRepeats, outcome_of}
use Rattle.service_end.specs.Times.{moment_used}
use Rattle.service_end.proofs.Chains.{any_more, neither, none_found}
use Rattle.service_end.proofs.SameEntries.{same_moment, same_self, turned}
use Rattle.service_end.proofs.Steps.{accepts, IsStep}

-- an entry that is not accepted again: it is kept, or older than 300 seconds before the latest moment
data IsGone (memory : Memory) (e : Entry) : Type 0 where
  Old : e.at + 300000000 < memory.latest → IsGone memory e
  Kept : list_any (same_entry e) memory.entries ≡ true → IsGone memory e

-- ---- what is accepted differs from it

not_true : (t : Bool) → (t ≡ true → ⊥) → t ≡ false
not_true true h = absurd (h refl)
not_true false h = refl

differs : (moment : ℕ) (memory : Memory) (a : Acceptance) (e : Entry) → IsStep moment memory a → IsGone memory e → same_entry e a.entry ≡ false
differs moment memory a e step (Old older) =
    not_true (same_entry e a.entry) (λ same. let at = same_moment e a.entry same in let later = step.later in let fresh = step.fresh in omega (arith, at, later, fresh, older))
differs moment memory a e step (Kept kept) =
    not_true (same_entry e a.entry)
    (λ same.
    let there = any_more (same_entry e) (same_entry a.entry) (λ x h. turned e a.entry x same h) memory.entries kept in
    let none = none_found (same_entry a.entry) memory.entries step.new in
    absurd (cc))

-- ---- and it is not accepted later either

any_of : (entries left : List Entry) (last e : Entry) → entries ≡ left ++ last ∷ [] → list_any (same_entry e) left ≡ true → list_any (same_entry e) entries ≡ true
any_of entries left last e h k =
    ap (list_any (same_entry e)) h ∙ list_any-append (same_entry e) left (last ∷ []) ∙ ap (λ (t : Bool). t || list_any (same_entry e) (last ∷ [])) k

recent_alike : (moment : ℕ) (e x : Entry) → same_entry e x ≡ true → is_recent moment x ≡ is_recent moment e
recent_alike moment e x h = ap (λ (at : ℕ). nat_le moment (at + 300000000)) (sym (same_moment e x h))

gone_after : (moment : ℕ) (memory : Memory) (a : Acceptance) (e : Entry) → IsStep moment memory a → IsGone memory e → IsGone a.memory e
gone_after moment memory a e step (Old older) = Old (let later = step.later in let latest = step.latest in omega (arith, later, latest, older))
gone_after moment memory a e step (Kept kept) = by_test (is_recent moment e) refl
  where
    by_test : (t : Bool) → is_recent moment e ≡ t → IsGone a.memory e
    by_test true recent =
        let stays : list_any (same_entry e) (left_of moment memory) ≡ true =
        any-filter_same (same_entry e) (is_recent moment) (is_recent moment e) (recent_alike moment e) memory.entries ∙ ap (λ (t : Bool). t && list_any (same_entry e) memory.entries) recent ∙ kept in
        Kept (any_of a.memory.entries (left_of moment memory) a.entry e step.entries stays)
    by_test false old = Old (let latest = step.latest in grind (arith, nat_tests))

-- what is accepted is kept
gone_then : (moment : ℕ) (memory : Memory) (a : Acceptance) → IsStep moment memory a → IsGone a.memory a.entry
gone_then moment memory a step =
    Kept (
    ap (list_any (same_entry a.entry)) step.entries ∙ list_any-append (same_entry a.entry) (left_of moment memory) (a.entry ∷ [])
    ∙ last (list_any (same_entry a.entry) (left_of moment memory)) (same_entry a.entry a.entry) (same_self a.entry))
  where
    last : (t s : Bool) → s ≡ true → (t || (s || false)) ≡ true
    last true s h = refl
    last false true h = refl
    last false false h = absurd (cc)

none_by : (rest : Memory → List Entry) (memory : Memory) (call : Call) (e : Entry)
    → ((m : Memory) → IsGone m e → list_any (same_entry e) (rest m) ≡ false)
    → IsGone memory e → (r : Result Acceptance AcceptRule) → outcome_of memory call ≡ r → list_any (same_entry e) (entries_by rest memory r) ≡ false
none_by rest memory call e later gone (Ok a) h =
    let moment = moment_used memory call.now in
    let step = accepts memory call a h in
    neither (same_entry e a.entry) (list_any (same_entry e) (rest a.memory)) (differs moment memory a e step gone) (later a.memory (gone_after moment memory a e step gone))
none_by rest memory call e later gone (Err rule) h = later memory gone

none_again : (calls : List Call) (memory : Memory) (e : Entry) → IsGone memory e → list_any (same_entry e) (entries_from calls memory) ≡ false
none_again [] memory e gone = refl
none_again (call ∷ calls) memory e gone = none_by (entries_from calls) memory call e (λ m g. none_again calls m e g) gone (outcome_of memory call) refl

both_hold : (t s : Bool) → t ≡ false → s ≡ true → (not t && s) ≡ true
both_hold true s h k = absurd (cc)
both_hold false s h k = k

distinct_by : (calls : List Call) (memory : Memory) (call : Call)
    → ((m : Memory) → all_distinct same_entry (entries_from calls m) ≡ true)
    → (r : Result Acceptance AcceptRule) → outcome_of memory call ≡ r → all_distinct same_entry (entries_by (entries_from calls) memory r) ≡ true
distinct_by calls memory call later (Ok a) h =
    let step = accepts memory call a h in
    both_hold (list_any (same_entry a.entry) (entries_from calls a.memory)) (all_distinct same_entry (entries_from calls a.memory))
    (none_again calls a.memory a.entry (gone_then (moment_used memory call.now) memory a step)) (later a.memory)
distinct_by calls memory call later (Err rule) h = later memory

distinct : (calls : List Call) (memory : Memory) → all_distinct same_entry (entries_from calls memory) ≡ true
distinct [] memory = refl
distinct (call ∷ calls) memory = distinct_by calls memory call (distinct calls) (outcome_of memory call) refl

pub nothing_repeats : NothingRepeats
nothing_repeats calls = distinct calls nothing_seen
