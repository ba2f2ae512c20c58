-- Lemmas on what is told, and on steps with the current caller.
use Rattle.std.proofs.Common.{◌≡◌, ◌∙◌, ℕ, List, refl, ap}
use Rattle.std.specs.Prelude.{Option, None, Some}
use Rattle.dir_records.specs.DirectoryValue.{DirectoryValue}
use Rattle.kb_base.specs.Blocks.{BlocksValue}
use Rattle.kb_base.specs.Callers.{CallerValue, CallersValue}
use Rattle.krb_names.specs.declared.moment.Moment.{Moment}
use Rattle.kdc_frames.specs.Moves.{CurrentMoves, Moves}
use Rattle.kdc_run.specs.Worlds.{Known, Stage, Talks, WithCaller, World, stage_of, world}

pub known_on : {A : Type 0} (first second both : A → A → Type 0) → ((a b c : A) → first a b → second b c → both a c)
    → (old mid new : Option A) → Known first old mid → Known second mid new → Known both old new
known_on first second both join None mid new p q = tt
known_on first second both join (Some old) None new p q = absurd p
known_on first second both join (Some old) (Some mid) None p q = absurd q
known_on first second both join (Some old) (Some mid) (Some new) p q = join old mid new p q

pub known_as : {A : Type 0} (first second : A → A → Type 0) → ((a b : A) → first a b → second a b) → (old new : Option A) → Known first old new → Known second old new
known_as first second turn None new p = tt
known_as first second turn (Some old) None p = absurd p
known_as first second turn (Some old) (Some new) p = turn old new p

pub known_none : {A : Type 0} (step : A → A → Type 0) → ((a : A) → step a a) → (told : Option A) → Known step told told
known_none step same None = tt
known_none step same (Some told) = same told

abbrev Step : Type 1
Step = Stage → Stage → Type 0

-- a step with the current caller is what it does with each one
with_caller : (step : Step) (current : Option CallerValue) (old new : World) → old.callers.current ≡ current
    → ((caller : CallerValue) → old.callers.current ≡ Some caller → (next : CallerValue) × (new.callers ≡ record old.callers { current = Some next }) × step (stage_of old caller) (stage_of new next))
    → WithCaller step current old new
with_caller step None old new e does = tt
with_caller step (Some caller) old new e does = does caller e

pub talks : (step : Step) (old new : World)
    → ((caller : CallerValue) → old.callers.current ≡ Some caller → (next : CallerValue) × (new.callers ≡ record old.callers { current = Some next }) × step (stage_of old caller) (stage_of new next))
    → Talks step old new
talks step old new does = with_caller step old.callers.current old new refl does

-- no step
pub talks_none : (step : Step) → ((stage : Stage) → step stage stage) → (w : World) → Talks step w w
talks_none step same w = talks step w w (λ caller e. (caller, ap (λ current. record w.callers { current = current }) e, same (stage_of w caller)))

-- what a step does with the current caller
pub talks_at : (step : Step) (old new : World) (caller : CallerValue) → old.callers.current ≡ Some caller → Talks step old new
    → (next : CallerValue) × (new.callers ≡ record old.callers { current = Some next }) × step (stage_of old caller) (stage_of new next)
talks_at step old new caller e p = let at : WithCaller step (Some caller) old new = rw e at p in at

pub moves_at : (step : CallerValue → CallerValue → Type 0) (old new : CallersValue) (caller : CallerValue) → old.current ≡ Some caller → Moves step (Some old) (Some new)
    → (next : CallerValue) × (new ≡ record old { current = Some next }) × step caller next
moves_at step old new caller e p = let at : CurrentMoves step (Some caller) old new = rw e at p in at

pub talks_on : (first second both : Step) → ((a b c : Stage) → first a b → second b c → both a c) → (old mid new : World) → Talks first old mid → Talks second mid new → Talks both old new
talks_on first second both join old mid new p q =
    talks both old new (λ caller e.
    let one = talks_at first old mid caller e p in
    let two = talks_at second mid new one.0 (ap (λ (callers : CallersValue). callers.current) one.1) q in
    (two.0, two.1 ∙ ap (λ (callers : CallersValue). record callers { current = Some two.0 }) one.1, join (stage_of old caller) (stage_of mid one.0) (stage_of new two.0) one.2 two.2))

pub talks_as : (first second : Step) → ((a b : Stage) → first a b → second a b) → (old new : World) → Talks first old new → Talks second old new
talks_as first second turn old new p =
    talks second old new (λ caller e. let one = talks_at first old new caller e p in (one.0, one.1, turn (stage_of old caller) (stage_of new one.0) one.2))

-- only the callers changed
pub known_callers : (step : World → World → Type 0) (move : CallersValue → CallersValue → Type 0)
    → ((old : World) (callers : CallersValue) → move old.callers callers → step old (record old { callers = callers }))
    → (old new : Option CallersValue) (batches : Option (List (List ℕ))) (moments : Option (List Moment)) (blocks : Option BlocksValue) (directory : DirectoryValue) (held : Option (List ℕ))
    → Known move old new → Known step (world old batches moments blocks directory held) (world new batches moments blocks directory held)
known_callers step move turn None new batches moments blocks directory held p = tt
known_callers step move turn (Some old) new None moments blocks directory held p = tt
known_callers step move turn (Some old) new (Some batches) None blocks directory held p = tt
known_callers step move turn (Some old) new (Some batches) (Some moments) None directory held p = tt
known_callers step move turn (Some old) None (Some batches) (Some moments) (Some blocks) directory held p = absurd p
known_callers step move turn (Some old) (Some new) (Some batches) (Some moments) (Some blocks) directory held p =
    turn (record { inputs = record { directory = directory; batches = batches; moments = moments; blocks = blocks }; callers = old; held = held }) new p

-- what follows a step of the current caller alone
pub talks_after : (move : CallerValue → CallerValue → Type 0) (second both : Step)
    → ((old : Stage) (next : CallerValue) (new : Stage) → move old.caller next → second (record old { caller = next }) new → both old new)
    → (old mid : Option CallersValue) (batches : Option (List (List ℕ))) (moments : Option (List Moment)) (blocks : Option BlocksValue) (directory : DirectoryValue) (held : Option (List ℕ)) (end : Option World)
    → Moves move old mid → Known (Talks second) (world mid batches moments blocks directory held) end → Known (Talks both) (world old batches moments blocks directory held) end
talks_after move second both join None mid batches moments blocks directory held end p q = tt
talks_after move second both join (Some old) mid None moments blocks directory held end p q = tt
talks_after move second both join (Some old) mid (Some batches) None blocks directory held end p q = tt
talks_after move second both join (Some old) mid (Some batches) (Some moments) None directory held end p q = tt
talks_after move second both join (Some old) None (Some batches) (Some moments) (Some blocks) directory held end p q = absurd p
talks_after move second both join (Some old) (Some mid) (Some batches) (Some moments) (Some blocks) directory held None p q = absurd q
talks_after move second both join (Some old) (Some mid) (Some batches) (Some moments) (Some blocks) directory held (Some end) p q =
    let first : World = record { inputs = record { directory = directory; batches = batches; moments = moments; blocks = blocks }; callers = old; held = held } in
    let then : World = record { inputs = record { directory = directory; batches = batches; moments = moments; blocks = blocks }; callers = mid; held = held } in
    talks both first end (λ caller e.
    let one = moves_at move old mid caller e p in
    let two = talks_at second then end one.0 (ap (λ (callers : CallersValue). callers.current) one.1) q in
    (two.0, two.1 ∙ ap (λ (callers : CallersValue). record callers { current = Some two.0 }) one.1, join (stage_of first caller) one.0 (stage_of end two.0) one.2 two.2))

-- only the notes changed
pub known_held : (step : World → World → Type 0) (before after : Option (List ℕ)) → ((old : World) → old.held ≡ before → step old (record old { held = after }))
    → (callers : Option CallersValue) (batches : Option (List (List ℕ))) (moments : Option (List Moment)) (blocks : Option BlocksValue) (directory : DirectoryValue)
    → Known step (world callers batches moments blocks directory before) (world callers batches moments blocks directory after)
known_held step before after turn None batches moments blocks directory = tt
known_held step before after turn (Some callers) None moments blocks directory = tt
known_held step before after turn (Some callers) (Some batches) None blocks directory = tt
known_held step before after turn (Some callers) (Some batches) (Some moments) None directory = tt
known_held step before after turn (Some callers) (Some batches) (Some moments) (Some blocks) directory =
    turn (record { inputs = record { directory = directory; batches = batches; moments = moments; blocks = blocks }; callers = callers; held = before }) refl

-- a step of the current caller alone
pub talks_moves : (step : Step) (move : CallerValue → CallerValue → Type 0)
    → ((old : Stage) (next : CallerValue) → move old.caller next → step old (record old { caller = next }))
    → (old new : Option CallersValue) (batches : Option (List (List ℕ))) (moments : Option (List Moment)) (blocks : Option BlocksValue) (directory : DirectoryValue) (held : Option (List ℕ))
    → Moves move old new → Known (Talks step) (world old batches moments blocks directory held) (world new batches moments blocks directory held)
talks_moves step move turn old new batches moments blocks directory held p =
    known_callers (Talks step) (λ a b. Moves move (Some a) (Some b))
    (λ w callers q. talks step w (record w { callers = callers }) (λ caller e. let at = moves_at move w.callers callers caller e q in (at.0, at.1, turn (stage_of w caller) at.0 at.2)))
    old new batches moments blocks directory held (as_known old new p)
  where
    as_known : (a b : Option CallersValue) → Moves move a b → Known (λ x y. Moves move (Some x) (Some y)) a b
    as_known None b q = tt
    as_known (Some a) None q = absurd q
    as_known (Some a) (Some b) q = q
