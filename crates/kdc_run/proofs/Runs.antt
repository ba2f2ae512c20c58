-- One caller after the other.
use Rattle.std.proofs.Common.{◌≡◌, ◌∙◌, ℕ, ◌+◌, ◌*◌, ◌<◌, ◌≤◌, Bool, true, false, List, [], ◌∷◌, ◌++◌, length, map, refl, sym, ap, subst, append_assoc, append-nil, length-append, arith, inl, inr}
use Rattle.std.specs.Prelude.{Option, None, Some, Ok, is_some, Err}
use Rattle.std.specs.Io.KnownBytes.{Appends}
use Rattle.std.proofs.KnownBytes.{Appends-nil, Appends-trans}
use Rattle.dir_records.specs.DirectoryValue.{DirectoryValue}
use Rattle.kb_base.specs.Blocks.{BlocksValue}
use Rattle.kb_base.specs.Callers.{CallerValue, CallersValue, TakesCaller, arrived, new_caller, with_next}
use Rattle.krb_names.specs.declared.moment.Moment.{Moment}
use Rattle.kdc_frames.specs.Exchanges.{Inputs, all_requests, inputs_after}
use Rattle.kdc_frames.specs.Notes.{leave_note, notes, run_notes}
use Rattle.kdc_frames.specs.Requests.{leave_of, requests_of}
use Rattle.kdc_frames.specs.declared.leave.Leave.{Leave}
use Rattle.kdc_frames.proofs.Histories.{inputs_none, inputs_on, requests_none, requests_on, run_notes_none, run_notes_on}
use Rattle.kdc_run.specs.Runs.{AreServed, AreVisited, CallerBreaks, Comes, IsRun, RunsOver, Visit, taken, taken_of}
use Rattle.kdc_run.specs.Talks.{EndsTalk, IsServed}
use Rattle.kdc_run.specs.Worlds.{Known, Talks, World, world}
use Rattle.kdc_run.specs.declared.served.RunFault.{RunFault}
use Rattle.kdc_run.specs.declared.served.RunFault.TheVariants.{Door}
use Rattle.kdc_run.specs.declared.served.Served.{Served}
use Rattle.kdc_run.proofs.Known.{known_as, known_callers, known_none, known_on, talks_at}

-- so many callers were served, and so many of their requests answered
pub record IsVisited (callers requests : ℕ) (old new : World) : Type 0 where
  pub so_far : AreVisited requests old new
  pub number : length so_far.visits ≡ callers

pub visited_none : (w : World) → IsVisited 0 0 w w
visited_none w = record {
  so_far = record {
    visits = [];
    came = sym (append-nil (arrived w.callers));
    split = refl;
    served = tt;
    count = sym (ap length requests_none);
    inputs = sym (inputs_none w.inputs);
    notes = rw (run_notes_none w.inputs) (Appends-nil w.held);
  };
  number = refl;
}

map_on : {X Y : Type 0} (f : X → Y) (xs : List X) (x : X) → map f (xs ++ x ∷ []) ≡ map f xs ++ f x ∷ []
map_on f [] x = refl
map_on f (y ∷ xs) x = ap (λ l. f y ∷ l) (map_on f xs x)

served_on : (inputs : Inputs) (visits : List Visit) (visit : Visit) → AreServed inputs visits → IsServed (inputs_after (length (all_requests (taken visits))) inputs) visit.bytes [] visit.caller → AreServed inputs (visits ++ visit ∷ [])
unfolding all_requests
served_on inputs [] visit h one = (rw (inputs_none inputs) at one, tt)
served_on inputs (first ∷ visits) visit h one =
    let n = length (requests_of (taken_of first)) in (
      h.0,
      served_on (inputs_after n inputs) visits visit h.1
          (rw (length-append (requests_of (taken_of first)) (all_requests (taken visits)), inputs_on n (length (all_requests (taken visits))) inputs) at one),
    )

-- the next caller, where there is one
came_next : (gone : List CallerValue) (waiting : List (List ℕ)) (callers : CallersValue) → callers ≡ with_next gone waiting → true ≡ is_some callers.current
    → (bytes : List ℕ) × (later : List (List ℕ)) × (waiting ≡ bytes ∷ later) × (callers ≡ record { gone = gone; current = Some (new_caller bytes); waiting = later })
came_next gone [] callers e some = let none : is_some callers.current ≡ false = ap (λ (c : CallersValue). is_some c.current) e in absurd (cc)
came_next gone (bytes ∷ later) callers e some = (bytes, later, refl, e)

came_none : (gone : List CallerValue) (waiting : List (List ℕ)) (callers : CallersValue) → callers ≡ with_next gone waiting → false ≡ is_some callers.current
    → (waiting ≡ []) × (callers ≡ record { gone = gone; current = None; waiting = [] })
came_none gone [] callers e none = (refl, e)
came_none gone (bytes ∷ later) callers e none = let some : is_some callers.current ≡ true = ap (λ (c : CallersValue). is_some c.current) e in absurd (cc)

-- one caller more was served
pub visited_more : (n requests more : ℕ) (old before mid new : World) → IsVisited n requests old before
    → TakesCaller {E = RunFault} (Some before.callers) (Some mid.callers) (Ok true) → mid.inputs ≡ before.inputs → mid.held ≡ before.held
    → Talks (EndsTalk (Ok more)) mid new → IsVisited (n + 1) (requests + more) old new
visited_more n requests more old before mid new far takes same_inputs same_held talk =
    let came = came_next (arrived before.callers) before.callers.waiting mid.callers takes.0 takes.1 in
    let at = talks_at (EndsTalk (Ok more)) mid new (new_caller came.0) (ap (λ (c : CallersValue). c.current) came.3) talk in
    let said = at.2 refl in
    let visits = far.so_far.visits in
    let visit : Visit = record { bytes = said.1.bytes; caller = at.0 } in
    let inputs_are : mid.inputs ≡ inputs_after (length (all_requests (taken visits))) old.inputs =
    same_inputs ∙ far.so_far.inputs ∙ ap (λ k. inputs_after k old.inputs) far.so_far.count in
    let callers_are : new.callers ≡ record { gone = arrived before.callers; current = Some at.0; waiting = came.1 } =
    at.1 ∙ ap (λ (c : CallersValue). record c { current = Some at.0 }) came.3 in
    let taken_are : taken (visits ++ visit ∷ []) ≡ taken visits ++ taken_of visit ∷ [] = map_on taken_of visits visit in
    record {
      so_far = record {
        visits = visits ++ visit ∷ [];
        came = ap arrived callers_are ∙ ap (λ l. l ++ at.0 ∷ []) far.so_far.came
            ∙ append_assoc (arrived old.callers) (map (λ v. v.caller) visits) (at.0 ∷ []) ∙ ap (λ l. arrived old.callers ++ l) (sym (map_on (λ v. v.caller) visits visit));
        split = far.so_far.split ∙ ap (λ l. map (λ v. v.bytes ++ v.caller.left) visits ++ l) (came.2 ∙ ap (λ b. b ∷ came.1) said.1.split)
            ∙ sym (append_assoc (map (λ v. v.bytes ++ v.caller.left) visits) ((said.1.bytes ++ at.0.left) ∷ []) came.1)
            ∙ ap (λ l. l ++ came.1) (sym (map_on (λ v. v.bytes ++ v.caller.left) visits visit))
            ∙ ap (λ l. map (λ v. v.bytes ++ v.caller.left) (visits ++ visit ∷ []) ++ l) (sym (ap (λ (c : CallersValue). c.waiting) callers_are));
        served = served_on old.inputs visits visit far.so_far.served (subst (λ (i : Inputs). IsServed i visit.bytes [] visit.caller) inputs_are said.1.served);
        count = ap (λ k. k + more) far.so_far.count ∙ ap (λ k. length (all_requests (taken visits)) + k) said.1.count
            ∙ sym (length-append (all_requests (taken visits)) (requests_of (taken_of visit))) ∙ ap length (sym (requests_on (taken visits) (taken_of visit))) ∙ ap (λ t. length (all_requests t)) (sym taken_are);
        inputs = said.1.inputs ∙ ap (inputs_after more) (same_inputs ∙ far.so_far.inputs) ∙ sym (inputs_on requests more old.inputs);
        notes = noted requests more old before mid new far visit said.0 said.1.reason inputs_are same_held taken_are said.1.held;
      };
      number = length-append visits (visit ∷ []) ∙ ap (λ k. k + 1) far.number;
    }
  where
    noted : (requests more : ℕ) (old before mid new : World) (far : IsVisited n requests old before) (visit : Visit) (leave : Option Leave) → leave ≡ leave_of (taken_of visit)
        → mid.inputs ≡ inputs_after (length (all_requests (taken far.so_far.visits))) old.inputs → mid.held ≡ before.held → taken (far.so_far.visits ++ visit ∷ []) ≡ taken far.so_far.visits ++ taken_of visit ∷ []
        → Appends mid.held new.held (notes mid.inputs (requests_of (taken_of visit)) ++ leave_note leave) → Appends old.held new.held (run_notes old.inputs (taken (far.so_far.visits ++ visit ∷ [])))
    noted requests more old before mid new far visit leave reason inputs_are same_held taken_are held =
        let one = rw (same_held, inputs_are, reason) at held in
        rw (taken_are, run_notes_on old.inputs (taken far.so_far.visits) (taken_of visit)) (Appends-trans old.held before.held new.held _ _ far.so_far.notes one)

pub run_of_all : (callers : ℕ) (served : Served) (old new : World) → served.callers ≡ callers → IsVisited served.callers served.requests old new → IsRun callers served old new
run_of_all callers served old new e far = record { visited = far.so_far; number = far.number; within = omega (arith, e); all = inl e }

-- none is left
pub run_of_few : (callers n requests : ℕ) → n ≤ callers → (old before : World) (new : World) → IsVisited n requests old before → TakesCaller {E = RunFault} (Some before.callers) (Some new.callers) (Ok false)
    → new.inputs ≡ before.inputs → new.held ≡ before.held → IsRun callers (record { callers = n; requests = requests }) old new
run_of_few callers n requests few old before new far takes same_inputs same_held =
    let none = came_none (arrived before.callers) before.callers.waiting new.callers takes.0 takes.1 in
    let so_far = far.so_far in
    record {
      visited = record {
        visits = so_far.visits;
        came = ap arrived none.1 ∙ append-nil (arrived before.callers) ∙ so_far.came;
        split = so_far.split ∙ ap (λ l. map (λ v. v.bytes ++ v.caller.left) so_far.visits ++ l) (none.0 ∙ sym (ap (λ (c : CallersValue). c.waiting) none.1));
        served = so_far.served;
        count = so_far.count;
        inputs = same_inputs ∙ so_far.inputs;
        notes = rw same_held so_far.notes;
      };
      number = far.number;
      within = few;
      all = inr (ap (λ (c : CallersValue). c.current) none.1, ap (λ (c : CallersValue). c.waiting) none.1);
    }

comes : (more : Bool) (callers next : Option CallersValue) (batches : Option (List (List ℕ))) (moments : Option (List Moment)) (blocks : Option BlocksValue) (directory : DirectoryValue) (held : Option (List ℕ))
    → TakesCaller {E = RunFault} callers next (Ok more) → Known (Comes more) (world callers batches moments blocks directory held) (world next batches moments blocks directory held)
comes more callers next batches moments blocks directory held p =
    known_callers (Comes more) (λ a b. TakesCaller {E = RunFault} (Some a) (Some b) (Ok more)) (λ w c q. (q, refl, refl)) callers next batches moments blocks directory held (as_known callers next p)
  where
    as_known : (a b : Option CallersValue) → TakesCaller {E = RunFault} a b (Ok more) → Known (λ x y. TakesCaller {E = RunFault} (Some x) (Some y) (Ok more)) a b
    as_known None b q = tt
    as_known (Some a) None q = absurd q
    as_known (Some a) (Some b) q = q

abbrev Visited : ℕ → World → World → Type 0
Visited more old new = (mid : World) × Comes true old mid × Talks (EndsTalk (Ok more)) mid new

pub run_goes_on : (n requests more : ℕ) (old new : Option World) (callers next : Option CallersValue) (batches : Option (List (List ℕ))) (moments : Option (List Moment)) (blocks : Option BlocksValue) (directory : DirectoryValue) (held : Option (List ℕ))
    → Known (IsVisited n requests) old (world callers batches moments blocks directory held) → TakesCaller {E = RunFault} callers next (Ok true)
    → Known (Talks (EndsTalk (Ok more))) (world next batches moments blocks directory held) new → Known (IsVisited (n + 1) (requests + more)) old new
run_goes_on n requests more old new callers next batches moments blocks directory held p q r =
    let before = world callers batches moments blocks directory held in
    let mid = world next batches moments blocks directory held in
    let visited = known_on (Comes true) (Talks (EndsTalk (Ok more))) (Visited more) (λ a b c x y. (b, x, y)) before mid new (comes true callers next batches moments blocks directory held q) r in
    known_on (IsVisited n requests) (Visited more) (IsVisited (n + 1) (requests + more)) (λ a b c x y. visited_more n requests more a b y.0 c x y.1.0 y.1.1 y.1.2 y.2) old before new p visited

pub run_stops : (limit n requests : ℕ) → n ≤ limit → (old : Option World) (callers next : Option CallersValue) (batches : Option (List (List ℕ))) (moments : Option (List Moment)) (blocks : Option BlocksValue) (directory : DirectoryValue) (held : Option (List ℕ))
    → Known (IsVisited n requests) old (world callers batches moments blocks directory held) → TakesCaller {E = RunFault} callers next (Ok false)
    → Known (RunsOver limit (Ok (record { callers = n; requests = requests }))) old (world next batches moments blocks directory held)
run_stops limit n requests few old callers next batches moments blocks directory held p q =
    known_on (IsVisited n requests) (Comes false) (RunsOver limit (Ok (record { callers = n; requests = requests }))) (λ a b c x y. run_of_few limit n requests few a b c x y.0 y.1 y.2)
    old (world callers batches moments blocks directory held) (world next batches moments blocks directory held) p (comes false callers next batches moments blocks directory held q)

-- so many callers were served
pub run_ends : (limit n requests : ℕ) → n ≤ limit → limit ≤ n → (old new : Option World) → Known (IsVisited n requests) old new → Known (RunsOver limit (Ok (record { callers = limit; requests = requests }))) old new
run_ends limit n requests few many old new p =
    known_as (IsVisited limit requests) (RunsOver limit (Ok (record { callers = limit; requests = requests }))) (λ a b x. run_of_all limit (record { callers = limit; requests = requests }) a b refl x) old new
    (subst (λ (k : ℕ). Known (IsVisited k requests) old new) (all n limit few many) p)
  where
    all : (n limit : ℕ) → n ≤ limit → limit ≤ n → n ≡ limit
    all n limit few many = omega arith

pub run_begins : (told : Option World) → Known (IsVisited 0 0) told told
run_begins told = known_none (IsVisited 0 0) visited_none told

pub few_more : (requests more n : ℕ) → requests ≤ 10000 * n → more ≤ 10000 → requests + more ≤ 10000 * (n + 1)
few_more requests more n few fewer = omega arith

-- no caller could be taken in
same_callers : (fault : RunFault) (callers next : Option CallersValue) → TakesCaller callers next (Err fault) → Known (λ (a b : CallersValue). b ≡ a) callers next
same_callers fault None next q = tt
same_callers fault (Some a) None q = absurd q
same_callers fault (Some a) (Some b) q = q

-- so many callers, fewer than the limit
fewer : (n limit : ℕ) {visits : ℕ} → n < limit → visits ≡ n → visits < limit
fewer n limit few number = omega (arith, few, number)

pub run_without : (limit n requests : ℕ) → n < limit → (fault : RunFault) → fault ≡ Door → (old : Option World) (callers next : Option CallersValue) (batches : Option (List (List ℕ))) (moments : Option (List Moment)) (blocks : Option BlocksValue) (directory : DirectoryValue) (held : Option (List ℕ))
    → Known (IsVisited n requests) old (world callers batches moments blocks directory held) → TakesCaller callers next (Err fault)
    → Known (RunsOver limit (Err fault)) old (world next batches moments blocks directory held)
run_without limit n requests few fault door old callers next batches moments blocks directory held p q =
    known_on (IsVisited n requests) (λ a b. b ≡ a) (RunsOver limit (Err fault)) (λ a b c x y. record { requests = requests; before = b; visited = x.so_far; few = fewer n limit few x.number; breaks = inl (door, y) })
    old (world callers batches moments blocks directory held) (world next batches moments blocks directory held) p
    (known_callers (λ a b. b ≡ a) (λ a b. b ≡ a) (λ w c e. ap (λ (x : CallersValue). record w { callers = x }) e) callers next batches moments blocks directory held (same_callers fault callers next q))

-- the run ended with a caller
pub run_breaks : (limit n requests : ℕ) → n < limit → (fault : RunFault) (old new : Option World) (callers next : Option CallersValue) (batches : Option (List (List ℕ))) (moments : Option (List Moment)) (blocks : Option BlocksValue) (directory : DirectoryValue) (held : Option (List ℕ))
    → Known (IsVisited n requests) old (world callers batches moments blocks directory held) → TakesCaller {E = RunFault} callers next (Ok true)
    → Known (Talks (EndsTalk (Err fault))) (world next batches moments blocks directory held) new → Known (RunsOver limit (Err fault)) old new
run_breaks limit n requests few fault old new callers next batches moments blocks directory held p q r =
    let before = world callers batches moments blocks directory held in
    let mid = world next batches moments blocks directory held in
    let breaks = known_on (Comes true) (Talks (EndsTalk (Err fault))) (CallerBreaks fault) (λ a b c x y. record { next = b; comes = x; breaks = y }) before mid new (comes true callers next batches moments blocks directory held q) r in
    known_on (IsVisited n requests) (CallerBreaks fault) (RunsOver limit (Err fault)) (λ a b c x y. record { requests = requests; before = b; visited = x.so_far; few = fewer n limit few x.number; breaks = inr y }) old before new p breaks
