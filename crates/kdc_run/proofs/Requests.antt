-- What serving a request does, of what its parts do.
use Rattle.std.proofs.Common.{◌≡◌, ◌∙◌, ◌≤◌, ◌+◌, ℕ, Bool, true, false, List, ◌++◌, length, take, append-nil, arith, refl, sym, ap, subst}
use Rattle.std.specs.Prelude.{Option, None, Some, Result, Ok, Err}
use Rattle.std.specs.Io.KnownBytes.{Appends}
use Rattle.std.proofs.KnownBytes.{Appends-nil, Appends-trans}
use Rattle.std.proofs.Math.Seq.{take-append-add, take-length}
use lib.Seq.{take-append_seam}
use Rattle.kdc_prelude.specs.Printed.{AppendsFront}
use Rattle.change_lines.specs.Batches.{batch_outcome}
use Rattle.dir_records.specs.DirectoryValue.{DirectoryValue}
use Rattle.kb_base.specs.Batches.{first_batch}
use Rattle.kb_base.specs.Blocks.{BlocksValue}
use Rattle.kb_base.specs.Callers.{CallerValue, CallersValue}
use Rattle.krb_names.specs.declared.moment.Moment.{Moment}
use Rattle.tgs_core.specs.declared.answered.Answered.{Answered}
use Rattle.kdc_frames.specs.Exchanges.{Inputs, answered, inputs_after, later}
use Rattle.kdc_frames.specs.Frames.{frame}
use Rattle.kdc_frames.specs.Moves.{Moves}
use Rattle.kdc_frames.specs.Notes.{batch_line, batch_note, note_line}
use Rattle.kdc_frames.proofs.Doors.{moves_none}
use Rattle.kdc_frames.proofs.Histories.{inputs_none, inputs_one}
use Rattle.kdc_frames.proofs.Steps.{front_more}
use Rattle.kdc_run.proofs.Known.{moves_at, talks}
use Rattle.kdc_run.specs.Causes.{IsTaking, IsWriting, applied, most_drawn}
use Rattle.kdc_run.specs.Requests.{AnswersNext, AppliesNext, Breaks, SendsReply, SentSo, ServesRequest}
use Rattle.kdc_run.specs.Worlds.{Known, Talks, World, world}
use Rattle.kdc_run.specs.declared.served.RunFault.{RunFault}
use Rattle.kdc_run.specs.declared.served.RunFault.TheVariants.{Changes, Door, Entropy, NoMemory, Out}

abbrev inputs_of : DirectoryValue → List (List ℕ) → List Moment → BlocksValue → Inputs
inputs_of directory batches moments blocks = record { directory = directory; batches = batches; moments = moments; blocks = blocks }

abbrev world_of : Inputs → CallersValue → Option (List ℕ) → World
world_of inputs callers held = record { inputs = inputs; callers = callers; held = held }

made_is : (dir mid : DirectoryValue) (before held : Option (List ℕ)) (request : List ℕ) (made : Answered) (batches left : List (List ℕ)) (moments told : List Moment) (blocks drawn : BlocksValue)
    → AppliesNext dir mid before held (Ok tt) batches left → AnswersNext mid request (Ok made) moments told blocks drawn
    → made ≡ answered (inputs_of dir batches moments blocks) request
unfolding answered
made_is dir mid before held request made batches left moments told blocks drawn applied answer = rw applied.1.0 at answer.2

inputs_are : (dir mid : DirectoryValue) (before held : Option (List ℕ)) (request : List ℕ) (made : Answered) (batches left : List (List ℕ)) (moments told : List Moment) (blocks drawn : BlocksValue)
    → AppliesNext dir mid before held (Ok tt) batches left → AnswersNext mid request (Ok made) moments told blocks drawn
    → inputs_of mid left told drawn ≡ later (inputs_of dir batches moments blocks)
inputs_are dir mid before held request made batches left moments told blocks drawn applied answer =
    rw (applied.1.0, applied.0, answer.0, answer.1)

notes_are : (dir mid : DirectoryValue) (before held after : Option (List ℕ)) (request : List ℕ) (made : Answered) (batches left : List (List ℕ)) (moments : List Moment) (blocks : BlocksValue)
    → AppliesNext dir mid before held (Ok tt) batches left → made ≡ answered (inputs_of dir batches moments blocks) request → Appends held after (note_line made.note)
    → Appends before after (batch_note (inputs_of dir batches moments blocks) ++ note_line (answered (inputs_of dir batches moments blocks) request).note)
unfolding batch_note
notes_are dir mid before held after request made batches left moments blocks applied is noted =
    Appends-trans before held after _ _ applied.1.1 (rw is at noted)

served : (callers parted : CallersValue) (batches left : List (List ℕ)) (moments told : List Moment) (blocks drawn : BlocksValue) (dir mid : DirectoryValue) (before held after : Option (List ℕ)) (request : List ℕ) (made : Answered) (whole : Bool)
    → AppliesNext dir mid before held (Ok tt) batches left → AnswersNext mid request (Ok made) moments told blocks drawn → Moves (SendsReply (frame made.reply) (Ok whole)) (Some callers) (Some parted) → Appends held after (note_line made.note)
    → Talks (ServesRequest request (Ok whole)) (world_of (inputs_of dir batches moments blocks) callers before) (world_of (inputs_of mid left told drawn) parted after)
served callers parted batches left moments told blocks drawn dir mid before held after request made whole applied answer sent noted =
    let is = made_is dir mid before held request made batches left moments told blocks drawn applied answer in
    talks (ServesRequest request (Ok whole)) (world_of (inputs_of dir batches moments blocks) callers before) (world_of (inputs_of mid left told drawn) parted after)
    (λ caller e.
    let at = moves_at (SendsReply (frame made.reply) (Ok whole)) callers parted caller e sent in (
      at.0,
      at.1,
      (
        record {
          inputs = inputs_are dir mid before held request made batches left moments told blocks drawn applied answer;
          held = notes_are dir mid before held after request made batches left moments blocks applied is noted;
        },
        subst (λ (a : Answered). SendsReply (frame a.reply) (Ok whole) caller at.0) is at.2,
      ),
    ))

-- a front of the notes
more_front : (a b : Option (List ℕ)) (xs ys : List ℕ) → AppendsFront a b xs → AppendsFront a b (xs ++ ys)
more_front a b xs ys p = let m = front_more p.0 xs ys in (m.0, rw (← m.1) p.1)

whole_front : (a b : Option (List ℕ)) (xs ys : List ℕ) → Appends a b xs → AppendsFront a b (xs ++ ys)
whole_front a b xs ys p = (length xs, rw (take-append_seam xs ys) p)

after_front : (a b c : Option (List ℕ)) (xs ys : List ℕ) → Appends a b xs → AppendsFront b c ys → AppendsFront a c (xs ++ ys)
after_front a b c xs ys p q = (length xs + q.0, rw (take-append-add xs ys q.0) (Appends-trans a b c xs (take q.0 ys) p q.1))

pub no_note : (held : Option (List ℕ)) (note : List ℕ) → AppendsFront held held note
no_note held note = (0, Appends-nil held)

batch_front : (dir : DirectoryValue) (batches : List (List ℕ)) (moments : List Moment) (blocks : BlocksValue) (before held : Option (List ℕ)) (note : List ℕ)
    → AppendsFront before held (batch_line (batch_outcome dir (first_batch batches))) → AppendsFront before held (batch_note (inputs_of dir batches moments blocks) ++ note)
unfolding batch_note
batch_front dir batches moments blocks before held note p = more_front before held (batch_line (batch_outcome dir (first_batch batches))) note p

batch_whole : (dir : DirectoryValue) (batches : List (List ℕ)) (moments : List Moment) (blocks : BlocksValue) (before held : Option (List ℕ)) (note : List ℕ)
    → Appends before held (batch_line (batch_outcome dir (first_batch batches))) → AppendsFront before held (batch_note (inputs_of dir batches moments blocks) ++ note)
unfolding batch_note
batch_whole dir batches moments blocks before held note p = whole_front before held (batch_line (batch_outcome dir (first_batch batches))) note p

notes_front : (dir : DirectoryValue) (batches : List (List ℕ)) (moments : List Moment) (blocks : BlocksValue) (before held after : Option (List ℕ)) (request : List ℕ) (made : Answered)
    → Appends before held (batch_line (batch_outcome dir (first_batch batches))) → made ≡ answered (inputs_of dir batches moments blocks) request → AppendsFront held after (note_line made.note)
    → AppendsFront before after (batch_note (inputs_of dir batches moments blocks) ++ note_line (answered (inputs_of dir batches moments blocks) request).note)
unfolding batch_note
notes_front dir batches moments blocks before held after request made p is q =
    after_front before held after (batch_line (batch_outcome dir (first_batch batches))) (note_line (answered (inputs_of dir batches moments blocks) request).note) p (rw is at q)

-- a step with all that is told, of what each device tells
known_four : (step : World → World → Type 0) (of_callers : CallersValue → CallersValue → Type 0) (of_batches : List (List ℕ) → List (List ℕ) → Type 0) (of_others : List Moment → List Moment → BlocksValue → BlocksValue → Type 0) (dir mid : DirectoryValue) (before held : Option (List ℕ))
    → ((callers parted : CallersValue) (batches left : List (List ℕ)) (moments told : List Moment) (blocks drawn : BlocksValue) → of_callers callers parted → of_batches batches left → of_others moments told blocks drawn
    → step (world_of (inputs_of dir batches moments blocks) callers before) (world_of (inputs_of mid left told drawn) parted held))
    → (callers parted : Option CallersValue) (batches left : Option (List (List ℕ))) (moments told : Option (List Moment)) (blocks drawn : Option BlocksValue)
    → Known of_callers callers parted → Known of_batches batches left → Known (λ a b. Known (of_others a b) blocks drawn) moments told
    → Known step (world callers batches moments blocks dir before) (world parted left told drawn mid held)
known_four step of_callers of_batches of_others dir mid before held does None parted batches left moments told blocks drawn p q r = tt
known_four step of_callers of_batches of_others dir mid before held does (Some callers) parted None left moments told blocks drawn p q r = tt
known_four step of_callers of_batches of_others dir mid before held does (Some callers) parted (Some batches) left None told blocks drawn p q r = tt
known_four step of_callers of_batches of_others dir mid before held does (Some callers) parted (Some batches) left (Some moments) told None drawn p q r = tt
known_four step of_callers of_batches of_others dir mid before held does (Some callers) None (Some batches) left (Some moments) told (Some blocks) drawn p q r = absurd p
known_four step of_callers of_batches of_others dir mid before held does (Some callers) (Some parted) (Some batches) None (Some moments) told (Some blocks) drawn p q r = absurd q
known_four step of_callers of_batches of_others dir mid before held does (Some callers) (Some parted) (Some batches) (Some left) (Some moments) None (Some blocks) drawn p q r = absurd r
known_four step of_callers of_batches of_others dir mid before held does (Some callers) (Some parted) (Some batches) (Some left) (Some moments) (Some told) (Some blocks) None p q r = absurd r
known_four step of_callers of_batches of_others dir mid before held does (Some callers) (Some parted) (Some batches) (Some left) (Some moments) (Some told) (Some blocks) (Some drawn) p q r =
    does callers parted batches left moments told blocks drawn p q r

abbrev Moved : (CallerValue → CallerValue → Type 0) → CallersValue → CallersValue → Type 0
Moved move old new = Moves move (Some old) (Some new)

moved : (move : CallerValue → CallerValue → Type 0) (old new : Option CallersValue) → Moves move old new → Known (Moved move) old new
moved move None new p = tt
moved move (Some old) None p = absurd p
moved move (Some old) (Some new) p = p

unmoved : (callers : Option CallersValue) → Known (Moved (λ a b. b ≡ a)) callers callers
unmoved callers = moved (λ a b. b ≡ a) callers callers (moves_none (λ a b. b ≡ a) (λ a. refl) callers)

abbrev Same : List Moment → List Moment → BlocksValue → BlocksValue → Type 0
Same moments told blocks drawn = (told ≡ moments) × (drawn ≡ blocks)

same_others : (moments : Option (List Moment)) (blocks : Option BlocksValue) → Known (λ a b. Known (Same a b) blocks blocks) moments moments
same_others None blocks = tt
same_others (Some moments) None = tt
same_others (Some moments) (Some blocks) = (refl, refl)

pub request_served : (callers parted : Option CallersValue) (batches left : Option (List (List ℕ))) (moments told : Option (List Moment)) (blocks drawn : Option BlocksValue) (dir mid : DirectoryValue) (before held after : Option (List ℕ)) (request : List ℕ) (made : Answered) (whole : Bool)
    → Known (AppliesNext dir mid before held (Ok tt)) batches left → Known (λ a b. Known (AnswersNext mid request (Ok made) a b) blocks drawn) moments told
    → Moves (SendsReply (frame made.reply) (Ok whole)) callers parted → Appends held after (note_line made.note)
    → Known (Talks (ServesRequest request (Ok whole))) (world callers batches moments blocks dir before) (world parted left told drawn mid after)
request_served callers parted batches left moments told blocks drawn dir mid before held after request made whole p q r s =
    known_four (Talks (ServesRequest request (Ok whole))) (Moved (SendsReply (frame made.reply) (Ok whole))) (AppliesNext dir mid before held (Ok tt)) (AnswersNext mid request (Ok made)) dir mid before after
    (λ c g b l m t k d sent applied answer. served c g b l m t k d dir mid before held after request made whole applied answer sent s)
    callers parted batches left moments told blocks drawn (moved (SendsReply (frame made.reply) (Ok whole)) callers parted r) p q

-- ---- where the run ends at the request

-- taking the changes failed
pub changes_break : (callers : Option CallersValue) (batches left : Option (List (List ℕ))) (moments : Option (List Moment)) (blocks : Option BlocksValue) (dir mid : DirectoryValue) (before held : Option (List ℕ)) (request : List ℕ) (fault : RunFault)
    → IsTaking fault → mid ≡ dir → Known (AppliesNext dir mid before held (Err fault)) batches left
    → Known (Talks (ServesRequest request (Err fault))) (world callers batches moments blocks dir before) (world callers left moments blocks mid held)
changes_break callers batches left moments blocks dir mid before held request fault kind same p =
    known_four (Talks (ServesRequest request (Err fault))) (Moved (λ a b. b ≡ a)) (AppliesNext dir mid before held (Err fault)) Same dir mid before held
    (λ c g b l m t k d sent applied others.
    talks (ServesRequest request (Err fault)) (world_of (inputs_of dir b m k) c before) (world_of (inputs_of mid l t d) g held)
    (λ caller e.
    let at = moves_at (λ a b. b ≡ a) c g caller e sent in
    (at.0, at.1, changes_broke b m k l t d dir mid before held caller at.0 request fault kind same applied others at.2)))
    callers callers batches left moments moments blocks blocks (unmoved callers) p (same_others moments blocks)
  where
    nothing_drawn : (fault : RunFault) → IsTaking fault → (0 ≤ most_drawn fault) × (applied fault 0 ≡ 0)
    nothing_drawn NoMemory kind = (omega arith, refl)
    nothing_drawn Out kind = (omega arith, refl)
    nothing_drawn Changes kind = (omega arith, refl)
    nothing_drawn Entropy kind = absurd kind
    nothing_drawn Door kind = absurd kind

    changes_broke : (batches : List (List ℕ)) (moments : List Moment) (blocks : BlocksValue) (left : List (List ℕ)) (told : List Moment) (drawn : BlocksValue) (dir mid : DirectoryValue) (before held : Option (List ℕ)) (caller next : CallerValue) (request : List ℕ) (fault : RunFault)
        → IsTaking fault → mid ≡ dir → AppliesNext dir mid before held (Err fault) batches left → Same moments told blocks drawn → next ≡ caller
        → Breaks request fault (record { inputs = inputs_of dir batches moments blocks; caller = caller; held = before }) (record { inputs = inputs_of mid left told drawn; caller = next; held = held })
    changes_broke batches moments blocks left told drawn dir mid before held caller next request fault kind same applied others e =
        let none = nothing_drawn fault kind in
        record {
          drawn = 0;
          few = none.0;
          blocks = others.1 ∙ ap (λ (i : Inputs). i.blocks) (sym (inputs_none (inputs_of dir batches moments blocks)));
          directory = same ∙ ap (λ (i : Inputs). i.directory) (sym (ap (λ n. inputs_after n (inputs_of dir batches moments blocks)) none.1 ∙ inputs_none (inputs_of dir batches moments blocks)));
          left_so = ap (λ (c : CallerValue). c.left) e;
          sent = (0, ap (λ (c : CallerValue). c.sent) e ∙ sym (append-nil caller.sent));
          held = batch_front dir batches moments blocks before held (note_line (answered (inputs_of dir batches moments blocks) request).note) applied;
        }

-- there are no random octets, or memory is wanted while answering
pub answer_breaks : (callers : Option CallersValue) (batches left : Option (List (List ℕ))) (moments told : Option (List Moment)) (blocks drawn : Option BlocksValue) (dir mid : DirectoryValue) (before held : Option (List ℕ)) (request : List ℕ) (fault : RunFault)
    → Known (AppliesNext dir mid before held (Ok tt)) batches left → Known (λ a b. Known (AnswersNext mid request (Err fault) a b) blocks drawn) moments told
    → Known (Talks (ServesRequest request (Err fault))) (world callers batches moments blocks dir before) (world callers left told drawn mid held)
answer_breaks callers batches left moments told blocks drawn dir mid before held request fault p q =
    known_four (Talks (ServesRequest request (Err fault))) (Moved (λ a b. b ≡ a)) (AppliesNext dir mid before held (Ok tt)) (AnswersNext mid request (Err fault)) dir mid before held
    (λ c g b l m t k d sent applied answer.
    talks (ServesRequest request (Err fault)) (world_of (inputs_of dir b m k) c before) (world_of (inputs_of mid l t d) g held)
    (λ caller e.
    let at = moves_at (λ a b. b ≡ a) c g caller e sent in
    (at.0, at.1, answer_broke b m k l t d dir mid before held caller at.0 request fault applied answer at.2)))
    callers callers batches left moments told blocks drawn (unmoved callers) p q
  where
    answer_broke : (batches : List (List ℕ)) (moments : List Moment) (blocks : BlocksValue) (left : List (List ℕ)) (told : List Moment) (drawn : BlocksValue) (dir mid : DirectoryValue) (before held : Option (List ℕ)) (caller next : CallerValue) (request : List ℕ) (fault : RunFault)
        → AppliesNext dir mid before held (Ok tt) batches left → AnswersNext mid request (Err fault) moments told blocks drawn → next ≡ caller
        → Breaks request fault (record { inputs = inputs_of dir batches moments blocks; caller = caller; held = before }) (record { inputs = inputs_of mid left told drawn; caller = next; held = held })
    answer_broke batches moments blocks left told drawn dir mid before held caller next request NoMemory applied answer e = record {
      drawn = 1;
      few = omega arith;
      blocks = answer ∙ ap (λ (i : Inputs). i.blocks) (sym (inputs_one (inputs_of dir batches moments blocks)));
      directory = applied.1.0 ∙ ap (λ (i : Inputs). i.directory) (sym (inputs_one (inputs_of dir batches moments blocks)));
      left_so = ap (λ (c : CallerValue). c.left) e;
      sent = (0, ap (λ (c : CallerValue). c.sent) e ∙ sym (append-nil caller.sent));
      held = batch_whole dir batches moments blocks before held (note_line (answered (inputs_of dir batches moments blocks) request).note) applied.1.1;
    }
    answer_broke batches moments blocks left told drawn dir mid before held caller next request Entropy applied answer e = record {
      drawn = 0;
      few = omega arith;
      blocks = answer ∙ ap (λ (i : Inputs). i.blocks) (sym (inputs_none (inputs_of dir batches moments blocks)));
      directory = applied.1.0 ∙ ap (λ (i : Inputs). i.directory) (sym (inputs_one (inputs_of dir batches moments blocks)));
      left_so = ap (λ (c : CallerValue). c.left) e;
      sent = (0, ap (λ (c : CallerValue). c.sent) e ∙ sym (append-nil caller.sent));
      held = batch_whole dir batches moments blocks before held (note_line (answered (inputs_of dir batches moments blocks) request).note) applied.1.1;
    }
    answer_broke batches moments blocks left told drawn dir mid before held caller next request Out applied answer e = absurd answer
    answer_broke batches moments blocks left told drawn dir mid before held caller next request Changes applied answer e = absurd answer
    answer_broke batches moments blocks left told drawn dir mid before held caller next request Door applied answer e = absurd answer

-- sending the reply wanted memory, or the note could not be written
pub reply_breaks : (callers parted : Option CallersValue) (batches left : Option (List (List ℕ))) (moments told : Option (List Moment)) (blocks drawn : Option BlocksValue) (dir mid : DirectoryValue) (before held after : Option (List ℕ)) (request : List ℕ) (made : Answered) (result : Result Bool RunFault) (fault : RunFault)
    → IsWriting fault
    → Known (AppliesNext dir mid before held (Ok tt)) batches left → Known (λ a b. Known (AnswersNext mid request (Ok made) a b) blocks drawn) moments told
    → Moves (SendsReply (frame made.reply) result) callers parted → AppendsFront held after (note_line made.note)
    → Known (Talks (ServesRequest request (Err fault))) (world callers batches moments blocks dir before) (world parted left told drawn mid after)
reply_breaks callers parted batches left moments told blocks drawn dir mid before held after request made result fault kind p q r s =
    known_four (Talks (ServesRequest request (Err fault))) (Moved (SendsReply (frame made.reply) result)) (AppliesNext dir mid before held (Ok tt)) (AnswersNext mid request (Ok made)) dir mid before after
    (λ c g b l m t k d sent applied answer.
    talks (ServesRequest request (Err fault)) (world_of (inputs_of dir b m k) c before) (world_of (inputs_of mid l t d) g after)
    (λ caller e.
    let at = moves_at (SendsReply (frame made.reply) result) c g caller e sent in
    (at.0, at.1, reply_broke b m k l t d dir mid before held after caller at.0 request made result fault kind applied answer at.2 s)))
    callers parted batches left moments told blocks drawn (moved (SendsReply (frame made.reply) result) callers parted r) p q
  where
    one_drawn : (fault : RunFault) → IsWriting fault → (1 ≤ most_drawn fault) × (applied fault 1 ≡ 1)
    one_drawn NoMemory kind = (omega arith, refl)
    one_drawn Out kind = (omega arith, refl)
    one_drawn Changes kind = absurd kind
    one_drawn Entropy kind = absurd kind
    one_drawn Door kind = absurd kind

    front_sent : (piece : List ℕ) (result : Result Bool RunFault) (old new : CallerValue) → SentSo piece result old new → (n : ℕ) × (new.sent ≡ old.sent ++ take n piece)
    front_sent piece (Ok true) old new h = (length piece, h.0 ∙ ap (λ l. old.sent ++ l) (sym (take-length piece)))
    front_sent piece (Ok false) old new h = h.0
    front_sent piece (Err fault) old new h = h.0

    reply_broke : (batches : List (List ℕ)) (moments : List Moment) (blocks : BlocksValue) (left : List (List ℕ)) (told : List Moment) (drawn : BlocksValue) (dir mid : DirectoryValue) (before held after : Option (List ℕ)) (caller next : CallerValue) (request : List ℕ) (made : Answered) (result : Result Bool RunFault) (fault : RunFault)
        → IsWriting fault → AppliesNext dir mid before held (Ok tt) batches left → AnswersNext mid request (Ok made) moments told blocks drawn → SendsReply (frame made.reply) result caller next → AppendsFront held after (note_line made.note)
        → Breaks request fault (record { inputs = inputs_of dir batches moments blocks; caller = caller; held = before }) (record { inputs = inputs_of mid left told drawn; caller = next; held = after })
    reply_broke batches moments blocks left told drawn dir mid before held after caller next request made result fault kind applied answer sent noted =
        let one = one_drawn fault kind in
        let is = made_is dir mid before held request made batches left moments told blocks drawn applied answer in
        let inputs = inputs_of dir batches moments blocks in
        record {
          drawn = 1;
          few = one.0;
          blocks = answer.1 ∙ ap (λ (i : Inputs). i.blocks) (sym (inputs_one inputs));
          directory = applied.1.0 ∙ ap (λ (i : Inputs). i.directory) (sym (ap (λ n. inputs_after n inputs) one.1 ∙ inputs_one inputs));
          left_so = sent.left;
          sent = subst (λ (a : Answered). (n : ℕ) × (next.sent ≡ caller.sent ++ take n (frame a.reply))) is (front_sent (frame made.reply) result caller next sent.sent);
          held = notes_front dir batches moments blocks before held after request made applied.1.1 is noted;
        }
