-- How serving a caller goes on and ends, of what is told.
use Rattle.std.proofs.Common.{◌≡◌, ◌∙◌, ℕ, suc, ◌+◌, ◌-◌, ◌<◌, ◌≤◌, List, [], refl, sym, ap, subst, arith, inl, inr}
use Rattle.std.specs.Prelude.{Option, Some, Ok, Err}
use Rattle.std.specs.Io.KnownBytes.{Appends}
use Rattle.kdc_prelude.specs.Printed.{AppendsFront}
use Rattle.dir_records.specs.DirectoryValue.{DirectoryValue}
use Rattle.kb_base.specs.Blocks.{BlocksValue}
use Rattle.kb_base.specs.Callers.{CallersValue}
use Rattle.krb_names.specs.declared.moment.Moment.{Moment}
use Rattle.kdc_frames.specs.Notes.{leave_note}
use Rattle.kdc_frames.specs.Requests.{leave_after_long}
use Rattle.kdc_frames.specs.declared.leave.Leave.{Leave}
use Rattle.kdc_frames.specs.declared.leave.Leave.TheVariants.{Budget}
use Rattle.kdc_run.specs.Talks.{EndsTalk, IsTalk, TalksOver}
use Rattle.kdc_run.specs.Turns.{TakesTurn}
use Rattle.kdc_run.specs.Worlds.{Known, Stage, Talks, World, stage_of, world}
use Rattle.kdc_run.specs.declared.caller.Talk.{Talk}
use Rattle.kdc_run.specs.declared.served.RunFault.{RunFault}
use Rattle.kdc_run.specs.declared.turn.Turn.{Turn}
use Rattle.kdc_run.specs.declared.turn.Turn.TheVariants.{Answered}
use Rattle.kdc_run.proofs.Endings.{noted, spent}
use Rattle.kdc_run.proofs.Known.{known_as, known_held, known_none, known_on, talks, talks_as, talks_at, talks_none, talks_on}
use Rattle.kdc_run.specs.Settled.{SoFar}
use Rattle.kdc_run.proofs.SoFar.{sofar_more, sofar_none}

pub talk_begins : (told : Option World) → Known (Talks (SoFar 0)) told told
talk_begins told = known_none (Talks (SoFar 0)) (talks_none (SoFar 0) sofar_none) told

pub talk_goes_on : (n : ℕ) (old mid new : Option World) → Known (Talks (SoFar n)) old mid → Known (Talks (TakesTurn (Ok Answered))) mid new → Known (Talks (SoFar (n + 1))) old new
talk_goes_on n old mid new p q =
    known_on (Talks (SoFar n)) (Talks (TakesTurn (Ok Answered))) (Talks (SoFar (n + 1))) (talks_on (SoFar n) (TakesTurn (Ok Answered)) (SoFar (n + 1)) (sofar_more n)) old mid new p q

-- a turn ended it
pub talk_ends : (n : ℕ) (turn : Turn) (requests : ℕ) (leave : Option Leave) (result : Talk) → result ≡ record { requests = requests; leave = leave }
    → ((a b c : Stage) → SoFar n a b → TakesTurn (Ok turn) b c → a.caller.faults ≡ 0 → IsTalk requests leave [] a c)
    → (old mid new : Option World) → Known (Talks (SoFar n)) old mid → Known (Talks (TakesTurn (Ok turn))) mid new → Known (Talks (TalksOver (Ok result))) old new
talk_ends n turn requests leave result e ends old mid new p q =
    let made : Talk = record { requests = requests; leave = leave } in
    subst (λ (r : Talk). Known (Talks (TalksOver (Ok r))) old new) (sym e)
    (known_on (Talks (SoFar n)) (Talks (TakesTurn (Ok turn))) (Talks (TalksOver (Ok made))) (talks_on (SoFar n) (TakesTurn (Ok turn)) (TalksOver (Ok made)) ends) old mid new p q)

-- the run ended at a turn
pub talk_breaks : (n : ℕ) → n < 10000 → (fault : RunFault) (old mid new : Option World) → Known (Talks (SoFar n)) old mid → Known (Talks (TakesTurn (Err fault))) mid new → Known (Talks (TalksOver (Err fault))) old new
talk_breaks n few fault old mid new p q =
    known_on (Talks (SoFar n)) (Talks (TakesTurn (Err fault))) (Talks (TalksOver (Err fault))) (talks_on (SoFar n) (TakesTurn (Err fault)) (TalksOver (Err fault)) (λ a b c x y. record { requests = n; few = few; before = b; settled = x; breaks = y })) old mid new p q

-- why a caller is left after a frame that is too long
pub long_talk : (n : ℕ) (leave : Leave) (result : Talk) → result ≡ record { requests = n + 1; leave = Some leave } → leave ≡ leave_after_long (9999 - n)
    → result ≡ record { requests = n + 1; leave = Some (leave_after_long (10000 - suc n)) }
long_talk n leave result e is = subst (λ (l : Leave). result ≡ record { requests = n + 1; leave = Some l }) (is ∙ ap leave_after_long (one_less n)) e
  where
    one_less : (n : ℕ) → 9999 - n ≡ 10000 - suc n
    one_less n = omega arith

-- as many requests as may be were answered
pub talk_spent : (n : ℕ) → n ≤ 10000 → 10000 ≤ n → (result : Talk) → result ≡ record { requests = 10000; leave = Some Budget } → (old new : Option World) → Known (Talks (SoFar n)) old new → Known (Talks (TalksOver (Ok result))) old new
talk_spent n few many result e old new p =
    let made : Talk = record { requests = 10000; leave = Some Budget } in
    subst (λ (r : Talk). Known (Talks (TalksOver (Ok r))) old new) (sym e)
    (known_as (Talks (SoFar 10000)) (Talks (TalksOver (Ok made))) (talks_as (SoFar 10000) (TalksOver (Ok made)) spent) old new (subst (λ (k : ℕ). Known (Talks (SoFar k)) old new) (all n few many) p))
  where
    all : (n : ℕ) → n ≤ 10000 → 10000 ≤ n → n ≡ 10000
    all n few many = omega arith

-- the note was written that the caller is left
abbrev Notes : Option (List ℕ) → Option (List ℕ) → World → World → Type 0
Notes before after old new = (old.held ≡ before) × (new ≡ record old { held = after })

talk_noted_at : (talk : Talk) (before after : Option (List ℕ)) → Appends before after (leave_note talk.leave) → (a b c : World) → Talks (TalksOver (Ok talk)) a b → Notes before after b c → Talks (EndsTalk (Ok talk.requests)) a c
talk_noted_at talk before after note a b c p q =
    talks (EndsTalk (Ok talk.requests)) a c (λ caller e.
    let at = talks_at (TalksOver (Ok talk)) a b caller e p in (
      at.0,
      ap (λ (w : World). w.callers) q.1 ∙ at.1,
      λ none. (
        talk.leave,
        subst (λ (w : World). IsTalk talk.requests talk.leave (leave_note talk.leave) (stage_of a caller) (stage_of w at.0)) (sym q.1)
            (noted talk.requests talk.leave (stage_of a caller) (stage_of b at.0) after (at.2 none) (subst (λ (h : Option (List ℕ)). Appends h after (leave_note talk.leave)) (sym q.0) note)),
      ),
    ))

pub talk_noted : (talk : Talk) (before after : Option (List ℕ)) → Appends before after (leave_note talk.leave)
    → (old : Option World) (callers : Option CallersValue) (batches : Option (List (List ℕ))) (moments : Option (List Moment)) (blocks : Option BlocksValue) (directory : DirectoryValue)
    → Known (Talks (TalksOver (Ok talk))) old (world callers batches moments blocks directory before) → Known (Talks (EndsTalk (Ok talk.requests))) old (world callers batches moments blocks directory after)
talk_noted talk before after note old callers batches moments blocks directory p =
    known_on (Talks (TalksOver (Ok talk))) (Notes before after) (Talks (EndsTalk (Ok talk.requests))) (talk_noted_at talk before after note)
    old (world callers batches moments blocks directory before) (world callers batches moments blocks directory after) p
    (known_held (Notes before after) before after (λ w e. (e, refl)) callers batches moments blocks directory)

pub talk_stops : (fault : RunFault) (old new : Option World) → Known (Talks (TalksOver (Err fault))) old new → Known (Talks (EndsTalk (Err fault))) old new
talk_stops fault old new p = known_as (Talks (TalksOver (Err fault))) (Talks (EndsTalk (Err fault))) (talks_as (TalksOver (Err fault)) (EndsTalk (Err fault)) (λ a b x. inl x)) old new p

talk_unnoted_at : (talk : Talk) (fault : RunFault) (before after : Option (List ℕ)) → AppendsFront before after (leave_note talk.leave) → (a b c : World) → Talks (TalksOver (Ok talk)) a b → Notes before after b c → Talks (EndsTalk (Err fault)) a c
talk_unnoted_at talk fault before after note a b c p q =
    talks (EndsTalk (Err fault)) a c (λ caller e.
    let at = talks_at (TalksOver (Ok talk)) a b caller e p in (
      at.0,
      ap (λ (w : World). w.callers) q.1 ∙ at.1,
      inr (record {
        leave = talk.leave;
        requests = talk.requests;
        before = stage_of b at.0;
        talk = at.2;
        inputs = ap (λ (w : World). w.inputs) q.1;
        caller = refl;
        held = subst (λ (h : Option (List ℕ)). AppendsFront b.held h (leave_note talk.leave)) (sym (ap (λ (w : World). w.held) q.1)) (subst (λ (h : Option (List ℕ)). AppendsFront h after (leave_note talk.leave)) (sym q.0) note);
      }),
    ))

pub talk_unnoted : (talk : Talk) (fault : RunFault) (before after : Option (List ℕ)) → AppendsFront before after (leave_note talk.leave)
    → (old : Option World) (callers : Option CallersValue) (batches : Option (List (List ℕ))) (moments : Option (List Moment)) (blocks : Option BlocksValue) (directory : DirectoryValue)
    → Known (Talks (TalksOver (Ok talk))) old (world callers batches moments blocks directory before) → Known (Talks (EndsTalk (Err fault))) old (world callers batches moments blocks directory after)
talk_unnoted talk fault before after note old callers batches moments blocks directory p =
    known_on (Talks (TalksOver (Ok talk))) (Notes before after) (Talks (EndsTalk (Err fault))) (talk_unnoted_at talk fault before after note)
    old (world callers batches moments blocks directory before) (world callers batches moments blocks directory after) p
    (known_held (Notes before after) before after (λ w e. (e, refl)) callers batches moments blocks directory)
