-- What the devices of a run tell, and what happens to it.
use Rattle.std.specs.Prelude.{◌≡◌, ℕ, List, Option, None, Some}
use Rattle.dir_records.specs.DirectoryValue.{DirectoryValue}
use Rattle.kb_base.specs.Blocks.{BlocksValue}
use Rattle.kb_base.specs.Callers.{CallerValue, CallersValue}
use Rattle.krb_names.specs.declared.moment.Moment.{Moment}
use Rattle.kdc_frames.specs.Exchanges.{Inputs}

-- what the next exchanges are made from, the callers, and what was written of the notes, which may be untold
pub record World : Type 0 where
  pub inputs : Inputs
  pub callers : CallersValue
  pub held : Option (List ℕ)

-- what is told where callers, batches, moments and blocks all are
abbrev pub world : Option CallersValue → Option (List (List ℕ)) → Option (List Moment) → Option BlocksValue → DirectoryValue → Option (List ℕ) → Option World
world (Some callers) (Some batches) (Some moments) (Some blocks) directory held =
    Some (record { inputs = record { directory = directory; batches = batches; moments = moments; blocks = blocks }; callers = callers; held = held })
world callers batches moments blocks directory held = None

-- a step from what is told before to what is told after it; nothing is claimed where nothing is told
abbrev pub Known : {A : Type 0} → (A → A → Type 0) → Option A → Option A → Type 0
Known step None new = Unit {0}
Known step (Some old) None = ⊥
Known step (Some old) (Some new) = step old new

-- a run as its current caller sees it
pub record Stage : Type 0 where
  pub inputs : Inputs
  pub caller : CallerValue
  pub held : Option (List ℕ)

abbrev pub stage_of : World → CallerValue → Stage
stage_of w caller = record { inputs = w.inputs; caller = caller; held = w.held }

abbrev pub WithCaller : (Stage → Stage → Type 0) → Option CallerValue → World → World → Type 0
WithCaller step None old new = Unit {0}
WithCaller step (Some caller) old new =
    (next : CallerValue) × (new.callers ≡ record old.callers { current = Some next }) × step (stage_of old caller) (stage_of new next)

-- a step with the current caller, if there is one; those before and after it stay
abbrev pub Talks : (Stage → Stage → Type 0) → World → World → Type 0
Talks step old new = WithCaller step old.callers.current old new
