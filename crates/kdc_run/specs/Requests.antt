-- What serving a request does.
use Rattle.std.specs.Prelude.{◌≡◌, ◌≤◌, ℕ, Bool, true, false, List, ◌++◌, take, unwrap_or, Option, Result, Ok, Err}
use Rattle.std.specs.Io.KnownBytes.{Appends}
use Rattle.kdc_prelude.specs.Causes.{Rose}
use Rattle.kdc_prelude.specs.Printed.{AppendsFront}
use Rattle.change_lines.specs.Batches.{after, batch_outcome}
use Rattle.dir_records.specs.DirectoryValue.{DirectoryValue}
use Rattle.kb_base.specs.Batches.{first_batch, later_batches}
use Rattle.kb_base.specs.Blocks.{BlocksValue, block_at, drawn_one}
use Rattle.kb_base.specs.Callers.{CallerValue}
use Rattle.kb_base.specs.Moments.{first_moment, later_moments}
use Rattle.krb_names.specs.declared.moment.Moment.{Moment}
use Rattle.tgs_core.specs.Answers.{answered_to}
use Rattle.tgs_core.specs.declared.answered.Answered.{Answered}
use Rattle.kdc_frames.specs.Exchanges.{answered, epoch, inputs_after, later}
use Rattle.kdc_frames.specs.Frames.{frame}
use Rattle.kdc_frames.specs.Notes.{batch_line, batch_note, note_line}
use Rattle.kdc_run.specs.Causes.{applied, most_drawn}
use Rattle.kdc_run.specs.Worlds.{Stage}
use Rattle.kdc_run.specs.declared.served.RunFault.{RunFault}
use Rattle.kdc_run.specs.declared.served.RunFault.TheVariants.{NoMemory, Out, Entropy, Changes, Door}

-- a batch was applied, and its note written, which is empty where it is accepted; at an `Err` a front of it
abbrev pub AppliesBatch : List ℕ → DirectoryValue → DirectoryValue → Option (List ℕ) → Option (List ℕ) → Result (Unit {0}) RunFault → Type 0
AppliesBatch batch old new before held (Ok u) = (new ≡ after old batch) × Appends before held (batch_line (batch_outcome old batch))
AppliesBatch batch old new before held (Err fault) = AppendsFront before held (batch_line (batch_outcome old batch))

-- the next batch was taken and applied
abbrev pub AppliesNext : DirectoryValue → DirectoryValue → Option (List ℕ) → Option (List ℕ) → Result (Unit {0}) RunFault → List (List ℕ) → List (List ℕ) → Type 0
AppliesNext old new before held (Ok u) batches left = (left ≡ later_batches batches) × AppliesBatch (first_batch batches) old new before held (Ok u)
AppliesNext old new before held (Err fault) batches left = AppliesBatch (first_batch batches) old new before held (Err fault)

-- the next block was drawn, the next moment told, and the request answered with both
abbrev pub AnswersNext : DirectoryValue → List ℕ → Result Answered RunFault → List Moment → List Moment → BlocksValue → BlocksValue → Type 0
AnswersNext dir request (Ok made) moments left blocks drawn =
    (left ≡ later_moments moments) × (drawn ≡ drawn_one blocks)
    × (made ≡ answered_to dir (unwrap_or (first_moment moments) epoch) (block_at blocks.list (drawn_one blocks).drawn) request)
AnswersNext dir request (Err NoMemory) moments left blocks drawn = drawn ≡ drawn_one blocks
AnswersNext dir request (Err Entropy) moments left blocks drawn = drawn ≡ blocks
AnswersNext dir request (Err Out) moments left blocks drawn = ⊥
AnswersNext dir request (Err Changes) moments left blocks drawn = ⊥
AnswersNext dir request (Err Door) moments left blocks drawn = ⊥

-- a piece was sent whole, or a front of it where the caller failed or memory was wanted
abbrev pub SentSo : List ℕ → Result Bool RunFault → CallerValue → CallerValue → Type 0
SentSo piece (Ok true) old new = (new.sent ≡ old.sent ++ piece) × (new.faults ≡ old.faults)
SentSo piece (Ok false) old new = ((n : ℕ) × (new.sent ≡ old.sent ++ take n piece)) × Rose old.faults new.faults
SentSo piece (Err fault) old new = ((n : ℕ) × (new.sent ≡ old.sent ++ take n piece)) × (new.faults ≡ old.faults)

-- a reply was sent so, and nothing was read
pub record SendsReply (piece : List ℕ) (result : Result Bool RunFault) (old new : CallerValue) : Type 0 where
  pub left : new.left ≡ old.left
  pub sent : SentSo piece result old new

-- the request was answered: the inputs are the later ones, and the notes of its batch and of itself are written
pub record IsAnswered (request : List ℕ) (old new : Stage) : Type 0 where
  pub inputs : new.inputs ≡ later old.inputs
  pub held : Appends old.held new.held (batch_note old.inputs ++ note_line (answered old.inputs request).note)

-- the run ended at a request: so many blocks were drawn for it, none or one; a front of its reply and of its notes is out
pub record Breaks (request : List ℕ) (fault : RunFault) (old new : Stage) : Type 0 where
  pub drawn : ℕ
  pub few : drawn ≤ most_drawn fault
  pub blocks : new.inputs.blocks ≡ (inputs_after drawn old.inputs).blocks
  pub directory : new.inputs.directory ≡ (inputs_after (applied fault drawn) old.inputs).directory
  pub left_so : new.caller.left ≡ old.caller.left
  pub sent : (n : ℕ) × (new.caller.sent ≡ old.caller.sent ++ take n (frame (answered old.inputs request).reply))
  pub held : AppendsFront old.held new.held (batch_note old.inputs ++ note_line (answered old.inputs request).note)

-- what serving a request does; it tells whether the reply was sent whole
abbrev pub ServesRequest : List ℕ → Result Bool RunFault → Stage → Stage → Type 0
ServesRequest request (Ok whole) old new =
    IsAnswered request old new × SendsReply (frame (answered old.inputs request).reply) (Ok whole) old.caller new.caller
ServesRequest request (Err fault) old new = Breaks request fault old new
