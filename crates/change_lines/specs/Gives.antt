-- What a reader of change lines answers: what the reading gives, unless it wants memory.
use Rattle.std.specs.Prelude.{Result}
use Rattle.kdc_prelude.specs.Answers.{Answers}
use Rattle.dir_records.specs.declared.refusal.DirCause.{DirCause}
use Rattle.dir_records.specs.declared.refusal.DirCause.TheVariants.{NoMemory}

abbrev pub Gives : {X : Type 0} → Result X DirCause → Result X DirCause → Type 0
Gives result reading = Answers NoMemory result reading
