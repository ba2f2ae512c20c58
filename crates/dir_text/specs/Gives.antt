-- What a reader of the text answers: what the reading gives, unless it wants memory.
use Rattle.std.specs.Prelude.{Result}
use Rattle.kdc_prelude.specs.Answers.{Answers}
use Rattle.dir_records.specs.WellFormed.{no_memory}
use Rattle.dir_records.specs.declared.refusal.DirRefusal.{DirRefusal}

abbrev pub Gives : {X : Type 0} → Result X DirRefusal → Result X DirRefusal → Type 0
Gives result reading = Answers no_memory result reading
