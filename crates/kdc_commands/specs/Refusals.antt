-- What is printed of a refused directory: its cause and its place (own choice).
use Rattle.std.specs.Prelude.{ℕ, List, ◌++◌, codes}
use Rattle.dir_records.specs.declared.refusal.DirRefusal.{DirRefusal}
use Rattle.dir_records.specs.RefusalTexts.{cause_text, place_text}

abbrev pub refusal_text : DirRefusal → List ℕ
refusal_text refusal = codes "directory refused: " ++ cause_text refusal.cause ++ codes " at " ++ place_text refusal.place
