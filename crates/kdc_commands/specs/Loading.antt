-- What was loaded, as the reading of a text.
use Rattle.std.specs.Prelude.{Result, Ok, Err}
use Rattle.dir_records.specs.DirectoryValue.{DirectoryValue}
use Rattle.dir_records.specs.declared.refusal.DirRefusal.{DirRefusal}
use Rattle.kdc_commands.specs.declared.load.Loaded.{Loaded}
use Rattle.kdc_commands.specs.declared.load.Loaded.TheVariants.{Directory, Refused}

abbrev pub reading_of : Loaded → Result DirectoryValue DirRefusal
reading_of (Directory dir) = Ok dir
reading_of (Refused refusal) = Err refusal
