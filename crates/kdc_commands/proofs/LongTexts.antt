-- Lemmas on texts of a directory above their limit.
use Rattle.std.proofs.Common.{◌≡◌, ◌<◌, ℕ, List, length}
use Rattle.std.specs.Prelude.{Option, None, Some, IfSome, Err}
use Rattle.std.proofs.lemmas.Bool.{lt-ltb}
use Rattle.dir_records.specs.declared.refusal.DirCause.TheVariants.{TooMany}
use Rattle.dir_records.specs.declared.refusal.DirPlace.TheVariants.{Whole}
use Rattle.dir_records.specs.declared.refusal.DirRefusal.{DirRefusal}
use Rattle.dir_text.specs.DirectoryText.{directory_of, value_of}

abbrev pub too_long : DirRefusal
too_long = record { cause = TooMany; place = Whole }

long_text : (text : List ℕ) → 16777216 < length text → Err too_long ≡ directory_of text
unfolding value_of
long_text text h = rw (lt-ltb 16777216 (length text) h)

pub refused_long : (left : Option (List ℕ)) → IfSome left (λ all. 16777216 < length all) → IfSome left (λ text. Err too_long ≡ directory_of text)
refused_long None h = tt
refused_long (Some text) h = long_text text h
