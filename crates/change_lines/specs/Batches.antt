-- A batch of change lines (own choice): all of them are applied, in their order, or none.
use Rattle.std.specs.Prelude.{◌≡◌, ◌≢◌, ℕ, ◌+◌, List, [], ◌∷◌, Result, Ok, Err, MatchResult}
use Rattle.std.specs.Result.{result_unwrap_or}
use Rattle.kdc_prelude.specs.Lines.{lines_of}
use Rattle.kdc_prelude.specs.Results.{◌>>=◌}
use Rattle.dir_core.specs.Changed.{changed}
use Rattle.dir_records.specs.DirectoryValue.{DirectoryValue}
use Rattle.dir_records.specs.declared.refusal.DirCause.{DirCause}
use Rattle.dir_records.specs.declared.refusal.DirPlace.TheVariants.{Line}
use Rattle.dir_records.specs.declared.refusal.DirRefusal.{DirRefusal}
use Rattle.change_lines.specs.ChangeLines.{change_of}

-- the directory after a line: an empty one changes nothing, another one makes the change that it says
abbrev pub line_after : DirectoryValue → List ℕ → Result DirectoryValue DirCause
line_after dir [] = Ok dir
line_after dir (b ∷ bs) = change_of (b ∷ bs) >>= changed dir

-- a refusal stands at the line with this number
abbrev pub at_line : {X : Type 0} → ℕ → Result X DirCause → Result X DirRefusal
at_line n (Ok x) = Ok x
at_line n (Err cause) = Err (record { cause = cause; place = Line n })

-- the directory after lines, which are counted from a number on, or the first refusal
abbrev pub lines_after : ℕ → List (List ℕ) → DirectoryValue → Result DirectoryValue DirRefusal
lines_after n [] dir = Ok dir
lines_after n (line ∷ lines) dir = at_line n (line_after dir line) >>= lines_after (n + 1) lines

-- the directory after the lines of a batch, or the first refusal; lines are counted from 1, empty ones too
unfoldable pub batch_outcome : DirectoryValue → List ℕ → Result DirectoryValue DirRefusal
batch_outcome dir batch = lines_after 1 (lines_of batch) dir

-- the directory after a batch: as it was, where the batch is refused
unfoldable pub after : DirectoryValue → List ℕ → DirectoryValue
after dir batch = result_unwrap_or (batch_outcome dir batch) dir

-- what a call answers that changes a directory, where want of memory is left free: the directory is the outcome, or the
-- fault is
abbrev pub Becomes : {U E : Type 0} → E → Result U E → DirectoryValue → Result DirectoryValue E → Type 0
Becomes no_memory result directory outcome = MatchResult result (λ _. outcome ≡ Ok directory) (λ fault. fault ≢ no_memory → outcome ≡ Err fault)
