-- Lemmas on what a line makes of a directory.
use Rattle.std.proofs.Common.{◌≡◌, ◌≢◌, ℕ, List, [], ◌∷◌, false, eqb, length, ap}
use Rattle.std.specs.Prelude.{Result, Ok, Err, OnOk, IfErr}
use Rattle.std.proofs.lemmas.Bool.{false≢true}
use Rattle.kdc_prelude.specs.Results.{◌>>=◌}
use Rattle.dir_core.specs.Changed.{changed}
use Rattle.dir_records.specs.DirectoryValue.{DirectoryValue}
use Rattle.dir_records.specs.declared.change.Change.{Change}
use Rattle.dir_records.specs.declared.refusal.DirRefusal.{DirRefusal}
use Rattle.change_lines.specs.Batches.{Becomes, after, batch_outcome, line_after}
use Rattle.change_lines.specs.ChangeLines.{change_of}

-- a line that is not empty makes the change that it says
pub line_made : (dir : DirectoryValue) (line : List ℕ) (change : Change) → false ≡ eqb (length line) 0 → change_of line ≡ Ok change → line_after dir line ≡ changed dir change
line_made dir [] change some read = absurd (false≢true some)
line_made dir (b ∷ bs) change some read = ap (λ said. said >>= changed dir) read

-- the two answers of a call together
pub becomes : {U E : Type 0} (no_memory : E) (result : Result U E) (directory : DirectoryValue) (outcome : Result DirectoryValue E)
    → OnOk result (outcome ≡ Ok directory) → IfErr result (λ fault. fault ≢ no_memory → outcome ≡ Err fault) → Becomes no_memory result directory outcome
becomes no_memory (Ok u) directory outcome ok err = ok
becomes no_memory (Err fault) directory outcome ok err = err

-- a batch that is accepted makes what its lines make, and one that is refused changes nothing
pub after_made : (dir made : DirectoryValue) (batch : List ℕ) → batch_outcome dir batch ≡ Ok made → after dir batch ≡ made
unfolding after
after_made dir made batch h = rw h

pub after_refused : (dir : DirectoryValue) (batch : List ℕ) (refusal : DirRefusal) → batch_outcome dir batch ≡ Err refusal → after dir batch ≡ dir
unfolding after
after_refused dir batch refusal h = rw h
