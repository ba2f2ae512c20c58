-- The directory after a batch is a directory.
use Rattle.std.proofs.Common.{◌≡◌, ℕ, ◌+◌, List, [], ◌∷◌, refl}
use Rattle.std.specs.Prelude.{IfOk, Result, Ok, Err}
use Rattle.std.specs.Result.{result_unwrap_or}
use Rattle.kdc_prelude.specs.Lines.{lines_of}
use Rattle.dir_core.specs.Changed.{changed}
use Rattle.dir_core.proofs.KeptDirectories.{changed_keeps}
use Rattle.dir_records.specs.declared.change.Change.{Change}
use Rattle.dir_records.specs.declared.refusal.DirCause.{DirCause}
use Rattle.dir_records.specs.declared.refusal.DirRefusal.{DirRefusal}
use Rattle.dir_records.specs.Changes.{IsChangeInRange}
use Rattle.dir_records.specs.DirectoryValue.{DirectoryValue}
use Rattle.dir_records.specs.IsDirectory.{IsDirectory}
use Rattle.change_lines.specs.Batches.{after, at_line, batch_outcome, line_after, lines_after}
use Rattle.change_lines.specs.ChangeLines.{change_of}
use Rattle.change_lines.proofs.LineRanges.{bind, change_in_range}

change_keeps : (dir : DirectoryValue) (change : Change) → IsDirectory dir → IsChangeInRange change → IfOk (changed dir change) IsDirectory
change_keeps dir change h v = by_case (changed dir change) refl
  where
    by_case : (r : Result DirectoryValue DirCause) → changed dir change ≡ r → IfOk r IsDirectory
    by_case (Ok made) e = changed_keeps dir made change h v e
    by_case (Err cause) e = tt

line_keeps : (dir : DirectoryValue) (line : List ℕ) → IsDirectory dir → IfOk (line_after dir line) IsDirectory
line_keeps dir [] h = h
line_keeps dir (b ∷ bs) h = bind IsChangeInRange IsDirectory (change_of (b ∷ bs)) (changed dir) (change_in_range (b ∷ bs)) (λ change v. change_keeps dir change h v)

at_its_line : (n : ℕ) (r : Result DirectoryValue DirCause) → IfOk r IsDirectory → IfOk (at_line n r) IsDirectory
at_its_line n (Ok dir) h = h
at_its_line n (Err cause) h = tt

lines_keep : (n : ℕ) (lines : List (List ℕ)) (dir : DirectoryValue) → IsDirectory dir → IfOk (lines_after n lines dir) IsDirectory
lines_keep n [] dir h = h
lines_keep n (line ∷ lines) dir h =
    bind IsDirectory IsDirectory (at_line n (line_after dir line)) (lines_after (n + 1) lines) (at_its_line n (line_after dir line) (line_keeps dir line h)) (λ made k. lines_keep (n + 1) lines made k)

or_else_as_it_was : (r : Result DirectoryValue DirRefusal) (dir : DirectoryValue) → IfOk r IsDirectory → IsDirectory dir → IsDirectory (result_unwrap_or r dir)
or_else_as_it_was (Ok made) dir h k = h
or_else_as_it_was (Err refusal) dir h k = k

pub after_keeps : (dir : DirectoryValue) (batch : List ℕ) → IsDirectory dir → IsDirectory (after dir batch)
unfolding after batch_outcome
after_keeps dir batch h = or_else_as_it_was (batch_outcome dir batch) dir (lines_keep 1 (lines_of batch) dir h) h
