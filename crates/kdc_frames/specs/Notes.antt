-- The notes of a run (own choice): a line for each batch that is refused, each request, and each caller that is left before its end.
use Rattle.std.specs.Prelude.{ℕ, List, [], ◌∷◌, ◌++◌, length, codes, Option, None, Some, Result, Ok, Err}
use Rattle.change_lines.specs.Batches.{batch_outcome}
use Rattle.dir_records.specs.DirectoryValue.{DirectoryValue}
use Rattle.dir_records.specs.RefusalTexts.{cause_text, place_text}
use Rattle.dir_records.specs.declared.refusal.DirRefusal.{DirRefusal}
use Rattle.kb_base.specs.Batches.{first_batch}
use Rattle.kdc_records.specs.RuleNames.{name_of}
use Rattle.kdc_records.specs.declared.rule.Rule.{Rule}
use Rattle.kdc_records.specs.declared.wish.Branch.{Branch}
use Rattle.kdc_records.specs.declared.wish.Branch.TheVariants.{Initial, Ordinary, SelfTicket, Proxy}
use Rattle.kdc_frames.specs.Exchanges.{Inputs, answered, inputs_after, later}
use Rattle.kdc_frames.specs.Requests.{Taken, leave_of, requests_of}
use Rattle.kdc_frames.specs.declared.leave.Leave.{Leave}
use Rattle.kdc_frames.specs.declared.leave.Leave.TheVariants.{Budget, FrameCut, FrameTooLong, Fault}
use Rattle.tgs_core.specs.declared.answered.Note.{Note}

abbrev pub branch_text : Option Branch → List ℕ
branch_text None = codes "none"
branch_text (Some Initial) = codes "as"
branch_text (Some Ordinary) = codes "tgs"
branch_text (Some SelfTicket) = codes "self"
branch_text (Some Proxy) = codes "proxy"

abbrev pub outcome_text : Option Rule → List ℕ
outcome_text None = codes "ok"
outcome_text (Some rule) = name_of rule

-- the note of a request: its branch, and the rule that denied it
unfoldable pub note_line : Note → List ℕ
note_line note = branch_text note.branch ++ codes " " ++ outcome_text note.rule ++ codes "\n"

unfoldable pub refusal_text : DirRefusal → List ℕ
refusal_text refusal = cause_text refusal.cause ++ codes " at " ++ place_text refusal.place

abbrev pub refusal_line : DirRefusal → List ℕ
refusal_line refusal = codes "changes refused " ++ refusal_text refusal ++ codes "\n"

-- the note of a batch that is refused
abbrev pub batch_line : Result DirectoryValue DirRefusal → List ℕ
batch_line (Ok directory) = []
batch_line (Err refusal) = refusal_line refusal

-- the note of the next exchange's batch
unfoldable pub batch_note : Inputs → List ℕ
batch_note inputs = batch_line (batch_outcome inputs.directory (first_batch inputs.batches))

abbrev pub leave_line : Leave → List ℕ
leave_line Fault = codes "caller left: fault\n"
leave_line FrameCut = codes "caller left: frame cut\n"
leave_line FrameTooLong = codes "caller left: frame too long\n"
leave_line Budget = codes "caller left: budget\n"

-- the note of a caller that is left before its end
abbrev pub leave_note : Option Leave → List ℕ
leave_note None = []
leave_note (Some leave) = leave_line leave

-- the notes of the exchanges of these requests: for each that of its batch, then its own
unfoldable pub notes : Inputs → List (List ℕ) → List ℕ
notes inputs [] = []
notes inputs (request ∷ requests) = batch_note inputs ++ note_line (answered inputs request).note ++ notes (later inputs) requests

-- the notes of a run, of whose callers this was taken
unfoldable pub run_notes : Inputs → List Taken → List ℕ
run_notes inputs [] = []
run_notes inputs (taken ∷ callers) =
    notes inputs (requests_of taken) ++ leave_note (leave_of taken) ++ run_notes (inputs_after (length (requests_of taken)) inputs) callers
