use Rattle.std.proofs.Common.{◌≡◌, Option, sym, subst}
use Rattle.std.specs.Prelude.{IfOk}
use Rattle.ticket_parts.specs.declared.reading.ReadRecord.{ReadRecord}
use Rattle.ticket_parts.proofs.ReadSound.{answer_is_sound}
use Rattle.ticket_parts.proofs.Steps.{record_with_pac}
use Rattle.ticket_parts.proofs.reading.read_record.Goals as goal

pub returns-clause-exact : goal.returns-clause-exact
returns-clause-exact c =
    let is = record_with_pac c.args.holder.now c.args.part.now c.args.pac.now c.requires.found in
    subst (λ (o : Option ReadRecord). IfOk c.record_by.result (λ found. found ≡ o)) (sym is) c.record_by.ensures

pub returns-clause-sound : goal.returns-clause-sound
returns-clause-sound c = λ writable. answer_is_sound c.args.holder.now c.args.part.now c.record_by.result (returns-clause-exact c) writable
