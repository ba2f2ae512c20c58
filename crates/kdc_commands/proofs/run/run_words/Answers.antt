use Rattle.std.proofs.Common.{refl}
use Rattle.std.specs.Prelude.{map, string_bytes}
use Rattle.kdc_commands.specs.Inputs.{input_of}
use Rattle.kdc_commands.specs.Runs.{outcome_by}
use Rattle.kdc_commands.specs.Words.{command_of}
use Rattle.kdc_commands.proofs.Printing.{silent}
use Rattle.kdc_commands.proofs.run.run_words.Goals as goal

pub returns-in-Err-clause-answer : goal.returns-in-Err-clause-answer
returns-in-Err-clause-answer g c =
    silent 3 refl (outcome_by (command_of (map string_bytes c.args.words.now)) (g.D.Source.left c.args.dir.now) (input_of (g.L.Door.callers c.args.door.now))) (g.O.Sink.held c.args.out.now)
