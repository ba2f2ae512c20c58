use Rattle.std.proofs.Common.{refl}
use Rattle.kdc_commands.specs.Inputs.{input_of}
use Rattle.kdc_commands.specs.Replies.{outcome_of_reply}
use Rattle.kdc_commands.specs.Runs.{job_outcome}
use Rattle.kdc_commands.proofs.Printing.{silent, fronted, printed}
use Rattle.kdc_commands.proofs.Statuses.{wants_memory, fails_to_write}
use Rattle.kdc_commands.proofs.job.do_job.Goals as goal

pub returns-in-Err-clause-answer : goal.returns-in-Err-clause-answer
returns-in-Err-clause-answer g c =
    silent c.status.result c.status.ensures.fault (job_outcome c.args.job (g.D.Source.left c.args.dir.now) (input_of (g.L.Door.callers c.args.door.now))) (g.O.Sink.held c.args.out.now)

pub returns-in-Err-NoMemory-clause-answer : goal.returns-in-Err-NoMemory-clause-answer
returns-in-Err-NoMemory-clause-answer g c =
    fronted (job_outcome c.args.job (g.D.Source.left c.args.dir.now) (input_of (g.L.Door.callers c.args.door.now))) (outcome_of_reply c.in-Ok.reply) (g.O.Sink.held c.args.out.now) (g.O.Sink.held c.write_whole.new.sink) 3 refl refl c.in-Ok.ensures.answer (rw c.as_slice.ensures.value at c.in-Err-NoMemory.ensures.err)

pub returns-in-Err-NoMemory-clause-status : goal.returns-in-Err-NoMemory-clause-status
returns-in-Err-NoMemory-clause-status g c = wants_memory c.args.job

pub returns-in-Err-Failed-clause-answer : goal.returns-in-Err-Failed-clause-answer
returns-in-Err-Failed-clause-answer g c =
    fronted (job_outcome c.args.job (g.D.Source.left c.args.dir.now) (input_of (g.L.Door.callers c.args.door.now))) (outcome_of_reply c.in-Ok.reply) (g.O.Sink.held c.args.out.now) (g.O.Sink.held c.write_whole.new.sink) 6 refl refl c.in-Ok.ensures.answer (rw c.as_slice.ensures.value at c.in-Err-Failed.ensures.err)

pub returns-in-Err-Failed-clause-status : goal.returns-in-Err-Failed-clause-status
returns-in-Err-Failed-clause-status g c = fails_to_write c.args.job

pub returns-clause-answer : goal.returns-clause-answer
returns-clause-answer g c =
    printed (job_outcome c.args.job (g.D.Source.left c.args.dir.now) (input_of (g.L.Door.callers c.args.door.now))) (outcome_of_reply c.in-Ok.reply) (g.O.Sink.held c.args.out.now) (g.O.Sink.held c.write_whole.new.sink) c.in-Ok.ensures.no_fault c.in-Ok.ensures.answer (rw c.as_slice.ensures.value at c.in-Ok-write_whole.ensures.ok)
