use Rattle.kdc_run.proofs.Long.{long_answer}
use Rattle.kdc_run.proofs.reply.answer_request.Goals as goal

pub returns-in-TooLong-clause-exact : goal.returns-in-TooLong-clause-exact
returns-in-TooLong-clause-exact c =
    long_answer c.args.dir.now c.args.now c.args.random.now c.args.request.now c.in-TooLong.is c.answer_long.ensures.same c.answer_long.result c.answer_long.ensures.exact
