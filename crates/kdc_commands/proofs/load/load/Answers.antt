use Rattle.kdc_commands.proofs.LongTexts.{refused_long}
use Rattle.kdc_commands.proofs.load.load.Goals as goal

pub returns-in-TooLong-clause-value : goal.returns-in-TooLong-clause-value
returns-in-TooLong-clause-value g c =
    let read = rw c.in-TooLong.is at c.in_ok-read_whole.ensures.ok in
    rw c.too_long.ensures (refused_long (g.D.Source.left c.args.dir.now) read)
