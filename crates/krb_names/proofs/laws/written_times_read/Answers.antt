use Rattle.krb_names.proofs.TimeLaw.{written_again}
use Rattle.krb_names.proofs.laws.written_times_read.Goals as goal

pub returns : goal.returns
returns c = written_again
