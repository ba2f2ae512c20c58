use Rattle.std.proofs.Common.{◌+◌, arith}
use Rattle.krb_names.proofs.ktime_text.two_digits.Goals as goal

pub overflow_sub-result : goal.overflow_sub-result
overflow_sub-result c = omega (arith, c.requires.digits c.args.place (omega arith))

pub overflow_mul-result : goal.overflow_mul-result
overflow_mul-result c = omega (arith, c.requires.digits c.args.place (omega arith))

pub overflow_sub-result-2 : goal.overflow_sub-result-2
overflow_sub-result-2 c = omega (arith, c.requires.digits (c.args.place + 1) (omega arith))

pub overflow_add-result-2 : goal.overflow_add-result-2
overflow_add-result-2 c = omega (arith, c.requires.digits c.args.place (omega arith), c.requires.digits (c.args.place + 1) (omega arith))

pub returns-clause-found : goal.returns-clause-found
returns-clause-found c = omega (arith, c.requires.digits c.args.place (omega arith), c.requires.digits (c.args.place + 1) (omega arith))
