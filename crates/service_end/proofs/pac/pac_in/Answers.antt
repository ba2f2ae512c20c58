use Rattle.std.proofs.Common.{arith, sym}
use Rattle.ticket_parts.proofs.Steps.{faulty_pac, long_pac}
use Rattle.service_end.proofs.Unshown.{none_shown, unread}
use Rattle.service_end.proofs.pac.pac_in.Goals as goal

pub returns-in_err-bytes-clause-cause : goal.returns-in_err-bytes-clause-cause
returns-in_err-bytes-clause-cause c = none_shown c.from_residual.result c.args.part.now (sym c.in_err-bytes.ensures.exact)

pub returns-then-bytes-ge-TOO_MANY_BYTES-clause-cause : goal.returns-then-bytes-ge-TOO_MANY_BYTES-clause-cause
returns-then-bytes-ge-TOO_MANY_BYTES-clause-cause c =
    unread c.args.part.now c.in_ok-bytes.bytes.now (sym c.in_ok-bytes.ensures.exact) (long_pac c.in_ok-bytes.bytes.now (omega (arith, c.if-bytes-ge-TOO_MANY_BYTES.true)))

pub returns-in-Err-clause-cause : goal.returns-in-Err-clause-cause
returns-in-Err-clause-cause c =
    unread c.args.part.now c.in_ok-bytes.bytes.now (sym c.in_ok-bytes.ensures.exact) (faulty_pac c.in_ok-bytes.bytes.now c.in-Err.field-0 c.in-Err.ensures.exact)
