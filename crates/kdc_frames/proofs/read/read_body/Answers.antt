use Rattle.std.proofs.Common.{[], arith, ◌<◌, ◌≤◌, length}
use Rattle.std.specs.Prelude.{Err, Ok}
use Rattle.std.proofs.lemmas.Result.{err_from_is_err_and}
use Rattle.kb_base.specs.declared.fault.DeviceFault.TheVariants.{NoMemory}
use Rattle.kdc_frames.specs.Moves.{Moves}
use Rattle.kdc_frames.specs.Pieces.{ReadsBody}
use Rattle.kdc_frames.specs.declared.frame.Frame.TheVariants.{Next}
use Rattle.kdc_frames.specs.declared.frame.Request.TheVariants.{TooLong, Whole}
use Rattle.kdc_frames.proofs.Doors.{moves_none}
use Rattle.kdc_frames.proofs.Steps.{body_is_empty, body_is_long, body_wants_memory}
use Rattle.kdc_frames.proofs.read.read_body.Goals as goal

pub returns-then-said-gt-LONGEST-clause-frame : goal.returns-then-said-gt-LONGEST-clause-frame
returns-then-said-gt-LONGEST-clause-frame g c =
    moves_none (ReadsBody c.args.said (Ok (Next TooLong))) (body_is_long c.args.said (omega arith)) (g.L.Door.callers c.args.door.now)

pub returns-then-said-eq0-clause-frame : goal.returns-then-said-eq0-clause-frame
returns-then-said-eq0-clause-frame g c =
    rw (c.if-said-eq0.true, c.new.ensures) (moves_none (ReadsBody 0 (Ok (Next (Whole [])))) body_is_empty (g.L.Door.callers c.args.door.now))

pub returns-in_err-body-clause-frame : goal.returns-in_err-body-clause-frame
returns-in_err-body-clause-frame g c =
    let p = err_from_is_err_and c.from_residual.result c.from_residual.ensures.1 in
    rw (p.1, p.2) (moves_none (ReadsBody c.args.said (Err NoMemory)) (body_wants_memory c.args.said (omega arith) (omega arith)) (g.L.Door.callers c.args.door.now))
