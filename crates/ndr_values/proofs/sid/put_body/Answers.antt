use Rattle.std.proofs.Common.{ℕ, List, length, subst}
use Rattle.std.specs.Int.{w32}
use Rattle.ndr_core.specs.Fields.{number}
use Rattle.ndr_core.specs.Arrays.{repeated}
use Rattle.ndr_values.proofs.SidLaws.{on_ok, sid_body_fits}
use Rattle.ndr_values.proofs.sid.put_body.Goals as goal

pub returns-clause-fits : goal.returns-clause-fits
returns-clause-fits c =
    let fits = subst (λ (l : List ℕ). (repeated (length l) (number w32)).Fits l) c.numbers.ensures.value c.put_numbers.ensures.fits in
    on_ok c.put_numbers.result (sid_body_fits c.args.sid.now c.authority.ensures.low fits)
