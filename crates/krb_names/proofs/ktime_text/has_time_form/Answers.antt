use Rattle.std.proofs.Common.{arith}
use Rattle.std.proofs.lemmas.Grind.{common_steps}
use Rattle.krb_names.proofs.Times.{digits_found}
use Rattle.krb_names.proofs.ktime_text.has_time_form.Goals as goal
use Rattle.krb_names.proofs.ktime_text.has_time_form.Goals.{then-text-eq15, else-text-eq15}

pub returns-then-are_digits-clause-found : goal.returns-then-are_digits-clause-found
returns-then-are_digits-clause-found c =
    let text = c.args.text.now in
    elim c.if-text-eq15.branch [
      | then-text-eq15 w ↦ λ _. digits_found text (omega arith) (grind (arith, common_steps, w.are_digits.ensures, w.value-is))
      | else-text-eq15 w ↦ λ _. absurd (grind (arith, w.value-is, c.if-are_digits.true, w.if-text-eq15))
    ]
