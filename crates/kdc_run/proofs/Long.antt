-- A request that is too long.
use Rattle.std.proofs.Common.{◌≡◌, ◌∙◌, ℕ, ◌<◌, List, length, replicate, sym, ap, arith}
use Rattle.std.specs.Prelude.{Result, Ok, Err, IfOk}
use Rattle.std.proofs.lemmas.List.{length-replicate}
use Rattle.dir_records.specs.DirectoryValue.{DirectoryValue}
use Rattle.krb_names.specs.declared.moment.Moment.{Moment}
use Rattle.kdc_frames.specs.Requests.{long_request, request_bytes}
use Rattle.kdc_frames.specs.declared.frame.Request.{Request}
use Rattle.kdc_frames.specs.declared.frame.Request.TheVariants.{TooLong}
use Rattle.tgs_core.specs.Answers.{answered_long, answered_to}
use Rattle.tgs_core.specs.declared.answered.Answered.{Answered}

over : (n : ℕ) → n ≡ 131073 → 131072 < n
over n e = omega (arith, e)

long_is_over : 131072 < length long_request
unfolding long_request
long_is_over = let octet : ℕ = 0 in over (length (replicate 131073 octet)) (length-replicate 131073 octet)

pub long_answer : {E : Type 0} (dir : DirectoryValue) (now : Moment) (random : List ℕ) (request : Request) → request ≡ TooLong
    → ((block bytes : List ℕ) → 131072 < length bytes → answered_to dir now block bytes ≡ answered_long dir now)
    → (result : Result Answered E) → IfOk result (λ made. made ≡ answered_long dir now) → IfOk result (λ made. made ≡ answered_to dir now random (request_bytes request))
long_answer dir now random request e same (Ok made) exact =
    exact ∙ sym (same random long_request long_is_over) ∙ ap (λ r. answered_to dir now random (request_bytes r)) (sym e)
long_answer dir now random request e same (Err fault) exact = tt
