-- A reply is judged step by step.
use Rattle.std.proofs.Common.{◌≡◌, ◌≢◌, ◌∙◌, ℕ, List, Option, Result, Ok, Err, sym, subst, ap}
use Rattle.std.specs.Prelude.{IsErr, IsErrAnd}
use Rattle.kdc_prelude.specs.Answers.{Answers}
use Rattle.kdc_prelude.specs.Results.{◌>>=◌}
use Rattle.kdc_prelude.specs.Verdicts.{first_failing}
use Rattle.der_core.specs.Codec.{whole}
use Rattle.krb_messages.specs.declared.enc_kdc_rep.EncKdcRep.{EncKdcRep}
use Rattle.krb_messages.specs.declared.kdc_rep.KdcRep.{KdcRep}
use Rattle.krb_messages.specs.KrbError.{krb_error}
use Rattle.s4u_client.specs.declared.cred.Cred.{Cred}
use Rattle.s4u_client.specs.declared.cred.Pending.{Pending}
use Rattle.s4u_client.specs.declared.fault.FinishFault.{FinishFault}
use Rattle.s4u_client.specs.declared.fault.FinishFault.TheVariants.{NoMemory}
use Rattle.s4u_client.specs.Finishing.{awaits_as, comparisons, cred_of, finished, not_denied, part_of, reply_in, unless_differing}

-- a fault of a step is that of the whole, where want of memory is free
pub carried : (result : Result Cred FinishFault) (fault : FinishFault) (reading : Result Cred FinishFault) → IsErr result × IsErrAnd result (λ told. told ≡ fault)
    → (fault ≢ NoMemory → reading ≡ Err fault) → Answers NoMemory result reading
carried (Ok cred) fault reading h fails = absurd h.1
carried (Err told) fault reading h fails = subst (λ (f : FinishFault). f ≢ NoMemory → reading ≡ Err f) (sym h.1) fails

-- ---- what is left to do

abbrev judged : Pending → KdcRep → EncKdcRep → Result Cred FinishFault
judged pending reply part = unless_differing (first_failing (comparisons pending reply part)) (cred_of reply part)

abbrev of_reply : Pending → KdcRep → Result Cred FinishFault
of_reply pending reply = part_of pending reply >>= judged pending reply

abbrev of_bytes : Pending → List ℕ → Result Cred FinishFault
of_bytes pending bytes = reply_in (awaits_as pending) bytes >>= of_reply pending

-- ---- each step

pub denied : (pending : Pending) (bytes : List ℕ) (fault : FinishFault) → not_denied (whole krb_error bytes) ≡ Err fault → finished pending bytes ≡ Err fault
unfolding finished
denied pending bytes fault e = ap (λ (r : Result (Unit {0}) FinishFault). r >>= λ _. of_bytes pending bytes) e

undenied : (pending : Pending) (bytes : List ℕ) (done : Unit {0}) → not_denied (whole krb_error bytes) ≡ Ok done → finished pending bytes ≡ of_bytes pending bytes
unfolding finished
undenied pending bytes done e = ap (λ (r : Result (Unit {0}) FinishFault). r >>= λ _. of_bytes pending bytes) e

pub unread : (pending : Pending) (bytes : List ℕ) (done : Unit {0}) (fault : FinishFault) → not_denied (whole krb_error bytes) ≡ Ok done
    → reply_in (awaits_as pending) bytes ≡ Err fault → finished pending bytes ≡ Err fault
unread pending bytes done fault a e = undenied pending bytes done a ∙ ap (λ (r : Result KdcRep FinishFault). r >>= of_reply pending) e

read : (pending : Pending) (bytes : List ℕ) (done : Unit {0}) (reply : KdcRep) → not_denied (whole krb_error bytes) ≡ Ok done
    → reply_in (awaits_as pending) bytes ≡ Ok reply → finished pending bytes ≡ of_reply pending reply
read pending bytes done reply a e = undenied pending bytes done a ∙ ap (λ (r : Result KdcRep FinishFault). r >>= of_reply pending) e

pub unopened : (pending : Pending) (bytes : List ℕ) (done : Unit {0}) (reply : KdcRep) (fault : FinishFault) → not_denied (whole krb_error bytes) ≡ Ok done
    → reply_in (awaits_as pending) bytes ≡ Ok reply → part_of pending reply ≡ Err fault → finished pending bytes ≡ Err fault
unopened pending bytes done reply fault a b e = read pending bytes done reply a b ∙ ap (λ (r : Result EncKdcRep FinishFault). r >>= judged pending reply) e

pub judges : (pending : Pending) (bytes : List ℕ) (done : Unit {0}) (reply : KdcRep) (part : EncKdcRep) (differing : Option FinishFault) → not_denied (whole krb_error bytes) ≡ Ok done
    → reply_in (awaits_as pending) bytes ≡ Ok reply → part_of pending reply ≡ Ok part → first_failing (comparisons pending reply part) ≡ differing
    → finished pending bytes ≡ unless_differing differing (cred_of reply part)
judges pending bytes done reply part differing a b d e =
    read pending bytes done reply a b ∙ ap (λ (r : Result EncKdcRep FinishFault). r >>= judged pending reply) d
    ∙ ap (λ (f : Option FinishFault). unless_differing f (cred_of reply part)) e
