-- The error of a rule reads as it is spelt, and denies.
use Rattle.std.proofs.Common.{◌≡◌, ◌∙◌, ℕ, List, Option, None, Some, Ok, Err, refl, ap, arith}
use Rattle.std.specs.Prelude.{[], IfSome, unwrap_or}
use Rattle.der_core.specs.Codec.{whole}
use Rattle.der_core.specs.Laws.{IsBytes}
use Rattle.der_forms.proofs.Readings.{is_again}
use Rattle.krb_names.specs.declared.moment.Moment.{Moment}
use Rattle.krb_messages.specs.declared.kdc_req.KdcReq.{KdcReq}
use Rattle.krb_messages.specs.declared.krb_error.KrbError.{KrbError}
use Rattle.krb_messages.specs.KrbError.{krb_error}
use Rattle.krb_messages.specs.Laws.{krb_error_lawful}
use Rattle.kdc_records.specs.declared.rule.Rule.{Rule}
use Rattle.kdc_records.specs.RuleCodes.{code_of}
use Rattle.kdc_records.specs.RuleNames.{name_of}
use Rattle.dir_records.specs.DirectoryValue.{DirectoryValue}
use Rattle.dir_records.specs.IsDirectory.{IsDirectory}
use Rattle.s4u_client.specs.declared.cred.Pending.{Pending}
use Rattle.s4u_client.specs.declared.fault.FinishFault.TheVariants.{Denied}
use Rattle.s4u_client.specs.Finishing.{finished}
use Rattle.tgs_core.specs.Answers.{answered_to, bytes_for}
use Rattle.tgs_core.specs.Errors.{error_bytes, error_of}
use Rattle.tgs_core.specs.Received.{IsReceived}
use Rattle.tgs_core.specs.Requests.{message_in}
use Rattle.tgs_core.specs.Verdicts.{verdict}
use Rattle.tgs_core.proofs.ReceivedRequests.{message_is_received}
use Rattle.tgs_core.proofs.WrittenErrors.{written_error_fits, written_error_short}
use Rattle.ends_laws.specs.Ends.{DenialsReach}

-- ---- the client

-- bytes that read as a KRB-ERROR deny
error_denies : (pending : Pending) (bytes : List ℕ) (error : KrbError) → whole krb_error bytes ≡ Ok error
    → finished pending bytes ≡ Err (Denied error.error_code (unwrap_or error.e_text []))
unfolding finished
error_denies pending bytes error e = rw e refl

-- ---- the KDC

code_is : (dir : DirectoryValue) (now : Moment) (message : Option KdcReq) (rule : Rule) → (error_of dir now message rule).error_code ≡ code_of rule
unfolding error_of
code_is dir now message rule = refl

text_is : (dir : DirectoryValue) (now : Moment) (message : Option KdcReq) (rule : Rule) → (error_of dir now message rule).e_text ≡ Some (name_of rule)
unfolding error_of
text_is dir now message rule = refl

received_by : (bytes : List ℕ) (message : Option KdcReq) → IsBytes bytes → message_in bytes ≡ message → IfSome message IsReceived
received_by bytes None octets e = tt
received_by bytes (Some message) octets e = message_is_received bytes message octets e

error_reads : (dir : DirectoryValue) (now : Moment) (message : Option KdcReq) (rule : Rule) → IsDirectory dir → IfSome message IsReceived
    → whole krb_error (error_bytes dir now message rule) ≡ Ok (error_of dir now message rule)
error_reads dir now message rule h received =
    let few = written_error_short dir now message rule h received in
    is_again krb_error krb_error_lawful (error_of dir now message rule) (written_error_fits dir now message rule h received) (omega (arith, few))

reply_denied : (dir : DirectoryValue) (now : Moment) (block bytes : List ℕ) (rule : Rule) → verdict dir now bytes ≡ Some rule
    → (answered_to dir now block bytes).reply ≡ error_bytes dir now (message_in bytes) rule
unfolding answered_to
reply_denied dir now block bytes rule e = ap (bytes_for dir now block bytes) e

-- ---- both

pub denials_reach : DenialsReach
denials_reach dir now block bytes rule pending h octets e =
    let message : Option KdcReq = message_in bytes in
    let reads = error_reads dir now message rule h (received_by bytes message octets refl) in
    ap (finished pending) (reply_denied dir now block bytes rule e)
    ∙ error_denies pending (error_bytes dir now message rule) (error_of dir now message rule) reads
    ∙ (λ i. Err (Denied (code_is dir now message rule i) (unwrap_or (text_is dir now message rule i) [])))
