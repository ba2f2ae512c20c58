-- What is told of a header that is read step by step.
use Rattle.std.proofs.Common.{◌≡◌, ◌≢◌, ◌∙◌, ℕ, List, Option, Some, Result, Ok, Err, sym, subst, ap}
use Rattle.std.specs.Prelude.{IsErr, IsErrAnd}
use Rattle.kdc_prelude.specs.Answers.{Answers, or_fault}
use Rattle.kdc_prelude.specs.Results.{◌>>=◌}
use Rattle.krb_messages.specs.declared.ap_req.ApReq.{ApReq}
use Rattle.krb_messages.specs.declared.authenticator.Authenticator.{Authenticator}
use Rattle.krb_messages.specs.declared.kdc_req.KdcReq.{KdcReq}
use Rattle.kdc_records.specs.declared.rule.Rule.{Rule}
use Rattle.kdc_records.specs.declared.rule.Rule.TheVariants.{G1}
use Rattle.dir_records.specs.DirectoryValue.{DirectoryValue}
use Rattle.ticket_codec.specs.declared.fault.ShowFault.{ShowFault}
use Rattle.ticket_codec.specs.declared.fault.ShowFault.TheVariants.{Deny, NoMemory}
use Rattle.ticket_codec.specs.declared.opening.Opened.{Opened}
use Rattle.ticket_codec.specs.declared.presenting.Certified.{Certified}
use Rattle.ticket_codec.specs.declared.role.Role.TheVariants.{Header as AsHeader}
use Rattle.ticket_codec.specs.Denied.{denied}
use Rattle.ticket_codec.specs.Opening.{unsealed}
use Rattle.ticket_codec.specs.Presented.{certified}
use Rattle.tgs_requests.specs.declared.header.Header.{Header}
use Rattle.tgs_requests.specs.Headers.{ap_req_of, header_with}
use Rattle.tgs_requests.specs.HeaderSteps.{authenticated, header_read}
use Rattle.tgs_requests.proofs.FirstHeader.{after_opening, not_denied}

-- a fault of a step is that of the reading
pub carried : (result : Result Header ShowFault) (fault : ShowFault) (reading : Result Header ShowFault) → IsErr result × IsErrAnd result (λ told. told ≡ fault)
    → (fault ≢ NoMemory → reading ≡ Err fault) → Answers NoMemory result reading
carried (Ok header) fault reading h denies = absurd h.1
carried (Err told) fault reading h denies = subst (λ (f : ShowFault). f ≢ NoMemory → reading ≡ Err f) (sym h.1) denies

-- want of memory is free
pub wanted : (result reading : Result Header ShowFault) → IsErr result × IsErrAnd result (λ told. told ≡ NoMemory) → Answers NoMemory result reading
wanted result reading h = carried result NoMemory reading h (λ other. absurd (other (λ i. NoMemory)))

-- a step that is denied ends the reading
ended : {X Y : Type 0} (r : Result X Rule) (next : X → Result Y Rule) (fault : ShowFault) → denied r ≡ Err fault → denied (r >>= next) ≡ Err fault
ended (Ok x) next fault h = absurd (cc)
ended {X} {Y} (Err rule) next fault h =
    let same : Deny rule ≡ fault = cc in
    ap (λ (f : ShowFault). let told : Result Y ShowFault = Err f in told) same

-- ---- of a request whose AP-REQ reads

with_ap_req : (dir : DirectoryValue) (at : ℕ) (message : KdcReq) (ap_req : ApReq) → ap_req_of message ≡ Some ap_req
    → header_read dir at message ≡ after_opening dir at message.body_bytes ap_req (unsealed dir at AsHeader ap_req.ticket)
unfolding header_read
with_ap_req dir at message ap_req h = ap (λ (found : Option ApReq). or_fault G1 found >>= λ x. after_opening dir at message.body_bytes x (unsealed dir at AsHeader x.ticket)) h

pub ticket_denied : (dir : DirectoryValue) (at : ℕ) (message : KdcReq) (ap_req : ApReq) (fault : ShowFault) → ap_req_of message ≡ Some ap_req
    → (fault ≢ NoMemory → denied (unsealed dir at AsHeader ap_req.ticket) ≡ Err fault) → fault ≢ NoMemory → denied (header_read dir at message) ≡ Err fault
ticket_denied dir at message ap_req fault read told other =
    let next = λ (opened : Opened). authenticated message.body_bytes opened.part ap_req.authenticator >>= λ auth. let found : Result Header Rule = Ok (header_with dir at opened auth) in found in
    ap denied (with_ap_req dir at message ap_req read) ∙ ended (unsealed dir at AsHeader ap_req.ticket) next fault (told other)

-- ---- of one whose ticket opens

with_opened : (dir : DirectoryValue) (at : ℕ) (message : KdcReq) (ap_req : ApReq) (opened : Opened) → ap_req_of message ≡ Some ap_req → denied (unsealed dir at AsHeader ap_req.ticket) ≡ Ok opened
    → header_read dir at message ≡ (authenticated message.body_bytes opened.part ap_req.authenticator >>= λ auth. Ok (header_with dir at opened auth))
with_opened dir at message ap_req opened read opens =
    with_ap_req dir at message ap_req read
    ∙ ap (after_opening dir at message.body_bytes ap_req) (not_denied (unsealed dir at AsHeader ap_req.ticket) opened opens)

pub auth_denied : (dir : DirectoryValue) (at : ℕ) (message : KdcReq) (ap_req : ApReq) (opened : Opened) (body : List ℕ) (fault : ShowFault) → ap_req_of message ≡ Some ap_req
    → denied (unsealed dir at AsHeader ap_req.ticket) ≡ Ok opened → body ≡ message.body_bytes
    → (fault ≢ NoMemory → denied (authenticated body opened.part ap_req.authenticator) ≡ Err fault) → fault ≢ NoMemory → denied (header_read dir at message) ≡ Err fault
auth_denied dir at message ap_req opened body fault read opens same told other =
    let next = λ (auth : Authenticator). let found : Result Header Rule = Ok (header_with dir at opened auth) in found in
    let own = subst (λ (bytes : List ℕ). denied (authenticated bytes opened.part ap_req.authenticator) ≡ Err fault) same (told other) in
    ap denied (with_opened dir at message ap_req opened read opens) ∙ ended (authenticated message.body_bytes opened.part ap_req.authenticator) next fault own

pub header_told : (dir : DirectoryValue) (at : ℕ) (message : KdcReq) (ap_req : ApReq) (opened : Opened) (auth : Authenticator) (body : List ℕ) (shown : Option Certified) → ap_req_of message ≡ Some ap_req
    → denied (unsealed dir at AsHeader ap_req.ticket) ≡ Ok opened → body ≡ message.body_bytes → denied (authenticated body opened.part ap_req.authenticator) ≡ Ok auth → shown ≡ certified dir at opened
    → denied (header_read dir at message) ≡ Ok (record { opened = opened; auth = auth; certified = shown })
header_told dir at message ap_req opened auth body shown read opens same told certifies =
    let next = λ (a : Authenticator). let found : Result Header Rule = Ok (header_with dir at opened a) in found in
    let own = subst (λ (bytes : List ℕ). authenticated bytes opened.part ap_req.authenticator ≡ Ok auth) same (not_denied (authenticated body opened.part ap_req.authenticator) auth told) in
    ap denied (with_opened dir at message ap_req opened read opens ∙ ap (λ (r : Result Authenticator Rule). r >>= next) own)
    ∙ ap (λ (c : Option Certified). let found : Result Header ShowFault = Ok (record { opened = opened; auth = auth; certified = c }) in found) (sym certifies)
