-- How a request is judged by itself, and then by its branch.
use Rattle.std.proofs.Common.{◌≡◌, ◌∙◌, ℕ, ◌<◌, ◌≤◌, Bool, true, false, List, ◌∷◌, drop, length, Option, Some, None, Ok, Err, ◌≢◌, refl, sym, ap, arith}
use Rattle.std.specs.Prelude.{is_some, if◌then◌else◌, option_map}
use Rattle.std.proofs.lemmas.Bool.Decides.{nat_tests}
use Rattle.kdc_prelude.proofs.Verdicts.{failing_append, neither, passes}
use Rattle.kdc_prelude.specs.Options.{holds_of}
use Rattle.kdc_prelude.specs.Steps.{◌>>=◌}
use Rattle.kdc_prelude.specs.Verdicts.{first_failing, ◌or_else◌}
use Rattle.krb_names.specs.declared.moment.Moment.{Moment}
use Rattle.der_core.specs.Codec.{whole}
use Rattle.krb_tickets.specs.declared.fault.Malformed.{Malformed}
use Rattle.krb_tickets.specs.declared.fault.TicketFault.TheVariants as faults
use Rattle.krb_tickets.specs.Told.{told}
use Rattle.krb_messages.specs.declared.kdc_req.KdcReq.{KdcReq}
use Rattle.krb_messages.specs.KdcReq.{kdc_req}
use Rattle.kdc_records.specs.declared.decision.Decision.TheVariants.{Grant, Deny}
use Rattle.kdc_records.specs.declared.decision.Terms.{Terms}
use Rattle.kdc_records.specs.declared.rule.Rule.{Rule}
use Rattle.kdc_records.specs.declared.rule.Rule.TheVariants.{U1, U2, U3, U4, U5}
use Rattle.kdc_records.specs.declared.wish.Branch.{Branch}
use Rattle.kdc_records.specs.declared.wish.Branch.TheVariants.{Initial}
use Rattle.kdc_records.specs.Decisions.{decided, is_grant}
use Rattle.dir_records.specs.DirectoryValue.{DirectoryValue}
use Rattle.dir_core.specs.Lookups.{realm_named}
use Rattle.as_core.specs.AsRequests.{as_ask}
use Rattle.as_core.specs.AsRules.{AsGrants, as_decision, as_rules, as_terms}
use Rattle.as_core.proofs.Grants.{granted}
use Rattle.as_core.proofs.Told.{told_refused, told_whole}
use Rattle.tgs_requests.specs.Askings.{branch_of}
use Rattle.tgs_core.specs.declared.answered.Answered.{Answered}
use Rattle.tgs_core.specs.Answers.{answered_by, answered_long, answered_to, noted_branch}
use Rattle.tgs_core.specs.Errors.{error_bytes}
use Rattle.tgs_core.specs.Grants.{grant_in, grant_of}
use Rattle.tgs_core.specs.Replies.{reply_bytes}
use Rattle.tgs_core.specs.Requests.{Request, is_tagged, is_version_5, is_within_limit, message_in, message_told, opening_rules, realm_is_known, request_in, request_of, request_to}
use Rattle.tgs_core.specs.Verdicts.{OpeningGrants, rules_of_branch, rules_of_request, verdict}

-- ---- tables

failing_first : {R : Type 0} (rule : R) (b : Bool) (rows : List (R × Bool)) → b ≡ false → first_failing ((rule, b) ∷ rows) ≡ Some rule
failing_first rule true rows e = absurd (cc)
failing_first rule false rows e = refl

-- ---- the message that bytes are

pub read_told : (bytes : List ℕ) (message : KdcReq) → is_within_limit bytes ≡ true → told (whole kdc_req bytes) ≡ Ok message → Some message ≡ message_in bytes
unfolding message_in
read_told bytes message within h =
    let test = ap (λ (b : Bool). if b then message_told (whole kdc_req bytes) else None) within in
    sym (test ∙ ap message_told (told_whole (whole kdc_req bytes) message h))

pub refused_told : (bytes : List ℕ) (fault : Malformed) → is_within_limit bytes ≡ true
    → (faults.Malformed fault ≢ faults.NoMemory → told (whole kdc_req bytes) ≡ Err (faults.Malformed fault)) → None ≡ message_in bytes
unfolding message_in
refused_told bytes fault within h =
    let test = ap (λ (b : Bool). if b then message_told (whole kdc_req bytes) else None) within in
    sym (test ∙ ap message_told (told_refused (whole kdc_req bytes) fault h).is)

-- ---- the verdict

pub verdict_denied : (dir : DirectoryValue) (now : Moment) (bytes : List ℕ) (rule : Rule) → first_failing (opening_rules dir bytes) ≡ Some rule → verdict dir now bytes ≡ Some rule
unfolding verdict
verdict_denied dir now bytes rule h =
    let later = first_failing (rules_of_request dir now (request_in dir bytes)) in
    failing_append (opening_rules dir bytes) (rules_of_request dir now (request_in dir bytes)) ∙ ap (λ (f : Option Rule). f or_else later) h

verdict_opened : (dir : DirectoryValue) (now : Moment) (bytes : List ℕ) → first_failing (opening_rules dir bytes) ≡ None
    → verdict dir now bytes ≡ first_failing (rules_of_request dir now (request_in dir bytes))
unfolding verdict
verdict_opened dir now bytes h =
    let later = first_failing (rules_of_request dir now (request_in dir bytes)) in
    failing_append (opening_rules dir bytes) (rules_of_request dir now (request_in dir bytes)) ∙ ap (λ (f : Option Rule). f or_else later) h

-- what was read, and is asked of the realm at an index, in a branch
pub record IsOpened (dir : DirectoryValue) (bytes : List ℕ) (message : KdcReq) (realm : ℕ) (branch : Branch) : Type 0 where
  pub read : message_in bytes ≡ Some message
  pub found : realm_named dir message.req_body.realm ≡ Some realm
  pub asked : branch_of message ≡ branch

request_is : (dir : DirectoryValue) (bytes : List ℕ) (message : KdcReq) (realm : ℕ) (branch : Branch) → IsOpened dir bytes message realm branch
    → request_in dir bytes ≡ Some (request_to message realm)
unfolding request_in
request_is dir bytes message realm branch h =
    ap (λ (m : Option KdcReq). m >>= request_of dir) h.read ∙ ap (option_map (request_to message)) h.found

pub branch_verdict : (dir : DirectoryValue) (now : Moment) (bytes : List ℕ) (message : KdcReq) (realm : ℕ) (branch : Branch) → first_failing (opening_rules dir bytes) ≡ None
    → IsOpened dir bytes message realm branch → verdict dir now bytes ≡ first_failing (rules_of_branch dir now (request_to message realm) branch)
branch_verdict dir now bytes message realm branch opens h =
    let request = request_to message realm in
    verdict_opened dir now bytes opens
    ∙ ap (λ (r : Option Request). first_failing (rules_of_request dir now r)) (request_is dir bytes message realm branch h)
    ∙ ap (λ (b : Branch). first_failing (rules_of_branch dir now request b)) h.asked

pub decided_deny : (failing : Option Rule) (terms : Terms) (rule : Rule) → decided failing terms ≡ Deny rule → failing ≡ Some rule
decided_deny None terms rule h = absurd (cc)
decided_deny (Some other) terms rule h = cc

pub decided_grant : (failing : Option Rule) (terms granted : Terms) → decided failing terms ≡ Grant granted → (failing ≡ None) × (granted ≡ terms)
decided_grant None terms granted h = (refl, cc)
decided_grant (Some other) terms granted h = absurd (cc)

pub as_denied : (dir : DirectoryValue) (now : Moment) (bytes : List ℕ) (message : KdcReq) (realm : ℕ) (rule : Rule) → first_failing (opening_rules dir bytes) ≡ None
    → IsOpened dir bytes message realm Initial → Deny rule ≡ as_decision (as_ask dir realm now message) → verdict dir now bytes ≡ Some rule
as_denied dir now bytes message realm rule opens h e =
    let ask = as_ask dir realm now message in
    branch_verdict dir now bytes message realm Initial opens h ∙ decided_deny (first_failing (as_rules ask)) (as_terms ask) rule (sym e)

pub as_granted : (dir : DirectoryValue) (now : Moment) (bytes : List ℕ) (message : KdcReq) (realm : ℕ) (terms : Terms) → first_failing (opening_rules dir bytes) ≡ None
    → IsOpened dir bytes message realm Initial → Grant terms ≡ as_decision (as_ask dir realm now message)
    → (verdict dir now bytes ≡ None) × (terms ≡ as_terms (as_ask dir realm now message))
as_granted dir now bytes message realm terms opens h e =
    let ask = as_ask dir realm now message in
    let both = decided_grant (first_failing (as_rules ask)) (as_terms ask) terms (sym e) in
    (branch_verdict dir now bytes message realm Initial opens h ∙ both.0, both.1)

-- ---- the answer

abbrev pub told_of : List ℕ → Option Branch → Option Rule → Answered
told_of reply branch rule = record { reply = reply; note = record { branch = branch; rule = rule } }

abbrev pub denial : DirectoryValue → Moment → Option KdcReq → Rule → Answered
denial dir now message rule = told_of (error_bytes dir now message rule) (noted_branch (Some rule) message) (Some rule)

pub answered_denied : (dir : DirectoryValue) (now : Moment) (block bytes : List ℕ) (message : Option KdcReq) (rule : Rule) → message ≡ message_in bytes → verdict dir now bytes ≡ Some rule
    → denial dir now message rule ≡ answered_to dir now block bytes
unfolding answered_to
answered_denied dir now block bytes message rule read h =
    ap (λ (m : Option KdcReq). denial dir now m rule) read ∙ ap (answered_by dir now block bytes) (sym h)

abbrev pub grant_answer : DirectoryValue → Moment → List ℕ → Request → Branch → Answered
grant_answer dir now block request branch = told_of (reply_bytes (grant_of dir now request) block) (Some branch) None

pub answered_granted : (dir : DirectoryValue) (now : Moment) (block bytes : List ℕ) (message : KdcReq) (realm : ℕ) (branch : Branch) → IsOpened dir bytes message realm branch
    → verdict dir now bytes ≡ None → grant_answer dir now block (request_to message realm) branch ≡ answered_to dir now block bytes
unfolding answered_to grant_in
answered_granted dir now block bytes message realm branch h e =
    let asked : Some branch ≡ option_map branch_of (message_in bytes) = sym (ap (option_map branch_of) h.read ∙ ap Some h.asked) in
    let granted : grant_of dir now (request_to message realm) ≡ grant_in dir now bytes = sym (ap (λ (r : Option Request). r >>= grant_of dir now) (request_is dir bytes message realm branch h)) in
    let made : grant_answer dir now block (request_to message realm) branch ≡ answered_by dir now block bytes None =
    λ i. record { reply = reply_bytes (granted i) block; note = record { branch = asked i; rule = None } } in
    made ∙ ap (answered_by dir now block bytes) (sym e)

-- ---- what a verdict tells

pub opening_known : (dir : DirectoryValue) (now : Moment) (bytes : List ℕ) → verdict dir now bytes ≡ None → OpeningGrants dir bytes
unfolding verdict
opening_known dir now bytes h =
    let rows = opening_rules dir bytes in
    let later = rules_of_request dir now (request_in dir bytes) in
    let u0 = (neither (first_failing rows) (first_failing later) (sym (failing_append rows later) ∙ h)).0 in
    let u1 = passes U1 (is_within_limit bytes) (drop 1 rows) u0 in
    let u2 = passes U2 (is_tagged bytes) (drop 2 rows) u1.1 in
    let u3 = passes U3 (is_some (message_in bytes)) (drop 3 rows) u2.1 in
    let u4 = passes U4 (holds_of is_version_5 (message_in bytes)) (drop 4 rows) u3.1 in
    let u5 = passes U5 (holds_of (realm_is_known dir) (message_in bytes)) (drop 5 rows) u4.1 in
    record { within = u1.0; tagged = u2.0; read = u3.0; version = u4.0; known = u5.0 }

-- none of the rules of its branch denies it
pub branch_known : (dir : DirectoryValue) (now : Moment) (bytes : List ℕ) (request : Request) (branch : Branch) → verdict dir now bytes ≡ None → request_in dir bytes ≡ Some request
    → branch_of request.message ≡ branch → first_failing (rules_of_branch dir now request branch) ≡ None
unfolding verdict
branch_known dir now bytes request branch h e asked =
    let rows = opening_rules dir bytes in
    let later = rules_of_request dir now (request_in dir bytes) in
    let none = (neither (first_failing rows) (first_failing later) (sym (failing_append rows later) ∙ h)).1 in
    let of_request : first_failing (rules_of_request dir now (Some request)) ≡ None = sym (ap (λ (r : Option Request). first_failing (rules_of_request dir now r)) e) ∙ none in
    sym (ap (λ (b : Branch). first_failing (rules_of_branch dir now request b)) asked) ∙ of_request

pub initial_known : (dir : DirectoryValue) (now : Moment) (bytes : List ℕ) (request : Request) → verdict dir now bytes ≡ None → request_in dir bytes ≡ Some request
    → branch_of request.message ≡ Initial → AsGrants (as_ask dir request.realm now request.message)
initial_known dir now bytes request h e asked =
    let ask = as_ask dir request.realm now request.message in
    granted ask (ap (λ (f : Option Rule). is_grant (decided f (as_terms ask))) (branch_known dir now bytes request Initial h e asked))

-- ---- a request that is too long

not_within : (bytes : List ℕ) → 131072 < length bytes → is_within_limit bytes ≡ false
not_within bytes h = by_test (is_within_limit bytes) refl
  where
    by_test : (t : Bool) → is_within_limit bytes ≡ t → is_within_limit bytes ≡ false
    by_test true e = let le : length bytes ≤ 131072 = grind (arith, nat_tests) in absurd (omega arith)
    by_test false e = e

pub not_read : (bytes : List ℕ) → is_within_limit bytes ≡ false → None ≡ message_in bytes
unfolding message_in
not_read bytes e = sym (ap (λ (b : Bool). if b then message_told (whole kdc_req bytes) else None) e)

pub answered_too_long : (dir : DirectoryValue) (now : Moment) (block bytes : List ℕ) → 131072 < length bytes → answered_to dir now block bytes ≡ answered_long dir now
unfolding answered_long
answered_too_long dir now block bytes h =
    let e = not_within bytes h in
    let first = verdict_denied dir now bytes U1 (failing_first U1 (is_within_limit bytes) (drop 1 (opening_rules dir bytes)) e) in
    sym (answered_denied dir now block bytes None U1 (not_read bytes e) first)
