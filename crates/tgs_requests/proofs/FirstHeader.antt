-- The rule that is told of a header is the first that fails.
use Rattle.std.proofs.Common.{◌≡◌, ℕ, ◌++◌, ◌∙◌, Bool, true, false, List, [], ◌∷◌, Option, Some, None, Result, Ok, Err, refl, sym, ap}
use Rattle.std.specs.Prelude.{IfErr, IfOk, is_some, option_and_then, option_map}
use Rattle.kdc_prelude.specs.Answers.{Answers, or_fault}
use Rattle.kdc_prelude.specs.Options.{holds_of}
use Rattle.kdc_prelude.specs.Results.{◌>>=◌}
use Rattle.kdc_prelude.specs.Verdicts.{first_failing}
use Rattle.krb_tickets.specs.declared.enc_ticket_part.EncTicketPart.{EncTicketPart}
use Rattle.krb_tickets.specs.declared.ticket.Ticket.{Ticket}
use Rattle.krb_messages.specs.declared.ap_req.ApReq.{ApReq}
use Rattle.krb_messages.specs.declared.authenticator.Authenticator.{Authenticator}
use Rattle.krb_messages.specs.declared.kdc_req.KdcReq.{KdcReq}
use Rattle.kdc_records.specs.declared.rule.Rule.{Rule}
use Rattle.kdc_records.specs.declared.rule.Rule.TheVariants.{G1, G2, G3, G4, G5, G6, G7, G8}
use Rattle.dir_records.specs.DirectoryValue.{DirectoryValue}
use Rattle.ticket_codec.specs.declared.fault.ShowFault.{ShowFault}
use Rattle.ticket_codec.specs.declared.fault.ShowFault.TheVariants.{Deny, NoMemory}
use Rattle.ticket_codec.specs.declared.opening.Opened.{Opened}
use Rattle.ticket_codec.specs.declared.role.Role.TheVariants.{Header as AsHeader}
use Rattle.ticket_codec.specs.Denied.{denied}
use Rattle.ticket_codec.specs.Opening.{opened_with, unsealed}
use Rattle.ticket_codec.specs.Rules.{header_is_for_this_realm, header_key_fits, header_opens, opening_rules, refusal_of}
use Rattle.ticket_codec.proofs.FirstRules.{first_unsealed}
use Rattle.ticket_codec.proofs.Steps.{Opens, unsealed_opens}
use Rattle.tgs_requests.specs.declared.header.Header.{Header}
use Rattle.tgs_requests.specs.Headers.{ap_req_of, authenticator_in, body_is_covered, client_is_the_tickets, header_by, header_in, header_of, header_with, of_header, reading_rules, sum_is_keyed, ticket_opened}
use Rattle.tgs_requests.specs.HeaderSteps.{auth_rules, authenticated, header_read, IsDenial, unless_denied}

-- ---- the authenticator

denied_by : {X Y : Type 0} (rule : Option Rule) (x : X) (make : X → Y) → refusal_of (unless_denied rule x >>= λ y. Ok (make y)) ≡ rule
denied_by None x make = refl
denied_by (Some rule) x make = refl

given_by : {X Y : Type 0} (rule : Option Rule) (x : X) (make : X → Y) (y : Y) → (let r : Result Y Rule = unless_denied rule x >>= λ z. Ok (make z) in r) ≡ Ok y → make x ≡ y
given_by None x make y h = cc
given_by (Some rule) x make y h = absurd (cc)

-- the authenticator, if it opens and reads, judged by the body
abbrev judged : List ℕ → EncTicketPart → Option Authenticator → Result Authenticator Rule
judged body part found = or_fault G5 found >>= λ auth. unless_denied (first_failing (auth_rules body part auth)) auth

-- of a header, if there is one
abbrev auth_rows : List ℕ → Option Header → List (Rule × Bool)
auth_rows body found =
    (G5, is_some found)
    ∷ (G6, holds_of (of_header client_is_the_tickets) found)
    ∷ (G7, holds_of (of_header sum_is_keyed) found)
    ∷ (G8, holds_of (of_header (body_is_covered body)) found)
    ∷ []

first_judged : (dir : DirectoryValue) (at : ℕ) (body : List ℕ) (opened : Opened) (found : Option Authenticator)
    → refusal_of (judged body opened.part found >>= λ auth. Ok (header_with dir at opened auth)) ≡ first_failing (auth_rows body (option_map (header_with dir at opened) found))
first_judged dir at body opened None = refl
first_judged dir at body opened (Some auth) = denied_by (first_failing (auth_rules body opened.part auth)) auth (header_with dir at opened)

header_judged : (dir : DirectoryValue) (at : ℕ) (body : List ℕ) (opened : Opened) (found : Option Authenticator) (header : Header)
    → (let r : Result Header Rule = judged body opened.part found >>= λ auth. Ok (header_with dir at opened auth) in r) ≡ Ok header → option_map (header_with dir at opened) found ≡ Some header
header_judged dir at body opened None header h = absurd (cc)
header_judged dir at body opened (Some auth) header h = ap Some (given_by (first_failing (auth_rules body opened.part auth)) auth (header_with dir at opened) header h)

-- ---- the ticket

-- a rule of the front denies, or the first of those behind it
failing_front : (rows more : List (Rule × Bool)) (rule : Rule) → Some rule ≡ first_failing rows → Some rule ≡ first_failing (rows ++ more)
failing_front [] more rule h = absurd (cc)
failing_front ((other, true) ∷ rows) more rule h = failing_front rows more rule h
failing_front ((other, false) ∷ rows) more rule h = h

failing_behind : (rows more : List (Rule × Bool)) → None ≡ first_failing rows → first_failing more ≡ first_failing (rows ++ more)
failing_behind [] more h = refl
failing_behind ((other, true) ∷ rows) more h = failing_behind rows more h
failing_behind ((other, false) ∷ rows) more h = absurd (cc)

opened_is : (dir : DirectoryValue) (at : ℕ) (ticket : Ticket) (opened : Opened) → unsealed dir at AsHeader ticket ≡ Ok opened → ticket_opened dir at ticket ≡ Some opened
opened_is dir at ticket opened h =
    let o : Opens dir at AsHeader ticket opened = unsealed_opens dir at AsHeader ticket opened h in
    ap (option_and_then (opened_with ticket)) o.found ∙ o.opens

-- what is told of an AP-REQ whose ticket opens or not
abbrev pub after_opening : DirectoryValue → ℕ → List ℕ → ApReq → Result Opened Rule → Result Header Rule
after_opening dir at body ap opening = opening >>= λ opened. authenticated body opened.part ap.authenticator >>= λ auth. Ok (header_with dir at opened auth)

first_after : (dir : DirectoryValue) (at : ℕ) (body : List ℕ) (ap_req : ApReq) (r : Result Opened Rule) → unsealed dir at AsHeader ap_req.ticket ≡ r
    → refusal_of (after_opening dir at body ap_req r) ≡ first_failing (opening_rules dir at AsHeader ap_req.ticket ++ auth_rows body (header_of dir at ap_req))
first_after dir at body ap_req (Err rule) h =
    failing_front (opening_rules dir at AsHeader ap_req.ticket) (auth_rows body (header_of dir at ap_req)) rule (ap refusal_of (sym h) ∙ first_unsealed dir at AsHeader ap_req.ticket)
first_after dir at body ap_req (Ok opened) h =
    let found : header_of dir at ap_req ≡ header_by dir at ap_req.authenticator opened = ap (option_and_then (header_by dir at ap_req.authenticator)) (opened_is dir at ap_req.ticket opened h) in
    first_judged dir at body opened (authenticator_in opened.part.key ap_req.authenticator)
    ∙ ap (λ (o : Option Header). first_failing (auth_rows body o)) (sym found)
    ∙ failing_behind (opening_rules dir at AsHeader ap_req.ticket) (auth_rows body (header_of dir at ap_req)) (ap refusal_of (sym h) ∙ first_unsealed dir at AsHeader ap_req.ticket)

header_after : (dir : DirectoryValue) (at : ℕ) (body : List ℕ) (ap_req : ApReq) (header : Header) (r : Result Opened Rule) → unsealed dir at AsHeader ap_req.ticket ≡ r
    → after_opening dir at body ap_req r ≡ Ok header → header_of dir at ap_req ≡ Some header
header_after dir at body ap_req header (Err rule) e h = absurd (cc)
header_after dir at body ap_req header (Ok opened) e h =
    ap (option_and_then (header_by dir at ap_req.authenticator)) (opened_is dir at ap_req.ticket opened e)
    ∙ header_judged dir at body opened (authenticator_in opened.part.key ap_req.authenticator) header h

-- ---- the AP-REQ

abbrev told_of : DirectoryValue → ℕ → List ℕ → Option ApReq → Result Header Rule
told_of dir at body found = or_fault G1 found >>= λ ap. after_opening dir at body ap (unsealed dir at AsHeader ap.ticket)

abbrev all_rows : DirectoryValue → ℕ → List ℕ → Option ApReq → List (Rule × Bool)
all_rows dir at body found =
    (G1, is_some found)
    ∷ (G2, holds_of (λ ap. header_is_for_this_realm dir at ap.ticket) found)
    ∷ (G3, holds_of (λ ap. header_key_fits dir at ap.ticket) found)
    ∷ (G4, holds_of (λ ap. header_opens dir at ap.ticket) found)
    ∷ auth_rows body (option_and_then (header_of dir at) found)

first_told : (dir : DirectoryValue) (at : ℕ) (body : List ℕ) (found : Option ApReq) → refusal_of (told_of dir at body found) ≡ first_failing (all_rows dir at body found)
first_told dir at body None = refl
first_told dir at body (Some ap_req) = first_after dir at body ap_req (unsealed dir at AsHeader ap_req.ticket) refl

header_told : (dir : DirectoryValue) (at : ℕ) (body : List ℕ) (found : Option ApReq) (header : Header) → told_of dir at body found ≡ Ok header → option_and_then (header_of dir at) found ≡ Some header
header_told dir at body None header h = absurd (cc)
header_told dir at body (Some ap_req) header h = header_after dir at body ap_req header (unsealed dir at AsHeader ap_req.ticket) refl h

first_read : (dir : DirectoryValue) (at : ℕ) (message : KdcReq) → refusal_of (header_read dir at message) ≡ first_failing (reading_rules dir at message)
unfolding header_read header_in
first_read dir at message = first_told dir at message.body_bytes (ap_req_of message)

read_found : (dir : DirectoryValue) (at : ℕ) (message : KdcReq) (header : Header) → header_read dir at message ≡ Ok header → header_in dir at message ≡ Some header
unfolding header_read header_in
read_found dir at message header h = header_told dir at message.body_bytes (ap_req_of message) header h

-- ---- what a call answers

pub not_denied : {X : Type 0} (r : Result X Rule) (x : X) → denied r ≡ Ok x → r ≡ Ok x
not_denied (Ok y) x h = cc
not_denied (Err rule) x h = absurd (cc)

denial : {X : Type 0} (r : Result X Rule) (rule : Rule) → denied r ≡ Err (Deny rule) → refusal_of r ≡ Some rule
denial (Ok y) rule h = absurd (cc)
denial (Err other) rule h = cc

pub no_rule_fails : (dir : DirectoryValue) (at : ℕ) (message : KdcReq) (result : Result Header ShowFault) → Answers NoMemory result (denied (header_read dir at message))
    → IfOk result (λ header. first_failing (reading_rules dir at message) ≡ None)
no_rule_fails dir at message (Ok header) h = sym (first_read dir at message) ∙ ap refusal_of (not_denied (header_read dir at message) header h)
no_rule_fails dir at message (Err fault) h = tt

pub header_is_found : (dir : DirectoryValue) (at : ℕ) (message : KdcReq) (result : Result Header ShowFault) → Answers NoMemory result (denied (header_read dir at message))
    → IfOk result (λ header. header_in dir at message ≡ Some header)
header_is_found dir at message (Ok header) h = read_found dir at message header (not_denied (header_read dir at message) header h)
header_is_found dir at message (Err fault) h = tt

pub first_rule_denies : (dir : DirectoryValue) (at : ℕ) (message : KdcReq) (result : Result Header ShowFault) → Answers NoMemory result (denied (header_read dir at message))
    → IfErr result (IsDenial (first_failing (reading_rules dir at message)))
first_rule_denies dir at message (Ok header) h = tt
first_rule_denies dir at message (Err (Deny rule)) h = sym (first_read dir at message) ∙ denial (header_read dir at message) rule (h (λ e. absurd (cc)))
first_rule_denies dir at message (Err NoMemory) h = tt
