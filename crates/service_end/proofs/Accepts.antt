-- What is accepted of a message by a service that has seen nothing before.
use Rattle.std.proofs.Common.{◌≡◌, ◌∙◌, ℕ, Bool, true, List, Option, None, Some, Ok, refl, ap}
use Rattle.std.specs.Prelude.{Result}
use Rattle.std.proofs.Math.Nat.{max-zero}
use Rattle.kdc_prelude.specs.Answers.{or_fault}
use Rattle.kdc_prelude.specs.Results.{◌>>=◌}
use Rattle.krb_tickets.specs.declared.enc_ticket_part.EncTicketPart.{EncTicketPart}
use Rattle.krb_tickets.specs.declared.encrypted_data.EncryptedData.{EncryptedData}
use Rattle.krb_messages.specs.declared.ap_req.ApReq.{ApReq}
use Rattle.krb_messages.specs.declared.authenticator.Authenticator.{Authenticator}
use Rattle.krb_messages.specs.Authenticator.{authenticator}
use Rattle.pac_logon.specs.Logon.{subject_sid}
use Rattle.ticket_parts.specs.declared.pac_values.PacValue.{PacValue}
use Rattle.tgs_requests.specs.Headers.{client_is_the_tickets, made_at}
use Rattle.service_end.specs.declared.refusal.AcceptRule.{AcceptRule}
use Rattle.service_end.specs.declared.refusal.AcceptRule.TheVariants.{Ended, Integrity, Match, NotYet, Signature, Skew}
use Rattle.service_end.specs.declared.service.ServiceKeys.{ServiceKeys}
use Rattle.service_end.specs.declared.shown.Judged.{Judged}
use Rattle.service_end.specs.declared.shown.Shown.{Shown}
use Rattle.service_end.specs.Accepting.{Acceptance, accept_outcome, acceptance_of, accepted_at, entry_of, is_new, judged, outcome_at, services_in}
use Rattle.service_end.specs.Memory.{Entry, nothing_seen}
use Rattle.service_end.specs.Readings.{opened_as, pac_shown}
use Rattle.service_end.specs.Shown.{asks_mutual, auth_shown, part_shown, request_in, require, shown_in}
use Rattle.service_end.specs.Times.{has_begun, is_fresh, is_timely, lasts}

-- ---- the message

pub auth_is_shown : (part : EncTicketPart) (sealed : EncryptedData) (auth : Authenticator) → opened_as authenticator part.key 11 sealed.cipher ≡ Some auth → client_is_the_tickets part auth ≡ true
    → auth_shown part sealed ≡ Ok auth
auth_is_shown part sealed auth opens same =
    let found : Authenticator → Result Authenticator AcceptRule = λ (auth : Authenticator). Ok auth in
    ap (λ (o : Option Authenticator). or_fault Integrity o >>= λ (auth : Authenticator). require Match (client_is_the_tickets part auth) >>= λ _. found auth) opens
    ∙ ap (λ (b : Bool). require Match b >>= λ _. found auth) same

message_is_shown : (keys : ServiceKeys) (request : ApReq) (part : EncTicketPart) (auth : Authenticator) → part_shown keys request.ticket ≡ Ok part → auth_shown part request.authenticator ≡ Ok auth
    → shown_in keys request ≡ Ok (record { mutual_required = asks_mutual request; part = part; auth = auth })
unfolding shown_in
message_is_shown keys request part auth a b =
    let made : EncTicketPart → Authenticator → Result Shown AcceptRule = λ (part : EncTicketPart) (auth : Authenticator). Ok (record { mutual_required = asks_mutual request; part = part; auth = auth }) in
    ap (λ (r : Result EncTicketPart AcceptRule). r >>= λ (part : EncTicketPart). auth_shown part request.authenticator >>= made part) a
    ∙ ap (λ (r : Result Authenticator AcceptRule). r >>= made part) b

pub timely_is : (moment at : ℕ) (part : EncTicketPart) → is_fresh moment at ≡ true → has_begun moment part ≡ true → lasts moment part ≡ true → is_timely moment at part ≡ Ok tt
timely_is moment at part a b c =
    ap (λ (t : Bool). require Skew t >>= λ _. require NotYet (has_begun moment part) >>= λ _. require Ended (lasts moment part)) a
    ∙ ap (λ (t : Bool). require NotYet t >>= λ _. require Ended (lasts moment part)) b
    ∙ ap (require Ended) c

judged_is : (keys : ServiceKeys) (moment : ℕ) (bytes : List ℕ) (request : ApReq) (shown : Shown) (value : PacValue) → request_in bytes ≡ Ok request → shown_in keys request ≡ Ok shown
    → is_timely moment (made_at shown.auth) shown.part ≡ Ok tt → pac_shown keys.key shown.part ≡ Some value → judged keys moment bytes ≡ Ok (record { shown = shown; pac = value })
unfolding judged
judged_is keys moment bytes request shown value a b c d =
    let made : PacValue → Result Judged AcceptRule = λ (pac : PacValue). Ok (record { shown = shown; pac = pac }) in
    let told : Shown → Option PacValue → Result Judged AcceptRule = λ (shown : Shown) (found : Option PacValue). or_fault Signature found >>= λ (pac : PacValue). Ok (record { shown = shown; pac = pac }) in
    ap (λ (r : Result ApReq AcceptRule). r >>= λ (request : ApReq). shown_in keys request >>= λ (shown : Shown). is_timely moment (made_at shown.auth) shown.part >>= λ _. told shown (pac_shown keys.key shown.part)) a
    ∙ ap (λ (r : Result Shown AcceptRule). r >>= λ (shown : Shown). is_timely moment (made_at shown.auth) shown.part >>= λ _. told shown (pac_shown keys.key shown.part)) b
    ∙ ap (λ (r : Result (Unit {0}) AcceptRule). r >>= λ _. told shown (pac_shown keys.key shown.part)) c
    ∙ ap (λ (o : Option PacValue). or_fault Signature o >>= made) d

first_is_new : (moment : ℕ) (entry : Entry) → is_new moment nothing_seen entry ≡ Ok tt
first_is_new moment entry = refl

accepted_is : (keys : ServiceKeys) (now : ℕ) (conf bytes : List ℕ) (j : Judged) → judged keys now bytes ≡ Ok j → accept_outcome keys now conf nothing_seen bytes ≡ Ok (acceptance_of conf now nothing_seen j)
unfolding accept_outcome
accepted_is keys now conf bytes j h =
    let made : Result Acceptance AcceptRule = Ok (acceptance_of conf now nothing_seen j) in
    ap (λ (moment : ℕ). outcome_at keys moment conf nothing_seen bytes) (max-zero now)
    ∙ ap (λ (r : Result Judged AcceptRule). r >>= accepted_at conf now nothing_seen) h
    ∙ ap (λ (r : Result (Unit {0}) AcceptRule). r >>= λ _. made) (first_is_new now (entry_of j.shown))

-- what is told of a ticket with this part and this PAC
pub record IsAcceptance (keys : ServiceKeys) (now : ℕ) (conf bytes : List ℕ) (part : EncTicketPart) (value : PacValue) : Type 0 where
  pub acceptance : Acceptance
  pub accepted : accept_outcome keys now conf nothing_seen bytes ≡ Ok acceptance
  pub client : acceptance.accepted.client ≡ part.client
  pub sid : acceptance.accepted.sid ≡ subject_sid value.logon
  pub services : acceptance.accepted.services ≡ services_in value.delegation

pub first_accepted : (keys : ServiceKeys) (now : ℕ) (conf bytes : List ℕ) (request : ApReq) (part : EncTicketPart) (auth : Authenticator) (value : PacValue) → request_in bytes ≡ Ok request
    → part_shown keys request.ticket ≡ Ok part → auth_shown part request.authenticator ≡ Ok auth → is_timely now (made_at auth) part ≡ Ok tt → pac_shown keys.key part ≡ Some value
    → IsAcceptance keys now conf bytes part value
first_accepted keys now conf bytes request part auth value reads ticket opens timely pac =
    let shown : Shown = record { mutual_required = asks_mutual request; part = part; auth = auth } in
    let j : Judged = record { shown = shown; pac = value } in
    let of_message : shown_in keys request ≡ Ok shown = message_is_shown keys request part auth ticket opens in
    let judged_so : judged keys now bytes ≡ Ok j = judged_is keys now bytes request shown value reads of_message timely pac in
    record { acceptance = acceptance_of conf now nothing_seen j; accepted = accepted_is keys now conf bytes j judged_so; client = refl; sid = refl; services = refl }
