-- The header of a TGS-REQ, read step by step: the first step that fails tells its rule.
use Rattle.std.specs.Prelude.{◌≡◌, ℕ, Bool, List, [], ◌∷◌, Option, None, Some, Result, Ok, Err}
use Rattle.kdc_prelude.specs.Answers.{or_fault}
use Rattle.kdc_prelude.specs.Results.{◌>>=◌}
use Rattle.kdc_prelude.specs.Verdicts.{first_failing}
use Rattle.krb_tickets.specs.declared.enc_ticket_part.EncTicketPart.{EncTicketPart}
use Rattle.krb_tickets.specs.declared.encrypted_data.EncryptedData.{EncryptedData}
use Rattle.krb_messages.specs.declared.authenticator.Authenticator.{Authenticator}
use Rattle.krb_messages.specs.declared.kdc_req.KdcReq.{KdcReq}
use Rattle.kdc_records.specs.declared.rule.Rule.{Rule}
use Rattle.kdc_records.specs.declared.rule.Rule.TheVariants.{G1, G5, G6, G7, G8}
use Rattle.dir_records.specs.DirectoryValue.{DirectoryValue}
use Rattle.ticket_codec.specs.declared.fault.ShowFault.{ShowFault}
use Rattle.ticket_codec.specs.declared.fault.ShowFault.TheVariants.{Deny, NoMemory}
use Rattle.ticket_codec.specs.declared.role.Role.TheVariants.{Header as AsHeader}
use Rattle.ticket_codec.specs.Opening.{unsealed}
use Rattle.tgs_requests.specs.declared.header.Header.{Header}
use Rattle.tgs_requests.specs.Headers.{ap_req_of, authenticator_in, body_is_covered, client_is_the_tickets, header_with, sum_is_keyed}

-- of an authenticator that opened, by the body of the request
abbrev pub auth_rules : List ℕ → EncTicketPart → Authenticator → List (Rule × Bool)
auth_rules body part auth = (G6, client_is_the_tickets part auth) ∷ (G7, sum_is_keyed part auth) ∷ (G8, body_is_covered body part auth) ∷ []

-- a value, unless a rule denies it
abbrev pub unless_denied : {X : Type 0} → Option Rule → X → Result X Rule
unless_denied None x = Ok x
unless_denied (Some rule) x = Err rule

-- the authenticator, or the first of G5 to G8 that fails
abbrev pub authenticated : List ℕ → EncTicketPart → EncryptedData → Result Authenticator Rule
authenticated body part sealed =
    or_fault G5 (authenticator_in part.key sealed) >>= λ auth. unless_denied (first_failing (auth_rules body part auth)) auth

-- the header, or the first of G1 to G8 that fails
unfoldable pub header_read : DirectoryValue → ℕ → KdcReq → Result Header Rule
header_read dir at message =
    or_fault G1 (ap_req_of message) >>= λ ap.
    unsealed dir at AsHeader ap.ticket >>= λ opened.
    authenticated message.body_bytes opened.part ap.authenticator >>= λ auth.
    Ok (header_with dir at opened auth)

-- a fault is the rule that denies, or memory is wanted
abbrev pub IsDenial : Option Rule → ShowFault → Type 0
IsDenial denying (Deny rule) = denying ≡ Some rule
IsDenial denying NoMemory = Unit {0}
