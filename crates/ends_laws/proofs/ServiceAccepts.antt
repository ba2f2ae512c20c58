-- A service ticket that was granted is accepted by its service.
use Rattle.std.proofs.Common.{◌≡◌, ◌∙◌, ℕ, ◌+◌, ◌*◌, Bool, true, false, not, ◌&&◌, List, Option, None, Some, Ok, refl, sym, ap, subst, arith, lt-ltb}
use Rattle.std.specs.Prelude.{Result, nat_eq, nat_le, option_map}
use Rattle.std.proofs.lemmas.Bool.{eq-eqb, le-leb}
use Rattle.kdc_prelude.specs.Answers.{or_fault}
use Rattle.kdc_prelude.specs.Results.{◌>>=◌}
use Rattle.aes_core.specs.Inverses.{IsBlock}
use Rattle.krb_names.specs.declared.key.Key.{Key}
use Rattle.krb_names.specs.declared.moment.Moment.{Moment}
use Rattle.krb_names.specs.declared.principal.Principal.{Principal}
use Rattle.krb_names.specs.Etypes.{etype_number}
use Rattle.krb_names.specs.Moments.{in_micros}
use Rattle.krb_crypto.proofs.ByteSums.{bytes_below}
use Rattle.krb_crypto.specs.BlockCipher.{IsKey}
use Rattle.krb_tickets.specs.declared.enc_ticket_part.EncTicketPart.{EncTicketPart}
use Rattle.krb_tickets.specs.declared.ticket.Ticket.{Ticket}
use Rattle.krb_tickets.specs.EncTicketPart.{enc_ticket_part}
use Rattle.krb_tickets.specs.Transited.{is_realm}
use Rattle.krb_messages.specs.declared.ap_req.ApReq.{ApReq}
use Rattle.krb_messages.specs.declared.authenticator.Authenticator.{Authenticator}
use Rattle.krb_messages.specs.Authenticator.{authenticator}
use Rattle.kdc_records.specs.declared.subject.Delegation.{Delegation}
use Rattle.kdc_records.specs.declared.subject.Subject.{Subject}
use Rattle.kdc_records.specs.declared.ticket_rec.TicketRec.{TicketRec}
use Rattle.kdc_records.specs.Bits.{has_bit}
use Rattle.kdc_records.specs.Parties.{version_of}
use Rattle.dir_records.specs.declared.records.Account.{Account as AccountRec}
use Rattle.dir_records.specs.declared.records.KeyRec.{KeyRec}
use Rattle.dir_records.specs.declared.records.RealmRec.{RealmRec}
use Rattle.ticket_codec.specs.declared.holding.Holding.{Holding}
use Rattle.ticket_codec.specs.Made.{ticket_of}
use Rattle.ticket_parts.specs.Parts.{delegation_of}
use Rattle.ticket_parts.specs.Sound.{IsSound}
use Rattle.ticket_parts.proofs.Values.{subject_again}
use Rattle.tgs_requests.specs.Headers.{made_at}
use Rattle.proxy_rules.specs.ProxyRules.{services_of}
use Rattle.s4u_client.specs.declared.cred.Cred.{Cred}
use Rattle.s4u_client.specs.Requests.{authenticator_at, begun_ap, service_request}
use Rattle.s4u_client.specs.Reads.{IsRandom}
use Rattle.s4u_client.specs.Writable.{IsCred}
use Rattle.s4u_client.proofs.Opens.{authenticators_open}
use Rattle.s4u_client.proofs.ReadBack.{service_requests_read}
use Rattle.service_end.specs.declared.refusal.AcceptRule.{AcceptRule}
use Rattle.service_end.specs.declared.refusal.AcceptRule.TheVariants.{Integrity, NotUs, Version}
use Rattle.service_end.specs.declared.service.ServiceKeys.{ServiceKeys}
use Rattle.service_end.specs.Accepting.{accept_outcome, services_in}
use Rattle.service_end.specs.Memory.{nothing_seen}
use Rattle.service_end.specs.Readings.{opened_as}
use Rattle.service_end.specs.Shown.{auth_shown, is_for_us, key_fits, part_shown, request_in, request_told, require}
use Rattle.service_end.specs.Times.{has_begun, is_timely}
use Rattle.service_end.proofs.Accepts.{auth_is_shown, first_accepted, timely_is}
use Rattle.tgs_core.specs.Grants.{Grant, granted_record, principal_of_account, ticket_confounder}
use Rattle.ends_laws.specs.Ends.{IsTimely, IsTold, ServicesAccept, cred_given, service_of}
use Rattle.ends_laws.proofs.GrantParts.{account_key, grant_parts}
use Rattle.ends_laws.proofs.GrantedReplies.{IsReplied, holder_is, is_replied}
use Rattle.ends_laws.proofs.HeldKeys.{held_key, ticket_confounder_is}
use Rattle.ends_laws.proofs.SamePrincipals.{name_is_same, text_is_same}
use Rattle.ends_laws.proofs.ServiceReadings.{opened_is, pac_is_shown, pac_value, part_sealed, ticket_opens}
use Rattle.ends_laws.proofs.ValidFlags.{terms_are_valid}

-- ---- the ticket

abbrev keys_by : RealmRec → AccountRec → KeyRec → ServiceKeys
keys_by realm account key = record { account = principal_of_account realm account; key = key.key; version = key.version }

ticket_is_shown : (realm : RealmRec) (account : AccountRec) (held : Holding) (t : TicketRec) (server : Principal) (conf : List ℕ) → IsSound t → IsKey held.key.key → IsBlock conf
    → version_of t.holder ≡ held.key.version
    → part_shown (keys_by realm account held.key) (ticket_of t server realm.name held.key.key realm.krbtgt.key conf) ≡ Ok (part_sealed t held.key.key realm.krbtgt.key)
ticket_is_shown realm account held t server conf sound own block same =
    let keys : ServiceKeys = keys_by realm account held.key in
    let ticket : Ticket = ticket_of t server realm.name held.key.key realm.krbtgt.key conf in
    let n : ℕ = etype_number held.key.key.etype in
    let us : is_for_us keys ticket ≡ true = text_is_same realm.name in
    let fits : key_fits keys ticket ≡ true = ap (λ (b : Bool). b && nat_eq n n) (eq-eqb (version_of t.holder) held.key.version same) ∙ eq-eqb n n refl in
    let found : Result EncTicketPart AcceptRule = or_fault Integrity (opened_as enc_ticket_part keys.key 2 ticket.sealed.cipher) in
    ap (λ (b : Bool). require NotUs b >>= λ _. require Version (key_fits keys ticket) >>= λ _. found) us
    ∙ ap (λ (b : Bool). require Version b >>= λ _. found) fits
    ∙ ap (or_fault Integrity) (ticket_opens t held.key.key realm.krbtgt.key conf sound own block)

-- ---- the credential

record_key : (t : TicketRec) → IsSound t → IsKey t.session
record_key t sound = (sound.part.key_length, bytes_below t.session.raw sound.part.key_octets)

cred_is : (grant : Grant) (block : List ℕ) → IsReplied grant block → IsCred (cred_given grant block)
cred_is grant block r =
    let few = r.made.ticket_short in
    let server = r.given.server in
    record {
      client = record { kind = r.sound.part.cname_kind; parts = r.sound.part.cname_parts; realm = r.sound.part.crealm };
      server = record { kind = server.kind; parts = server.parts; realm = subst (λ (name : List ℕ). is_realm name ≡ true) (sym server.same) server.realm };
      shown = record { fits = r.made.ticket_fits; short = omega (arith, few) };
      key_padding = r.sound.part.key_padding;
    }

request_ticket : (cred : Cred) (is_mutual : Bool) (made : Moment) (own : List ℕ) → (service_request cred is_mutual made own).ticket ≡ cred.ticket
unfolding service_request
request_ticket cred is_mutual made own = refl

-- ---- the service

flags_are : (grant : Grant) (block : List ℕ) → (granted_record grant block).flags ≡ grant.terms.flags
unfolding granted_record
flags_are grant block = refl

services_told : (delegation : Option Delegation) → services_in (option_map delegation_of delegation) ≡ services_of delegation
services_told None = refl
services_told (Some delegation) = refl

-- at a moment that the ticket and the authenticator allow
told_by : (grant : Grant) (block : List ℕ) (account : AccountRec) (is_mutual : Bool) (made : Moment) (own conf : List ℕ) (moment : ℕ) → IsReplied grant block → IsBlock (ticket_confounder block)
    → IsRandom own → account.key ≡ grant.holding.key → has_bit 7 grant.terms.flags ≡ false → IsTimely moment made (granted_record grant block)
    → IsTold (accept_outcome (service_of grant.realm account) moment conf nothing_seen (begun_ap (cred_given grant block) is_mutual made own)) (granted_record grant block)
told_by grant block account is_mutual made own conf moment r confounder random held valid timely =
    let t : TicketRec = granted_record grant block in
    let key : Key = grant.holding.key.key in
    let realm_key : Key = grant.realm.krbtgt.key in
    let keys : ServiceKeys = keys_by grant.realm account grant.holding.key in
    let cred : Cred = cred_given grant block in
    let request : ApReq = service_request cred is_mutual made own in
    let message : List ℕ = begun_ap cred is_mutual made own in
    let part : EncTicketPart = part_sealed t key realm_key in
    let auth : Authenticator = authenticator_at cred.client made None None in
    let usable = cred_is grant block r in
    let version : version_of t.holder ≡ grant.holding.key.version = ap version_of (holder_is grant block) ∙ r.held.version in
    let reads : request_in message ≡ Ok request = ap request_told (service_requests_read cred is_mutual made own usable random.long) in
    let ticket : part_shown keys request.ticket ≡ Ok part =
    ap (part_shown keys) (request_ticket cred is_mutual made own)
    ∙ ticket_is_shown grant.realm account grant.holding t grant.server (ticket_confounder block) r.sound (held_key grant.holding r.held) confounder version in
    let opens : opened_as authenticator part.key 11 request.authenticator.cipher ≡ Some auth =
    opened_is authenticator cred.session 11 request.authenticator.cipher auth (authenticators_open.service cred is_mutual made own usable (record_key t r.sound) random) in
    let auth_shows : auth_shown part request.authenticator ≡ Ok auth = auth_is_shown part request.authenticator auth opens (name_is_same t.client) in
    let begun : nat_le (t.start * 1000000) (moment + 300000000) ≡ true = le-leb _ _ timely.begun in
    let flags : has_bit 7 t.flags ≡ false = ap (has_bit 7) (flags_are grant block) ∙ valid in
    let has : has_begun moment part ≡ true = ap (λ (b : Bool). b && not (has_bit 7 t.flags)) begun ∙ ap not flags in
    let in_time : is_timely moment (made_at auth) part ≡ Ok tt = timely_is moment (in_micros made) part timely.fresh has (lt-ltb _ _ timely.lasting) in
    let told = first_accepted keys moment conf message request part auth (pac_value t) reads ticket auth_shows in_time (pac_is_shown t key realm_key r.sound) in
    record {
      acceptance = told.acceptance;
      accepted = ap (λ (k : KeyRec). accept_outcome (keys_by grant.realm account k) moment conf nothing_seen message) held ∙ told.accepted;
      client = told.client;
      sid = told.sid ∙ ap (λ (s : Subject). s.sid) (subject_again t r.sound);
      services = told.services ∙ services_told t.delegation;
    }

pub services_accept : ServicesAccept
services_accept dir now block bytes grant at account h octets random none granted aim found is_mutual made own conf moment fresh timely =
    let of = grant_parts dir now bytes grant granted in
    let r = is_replied dir now block bytes grant h octets random none granted in
    told_by grant block account is_mutual made own conf moment r (ticket_confounder_is block random) fresh (account_key dir now bytes grant at account of aim found)
    (terms_are_valid dir now grant.request grant.grounds grant.terms of.terms) timely
