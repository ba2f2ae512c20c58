-- A client that begins a request finishes with the credential of the grant.
use Rattle.std.proofs.Common.{◌≡◌, ◌∙◌, ℕ, ℤ, pos, Bool, true, List, [], ◌∷◌, Option, None, Some, Ok, refl, sym, ap, subst}
use Rattle.std.specs.Prelude.{Result}
use Rattle.std.specs.Ordering.{int_eq}
use Rattle.std.proofs.lemmas.Bool.{eq-eqb}
use Rattle.std.proofs.lemmas.Cmp.{int_eq_equiv}
use Rattle.kdc_prelude.specs.Steps.{◌>>=◌}
use Rattle.kdc_prelude.specs.Verdicts.{first_failing}
use Rattle.krb_names.specs.declared.key.Key.{Key}
use Rattle.krb_names.specs.declared.moment.Moment.{Moment}
use Rattle.krb_names.specs.declared.principal.Principal.{Principal}
use Rattle.krb_names.specs.Etypes.{etype_number}
use Rattle.krb_names.specs.Principals.{same_principal}
use Rattle.krb_tickets.specs.Pac.{is_number}
use Rattle.krb_messages.specs.declared.kdc_req.KdcReq.{KdcReq}
use Rattle.kdc_records.specs.declared.decision.Aim.TheVariants.{Account}
use Rattle.dir_records.specs.DirectoryValue.{DirectoryValue}
use Rattle.dir_records.specs.IsDirectory.{IsDirectory}
use Rattle.route_rules.specs.Aims.{resolve}
use Rattle.s4u_client.specs.declared.cred.Cred.{Cred}
use Rattle.s4u_client.specs.declared.cred.Pending.{Pending}
use Rattle.s4u_client.specs.declared.cred.Want.{Want}
use Rattle.s4u_client.specs.declared.fault.FinishFault.{FinishFault}
use Rattle.s4u_client.specs.Finishing.{client_is_right, comparisons, cred_of, server_is_right, unless_differing}
use Rattle.s4u_client.specs.Reads.{IsRandom}
use Rattle.s4u_client.specs.Requests.{asked_in}
use Rattle.s4u_client.specs.Writable.{IsWant}
use Rattle.tgs_core.specs.Grants.{Grant, granted_record, ticket_name}
use Rattle.tgs_core.specs.Replies.{reply_key, reply_of}
use Rattle.tgs_core.specs.Requests.{Request}
use Rattle.tgs_core.specs.Verdicts.{verdict}
use Rattle.ends_laws.specs.Ends.{AskersFinish, Asking, CanOpen, IsAsking, Itself, OnBehalf, Ordinarily, WithEvidence, begun_by, cred_given, part_given}
use Rattle.ends_laws.proofs.AskedMessages.{message_by}
use Rattle.ends_laws.proofs.Askers.{IsBegun, askers_open, begun_grant}
use Rattle.ends_laws.proofs.ClientsRight.{itself_right, ordinary_right, proxy_right, self_right}
use Rattle.ends_laws.proofs.GrantParts.{IsGrantOf, aimed_in, grant_parts}
use Rattle.ends_laws.proofs.GrantedReplies.{grants_open}
use Rattle.ends_laws.proofs.SamePrincipals.{name_is_same}
use Rattle.ends_laws.proofs.ServerNames.{aimed_at, server_right}
use Rattle.ends_laws.proofs.WantedAnswers.{IsAnswer, answer_is}

-- ---- each comparison

kept_want : (asking : Asking) (want : Want) (made : Moment) (own : List ℕ) → (begun_by asking want made own).pending.want ≡ want
kept_want (Itself client key) want made own = refl
kept_want (Ordinarily tgt) want made own = refl
kept_want (OnBehalf tgt user) want made own = refl
kept_want (WithEvidence tgt evidence user rbcd) want made own = refl

-- rows that hold
no_row : (a b c d e : Bool) (p q r s t : FinishFault) → a ≡ true → b ≡ true → c ≡ true → d ≡ true → e ≡ true → first_failing ((p, a) ∷ (q, b) ∷ (r, c) ∷ (s, d) ∷ (t, e) ∷ []) ≡ None
no_row a b c d e p q r s t ha hb hc hd he = rw (ha, hb, hc, hd, he) refl

ticket_named : (grant : Grant) (block : List ℕ) → same_principal (reply_of grant block).ticket.sname (part_given grant block).sname ≡ true
unfolding reply_of
ticket_named grant block = name_is_same grant.server

type_told : (grant : Grant) (block : List ℕ) (key : Key) → key ≡ (reply_key grant.grounds).key → is_number (etype_number key.etype) (reply_of grant block).enc_part.etype ≡ true
unfolding reply_of
type_told grant block key e =
    let n : ℕ = etype_number (reply_key grant.grounds).key.etype in
    ap (λ (k : Key). is_number (etype_number k.etype) (pos n)) e ∙ eq-eqb n n refl

client_told : (grant : Grant) (block : List ℕ) → (reply_of grant block).cname ≡ (granted_record grant block).client
unfolding reply_of
client_told grant block = refl

cred_is : (grant : Grant) (block : List ℕ) → cred_of (reply_of grant block) (part_given grant block) ≡ cred_given grant block
unfolding reply_of
cred_is grant block = refl

server_is : (dir : DirectoryValue) (now : Moment) (bytes : List ℕ) (want : Want) (message : KdcReq) (grant : Grant) → IsDirectory dir → IsGrantOf dir now bytes grant → IsBegun dir want message grant
    → IsAnswer grant want → server_is_right want grant.server ≡ true
server_is dir now bytes want message grant d of begun answer =
    let asked : Principal = asked_in want.realm want.server in
    let at : ℕ = grant.request.realm in
    let same : begun.at ≡ at = ap (λ (request : Request). request.realm) begun.is in
    let known = begun.known ∙ ap Some same in
    let held = sym (aimed_in dir at grant.terms.aim grant.realm of.realm) ∙ of.held in
    let means : (k : ℕ) → grant.terms.aim ≡ Account k → resolve dir at asked ≡ Some (Account k) = λ (k : ℕ) (e : grant.terms.aim ≡ Account k).
    ap (resolve dir at) (sym answer.asked)
    ∙ sym (ap (λ (server : Option Principal). server >>= resolve dir at) of.server)
    ∙ aimed_at dir now grant.request grant.grounds grant.terms k of.terms e in
    let named : ticket_name grant.realm asked grant.terms.aim ≡ grant.server = ap (λ (name : Principal). ticket_name grant.realm name grant.terms.aim) (sym answer.asked) ∙ of.named in
    subst (λ (name : Principal). server_is_right want name ≡ true) named (server_right dir want at grant.realm grant.terms.aim grant.holding d known of.realm held means)

none_differs : (grant : Grant) (block : List ℕ) (want : Want) (pending : Pending) → pending.want ≡ want → CanOpen grant pending → IsAnswer grant want → server_is_right want grant.server ≡ true
    → client_is_right pending grant.server (granted_record grant block).client ≡ true → first_failing (comparisons pending (reply_of grant block) (part_given grant block)) ≡ None
none_differs grant block want pending same can answer server client =
    let nonce : int_eq grant.request.wish.nonce pending.want.nonce ≡ true =
    ap (λ (n : ℤ). int_eq grant.request.wish.nonce n) (ap (λ (w : Want). w.nonce) same ∙ sym answer.nonce) ∙ int_eq_equiv.refl grant.request.wish.nonce in
    let of_client : client_is_right pending grant.server (reply_of grant block).cname ≡ true = ap (client_is_right pending grant.server) (client_told grant block) ∙ client in
    let of_server : server_is_right pending.want grant.server ≡ true = ap (λ (w : Want). server_is_right w grant.server) same ∙ server in
    no_row _ _ _ _ _ _ _ _ _ _ nonce of_client of_server (ticket_named grant block) (type_told grant block pending.key can.key)

client_is : (dir : DirectoryValue) (now made : Moment) (block bytes own : List ℕ) (want : Want) (asking : Asking) (grant : Grant) → IsWant want → IsRandom own → IsAsking dir want asking → verdict dir now bytes ≡ None
    → IsGrantOf dir now bytes grant → IsBegun dir want (message_by asking want made own) grant → IsAnswer grant want
    → client_is_right (begun_by asking want made own).pending grant.server (granted_record grant block).client ≡ true
client_is dir now made block bytes own want (Itself client key) grant w random h none of begun answer = itself_right dir now made block bytes own want client key grant h of begun
client_is dir now made block bytes own want (Ordinarily tgt) grant w random h none of begun answer = ordinary_right dir now made block bytes own want tgt grant h random of begun answer
client_is dir now made block bytes own want (OnBehalf tgt user) grant w random h none of begun answer =
    self_right dir now made block bytes own want tgt user grant h.0 h.1.0 h.1.1 w random none of begun answer
client_is dir now made block bytes own want (WithEvidence tgt evidence user rbcd) grant w random h none of begun answer =
    proxy_right dir now made block bytes own want tgt evidence user rbcd grant h random of begun answer

pub askers_finish : AskersFinish
askers_finish dir now made block own want asking grant d w own_random h octets random none granted =
    let bytes : List ℕ = (begun_by asking want made own).bytes in
    let pending : Pending = (begun_by asking want made own).pending in
    let of = grant_parts dir now bytes grant granted in
    let begun = begun_grant dir now made own want asking grant w own_random h granted in
    let answer = answer_is dir now made own want asking grant of begun in
    let can = askers_open dir now made own want asking grant d w own_random h granted in
    let server = server_is dir now bytes want (message_by asking want made own) grant d of begun answer in
    let client = client_is dir now made block bytes own want asking grant w own_random h none of begun answer in
    let alike = none_differs grant block want pending (kept_want asking want made own) can answer server client in
    let made_of : Cred → Result Cred FinishFault = λ (cred : Cred). Ok cred in
    grants_open dir now block bytes grant pending d octets random none granted can
    ∙ ap (λ (fault : Option FinishFault). unless_differing fault (cred_of (reply_of grant block) (part_given grant block))) alike
    ∙ ap made_of (cred_is grant block)
