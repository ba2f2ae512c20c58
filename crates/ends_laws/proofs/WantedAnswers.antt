-- What a client asked for is what the grant is of.
use Rattle.std.proofs.Common.{◌≡◌, ◌∙◌, ℕ, List, Some, refl, sym, ap}
use Rattle.krb_names.specs.declared.moment.Moment.{Moment}
use Rattle.krb_messages.specs.declared.kdc_req.KdcReq.{KdcReq}
use Rattle.kdc_records.specs.declared.wish.Wish.{Wish}
use Rattle.dir_records.specs.DirectoryValue.{DirectoryValue}
use Rattle.tgs_requests.specs.Askings.{wish_of}
use Rattle.s4u_client.specs.declared.cred.Want.{Want}
use Rattle.s4u_client.specs.Requests.{as_request, asked_in, proxy_request, self_request, tgs_request}
use Rattle.tgs_core.specs.Grants.{Grant}
use Rattle.tgs_core.specs.Requests.{Request}
use Rattle.tgs_core.proofs.FoundGrants.{some_is, wish_nonce, wish_server}
use Rattle.ends_laws.specs.Ends.{Asking, Itself, OnBehalf, Ordinarily, WithEvidence, begun_by}
use Rattle.ends_laws.proofs.AskedMessages.{message_by}
use Rattle.ends_laws.proofs.Askers.{IsBegun}
use Rattle.ends_laws.proofs.GrantParts.{IsGrantOf}

-- ---- what was sent

asked_server : (asking : Asking) (want : Want) (made : Moment) (own : List ℕ) → (message_by asking want made own).req_body.sname ≡ Some (asked_in want.realm want.server)
unfolding as_request tgs_request self_request proxy_request
asked_server (Itself client key) want made own = refl
asked_server (Ordinarily tgt) want made own = refl
asked_server (OnBehalf tgt user) want made own = refl
asked_server (WithEvidence tgt evidence user rbcd) want made own = refl

asked_nonce : (asking : Asking) (want : Want) (made : Moment) (own : List ℕ) → (message_by asking want made own).req_body.nonce ≡ want.nonce
unfolding as_request tgs_request self_request proxy_request
asked_nonce (Itself client key) want made own = refl
asked_nonce (Ordinarily tgt) want made own = refl
asked_nonce (OnBehalf tgt user) want made own = refl
asked_nonce (WithEvidence tgt evidence user rbcd) want made own = refl

-- ---- what came

-- the nonce, and the server that was asked for
pub record IsAnswer (grant : Grant) (want : Want) : Type 0 where
  pub nonce : grant.request.wish.nonce ≡ want.nonce
  pub asked : grant.asked ≡ asked_in want.realm want.server

pub answer_is : (dir : DirectoryValue) (now made : Moment) (own : List ℕ) (want : Want) (asking : Asking) (grant : Grant) → IsGrantOf dir now (begun_by asking want made own).bytes grant
    → IsBegun dir want (message_by asking want made own) grant → IsAnswer grant want
answer_is dir now made own want asking grant of begun =
    let message : KdcReq = message_by asking want made own in
    let wish : grant.request.wish ≡ wish_of message = ap (λ (request : Request). request.wish) (sym begun.is) in
    let server : Some grant.asked ≡ Some (asked_in want.realm want.server) = sym of.server ∙ ap (λ (w : Wish). w.server) wish ∙ wish_server message ∙ asked_server asking want made own in
    record {
      nonce = ap (λ (w : Wish). w.nonce) wish ∙ wish_nonce message ∙ asked_nonce asking want made own;
      asked = some_is grant.asked (asked_in want.realm want.server) server;
    }
