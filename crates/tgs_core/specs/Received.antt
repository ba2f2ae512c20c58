-- What a message is known to be that was read.
use Rattle.std.specs.Prelude.{◌≡◌, ◌<◌, ◌≤◌, ◌^◌, true, length, IfSome}
use Rattle.std.specs.List.{AllByRecursion}
use Rattle.der_core.specs.Laws.{IsBytes}
use Rattle.krb_tickets.specs.Transited.{is_realm}
use Rattle.krb_messages.specs.declared.kdc_req.KdcReq.{KdcReq}
use Rattle.krb_messages.specs.KdcReq.{kdc_req}
use Rattle.as_core.specs.AsRequests.{extra_tickets}
use Rattle.as_core.specs.Stamps.{items_of}
use Rattle.ticket_codec.specs.Made.{IsTicketName}
use Rattle.proxy_requests.specs.Evidences.{tickets_of}

-- it can be written, its realm and the server that it names have the forms of names, its padata are octets, and what it holds is
-- short: a message that can be written has at most three times as many bytes as a request may have
pub record IsReceived (message : KdcReq) : Type 0 where
  pub fits : kdc_req.Fits message
  pub realm : is_realm message.req_body.realm ≡ true
  pub server : IfSome message.req_body.sname (IsTicketName message.req_body.realm)
  pub padata : AllByRecursion (λ item. length item.padata_value < 2 ^ 32) (items_of message.padata)
  pub short : AllByRecursion (λ item. length item.padata_value ≤ 393216) (items_of message.padata)
  pub octets : AllByRecursion (λ item. IsBytes item.padata_value) (items_of message.padata)
  pub tickets : extra_tickets message.req_body.additional_tickets < 2 ^ 32
  pub sealed : AllByRecursion (λ ticket. length ticket.sealed.cipher < 2 ^ 32) (tickets_of message.req_body.additional_tickets)
  pub sealed_octets : AllByRecursion (λ ticket. IsBytes ticket.sealed.cipher) (tickets_of message.req_body.additional_tickets)
