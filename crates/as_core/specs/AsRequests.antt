-- An AS-REQ as the rules see it (RFC 4120, section 5.4.1).
use Rattle.std.specs.Prelude.{ℕ, List, [], Option, None, Some, false, length}
use Rattle.krb_names.specs.declared.moment.Moment.{Moment}
use Rattle.krb_tickets.specs.declared.ticket.Ticket.{Ticket}
use Rattle.krb_messages.specs.declared.kdc_req.KdcReq.{KdcReq}
use Rattle.krb_messages.specs.declared.kdc_req_body.KdcReqBody.{KdcReqBody}
use Rattle.kdc_records.specs.declared.wish.Branch.TheVariants.{Initial}
use Rattle.kdc_records.specs.declared.wish.Wish.{Wish}
use Rattle.dir_records.specs.DirectoryValue.{DirectoryValue}
use Rattle.as_core.specs.AsRules.{AsRequest, as_request, client_account}
use Rattle.as_core.specs.Stamps.{stamp_of}

-- how many additional tickets there are
abbrev pub extra_tickets : Option (List Ticket) → ℕ
extra_tickets None = 0
extra_tickets (Some tickets) = length tickets

-- what an AS-REQ asks for; padata of S4U say nothing in it (MS-SFU, section 3.1.5.1.1 has them in a TGS-REQ)
abbrev pub as_wish : KdcReqBody → Wish
as_wish body = record {
  branch = Initial;
  realm = body.realm;
  client = body.cname;
  server = body.sname;
  options = body.kdc_options;
  from = body.from;
  till = body.till;
  etypes = body.etype;
  nonce = body.nonce;
  user = None;
  rbcd = false;
  extra = extra_tickets body.additional_tickets;
  both = false;
}

-- an AS-REQ to the realm at an index, at a moment
unfoldable pub as_ask : DirectoryValue → ℕ → Moment → KdcReq → AsRequest
as_ask dir realm now req =
    as_request dir realm now (as_wish req.req_body) (stamp_of (client_account dir realm req.req_body.cname) req.padata)
