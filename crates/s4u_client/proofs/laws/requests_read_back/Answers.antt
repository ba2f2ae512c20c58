use Rattle.s4u_client.proofs.Opens.{authenticators_open, stamps_open}
use Rattle.s4u_client.proofs.ReadBack.{as_requests_read, headers_read, proxy_requests_read, self_requests_read, service_requests_read, stamps_read, tgs_requests_read, users_read}
use Rattle.s4u_client.proofs.laws.requests_read_back.Goals as goal

pub returns : goal.returns
returns c = record {
  initial = as_requests_read;
  ordinary = tgs_requests_read;
  self_service = self_requests_read;
  proxy = proxy_requests_read;
  service = service_requests_read;
  header = headers_read;
  stamp = stamps_read;
  users = users_read;
  stamp_opens = stamps_open;
  authenticator_opens = authenticators_open;
}
