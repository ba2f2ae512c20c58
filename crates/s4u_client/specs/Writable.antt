-- What a request is made of, in plain conditions under which it can be written.
use Rattle.std.specs.Prelude.{◌≡◌, ◌+◌, ◌≤◌, ◌^◌, true, List, length, FitsSigned}
use Rattle.std.specs.List.{AllByRecursion}
use Rattle.std.specs.Int.{w32}
use Rattle.krb_names.specs.declared.principal.Principal.{Principal}
use Rattle.krb_names.specs.Keys.{is_padded}
use Rattle.krb_tickets.specs.declared.ticket.Ticket.{Ticket}
use Rattle.krb_tickets.specs.Ticket.{ticket}
use Rattle.krb_tickets.specs.Transited.{is_realm}
use Rattle.der_forms.specs.Values.{nonce as nonce_number}
use Rattle.ticket_laws.specs.Writable.{are_parts}
use Rattle.krb_names.specs.declared.key.Key.{Key}
use Rattle.krb_messages.specs.declared.checksum.Checksum.{Checksum}
use Rattle.krb_messages.specs.declared.pa_data.PaData.{PaData}
use Rattle.s4u_client.specs.declared.cred.Cred.{Cred}
use Rattle.s4u_client.specs.declared.cred.Want.{Want}

-- a name that can be written in its realm, as names are read from text and from messages
pub record IsName (p : Principal) : Type 0 where
  pub kind : FitsSigned w32 p.kind
  pub parts : are_parts p.kind p.parts ≡ true
  pub realm : is_realm p.realm ≡ true

-- a ticket of at most 2^27 bytes
pub record IsShortTicket (t : Ticket) : Type 0 where
  pub fits : ticket.Fits t
  pub short : length (ticket.spelling t) ≤ 2 ^ 27

-- what a reply gave, or the like
pub record IsCred (cred : Cred) : Type 0 where
  pub client : IsName cred.client
  pub server : IsName cred.server
  pub shown : IsShortTicket cred.ticket
  pub key_padding : is_padded cred.session ≡ true

-- a realm, a name without its own, a nonce from -2^31 to 2^32 - 1, and a time up to 9999-12-31T23:59:59
pub record IsWant (want : Want) : Type 0 where
  pub kind : FitsSigned w32 want.server.kind
  pub parts : are_parts want.server.kind want.server.parts ≡ true
  pub realm : is_realm want.realm ≡ true
  pub nonce : nonce_number.Fits (record { 0 = want.nonce })
  pub till : want.till ≤ 253402300799

-- a key of 32 octets, zeros behind those of its type
pub record IsWhole (key : Key) : Type 0 where
  pub long : length key.raw ≡ 32
  pub padded : is_padded key ≡ true

-- a checksum of at most 16 octets
pub record IsShortSum (sum : Checksum) : Type 0 where
  pub kind : FitsSigned w32 sum.cksumtype
  pub few : length sum.checksum ≤ 16

-- padata of at most 2^27 + 4,500 octets
pub record IsShortItem (item : PaData) : Type 0 where
  pub kind : FitsSigned w32 item.padata_type
  pub few : length item.padata_value ≤ 2 ^ 27 + 4500

-- those of a request: the header, and at most two behind it
pub record AreShort (items : List PaData) : Type 0 where
  pub each : AllByRecursion IsShortItem items
  pub few : length items ≤ 3
