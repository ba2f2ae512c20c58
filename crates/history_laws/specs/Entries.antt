-- The entries of a history: the exchanges whose reply holds a ticket.
use Rattle.std.specs.Prelude.{◌≡◌, ℕ, ◌==◌, ◌||◌, Bool, false, List, [], ◌∷◌, filter_map, length, Option, None, option_map, reverse, if◌then◌else◌}
use Rattle.der_core.specs.Laws.{IsBytes}
use Rattle.krb_names.specs.declared.moment.Moment.{Moment}
use Rattle.krb_tickets.specs.declared.enc_ticket_part.EncTicketPart.{EncTicketPart}
use Rattle.kdc_records.specs.declared.ticket_rec.TicketRec.{TicketRec}
use Rattle.dir_records.specs.DirectoryValue.{DirectoryValue}
use Rattle.dir_records.specs.IsDirectory.{IsDirectory}
use Rattle.ticket_parts.specs.Parts.{part as part_of}
use Rattle.tgs_core.specs.Answers.{answered_to}
use Rattle.tgs_core.specs.Grants.{Grant, grant_in, granted_record}
use Rattle.kdc_frames.specs.Exchanges.{Exchange}

-- the reply is the one that is defined for the request: by a directory, at the exchange's moment, with a random block of 64 octets
pub record IsAnswered (exchange : Exchange) : Type 0 where
  pub directory_is : IsDirectory exchange.directory
  pub request_is : IsBytes exchange.request
  pub block_is : IsBytes exchange.block
  pub block_has : length exchange.block ≡ 64
  pub replied : exchange.reply ≡ (answered_to exchange.directory exchange.moment exchange.block exchange.request).reply

-- a ticket that was granted: in which directory and when, on which grounds and terms, its record, and what was sealed in it
pub record Entry : Type 0 where
  pub dir : DirectoryValue
  pub now : Moment
  pub grant : Grant
  pub ticket : TicketRec
  pub part : EncTicketPart

abbrev pub entry_of : DirectoryValue → Moment → List ℕ → Grant → Entry
entry_of dir now block grant = record {
  dir = dir;
  now = now;
  grant = grant;
  ticket = granted_record grant block;
  part = part_of (granted_record grant block) grant.holding.key.key grant.realm.krbtgt.key;
}

-- the first byte is the tag of an AS-REP or a TGS-REP (RFC 4120, section 5.4.2)
abbrev pub holds_ticket : List ℕ → Bool
holds_ticket [] = false
holds_ticket (first ∷ bytes) = first == 0x6b || first == 0x6d

-- an exchange is an entry where its reply holds a ticket: the one that is granted to the request
abbrev pub entry_at : Exchange → Option Entry
entry_at exchange =
    if holds_ticket exchange.reply
    then option_map (entry_of exchange.directory exchange.moment exchange.block) (grant_in exchange.directory exchange.moment exchange.request)
    else None

-- the entries of a history, the newest first
abbrev pub entries : List Exchange → List Entry
entries history = filter_map entry_at (reverse history)
