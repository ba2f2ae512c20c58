-- What is read of an AP-REQ once it is opened: what was sealed, and the PAC of its ticket.
use Rattle.std.specs.Prelude.{ℕ, List, Option, None, if◌then◌else◌}
use Rattle.kdc_prelude.specs.Steps.{◌>>=◌}
use Rattle.der_core.specs.Codec.{Codec, whole}
use Rattle.krb_names.specs.declared.key.Key.{Key}
use Rattle.krb_crypto.specs.Encryption.{opened}
use Rattle.krb_tickets.specs.declared.enc_ticket_part.EncTicketPart.{EncTicketPart}
use Rattle.krb_tickets.specs.Pac.{pac_of}
use Rattle.pac_sign.specs.Verified.{server_holds}
use Rattle.ticket_parts.specs.declared.pac_values.PacValue.{PacValue}
use Rattle.ticket_parts.specs.Records.{pac_reading}
use Rattle.tgs_requests.specs.Askings.{read_or_none}

-- the value that a key opens with a usage, if it opens and reads
abbrev pub opened_as : {X : Type 0} → Codec X → Key → ℕ → List ℕ → Option X
opened_as form key usage cipher = opened key usage cipher >>= λ text. read_or_none (whole form text)

-- what a PAC says whose server signature is right under the service's key (MS-PAC, section 2.8)
abbrev pub signed_reading : Key → List ℕ → Option PacValue
signed_reading key pac = if server_holds key pac then pac_reading pac else None

-- what the PAC of a ticket says; nothing where there is none, it does not read, or its server signature is wrong
unfoldable pub pac_shown : Key → EncTicketPart → Option PacValue
pac_shown key part = pac_of part >>= signed_reading key
