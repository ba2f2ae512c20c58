-- A request as it is read (RFC 4120, sections 5.4.1 and 3.1.3).
use Rattle.std.specs.Prelude.{ℕ, Bool, false, ◌==◌, ◌||◌, nat_le, List, [], ◌∷◌, length, Option, None, Some, is_some, option_map, Result, Ok, Err, if◌then◌else◌}
use Rattle.kdc_prelude.specs.Options.{holds_of}
use Rattle.kdc_prelude.specs.Steps.{◌>>=◌}
use Rattle.der_core.specs.declared.refusal.DerRefusal.{DerRefusal}
use Rattle.der_core.specs.Codec.{whole}
use Rattle.krb_tickets.specs.Pac.{is_number}
use Rattle.krb_messages.specs.declared.kdc_req.KdcReq.{KdcReq}
use Rattle.krb_messages.specs.KdcReq.{kdc_req}
use Rattle.kdc_records.specs.declared.rule.Rule.{Rule}
use Rattle.kdc_records.specs.declared.rule.Rule.TheVariants.{U1, U2, U3, U4, U5}
use Rattle.kdc_records.specs.declared.wish.Wish.{Wish}
use Rattle.dir_records.specs.DirectoryValue.{DirectoryValue}
use Rattle.dir_core.specs.Lookups.{realm_named}
use Rattle.tgs_requests.specs.Askings.{wish_of}

-- ---- the rules of a request by itself

-- U1: it has at most 131,072 bytes (own choice)
abbrev pub is_within_limit : List ℕ → Bool
is_within_limit bytes = nat_le (length bytes) 131072

-- U2: its first byte is the tag of an AS-REQ or a TGS-REQ (RFC 4120, section 5.4.1)
abbrev pub is_tagged : List ℕ → Bool
is_tagged [] = false
is_tagged (first ∷ bytes) = first == 0x6a || first == 0x6c

abbrev pub message_told : Result KdcReq DerRefusal → Option KdcReq
message_told (Ok message) = Some message
message_told (Err refusal) = None

-- the message that bytes are; one that is too long is not read
unfoldable pub message_in : List ℕ → Option KdcReq
message_in bytes = if is_within_limit bytes then message_told (whole kdc_req bytes) else None

-- U4: pvno is 5 (RFC 4120, section 5.4.1)
abbrev pub is_version_5 : KdcReq → Bool
is_version_5 message = is_number 5 message.pvno

-- U5: the realm that is asked is in the directory (RFC 4120, section 3.1.3)
abbrev pub realm_is_known : DirectoryValue → KdcReq → Bool
realm_is_known dir message = is_some (realm_named dir message.req_body.realm)

-- in the order in which they are tried
abbrev pub opening_rules : DirectoryValue → List ℕ → List (Rule × Bool)
opening_rules dir bytes =
    (U1, is_within_limit bytes)
    ∷ (U2, is_tagged bytes)
    ∷ (U3, is_some (message_in bytes))
    ∷ (U4, holds_of is_version_5 (message_in bytes))
    ∷ (U5, holds_of (realm_is_known dir) (message_in bytes))
    ∷ []

-- ---- what is asked

-- a request that reads, to the realm of the directory at an index
pub record Request : Type 0 where
  pub message : KdcReq
  pub realm : ℕ
  pub wish : Wish

abbrev pub request_to : KdcReq → ℕ → Request
request_to message realm = record { message = message; realm = realm; wish = wish_of message }

abbrev pub request_of : DirectoryValue → KdcReq → Option Request
request_of dir message = option_map (request_to message) (realm_named dir message.req_body.realm)

-- the request that bytes are, where they read and their realm is in the directory
unfoldable pub request_in : DirectoryValue → List ℕ → Option Request
request_in dir bytes = message_in bytes >>= request_of dir
