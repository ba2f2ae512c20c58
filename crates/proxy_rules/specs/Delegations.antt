-- How long the texts of a new delegation are, and how many (MS-PAC, section 2.9).
use Rattle.std.specs.Prelude.{◌≡◌, ℕ, ◌≤◌, true, List, length, All, Some, slice_get}
use Rattle.std.specs.List.{AllByRecursion}
use Rattle.std.specs.Str.{IsUtf8}
use Rattle.krb_names.specs.declared.principal.Principal.{Principal}
use Rattle.kdc_records.specs.declared.ticket_rec.TicketRec.{TicketRec}
use Rattle.dir_records.specs.declared.records.RealmRec.{RealmRec}
use Rattle.dir_records.specs.DirectoryValue.{DirectoryValue}
use Rattle.proxy_rules.specs.ProxyRules.{chain_is_short, delegation_made, requestor_text, services_of, target_text}

-- a text of UTF-8 of at most so many bytes
pub record IsTextWithin (most : ℕ) (text : List ℕ) : Type 0 where
  pub utf8 : IsUtf8 text
  pub short : length text ≤ most

-- the parts of a name: at most 8, each a text that may stand in a name, or two of these that are joined by `@` (own choice)
pub record AreShortParts (parts : List (List ℕ)) : Type 0 where
  pub few : length parts ≤ 8
  pub texts : AllByRecursion (IsTextWithin 511) parts

-- a name of such parts, in a realm whose name is a text that may stand in a name
pub record IsShortName (name : Principal) : Type 0 where
  pub parts : AreShortParts name.parts
  pub realm : IsTextWithin 255 name.realm

-- where at most 32 services have delegated the evidence, and P12 holds, at most 32 have delegated the new ticket
abbrev pub HasFewServices : Type 0
HasFewServices =
    (dir : DirectoryValue) (at : ℕ) (realm : RealmRec) (server : Principal) (header evidence : TicketRec) → slice_get dir.realms at ≡ Some realm
    → length (services_of evidence.delegation) ≤ 32
    → chain_is_short dir at header evidence ≡ true
    → length (delegation_made realm server header evidence).services ≤ 32

-- the name that is asked for is a short text
abbrev pub HasShortTarget : Type 0
HasShortTarget = (server : Principal) → AreShortParts server.parts → IsTextWithin 4096 (target_text server)

-- and so is what comes behind the services of the evidence
abbrev pub HasShortRequestor : Type 0
HasShortRequestor = (realm : RealmRec) (header : TicketRec) → IsShortName header.client → All (λ text. IsTextWithin 4352 text) (requestor_text realm header)
