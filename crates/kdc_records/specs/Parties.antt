-- Who holds a ticket, whatever the version of the key.
use Rattle.std.specs.Prelude.{ℕ, ◌==◌, ◌&&◌, Bool, false, List, [], ◌∷◌}
use lib.Pointwise.{pointwise}
use Rattle.kdc_prelude.specs.Texts.{same_text}
use Rattle.krb_names.specs.declared.principal.Principal.{Principal}
use Rattle.kdc_records.specs.declared.holder.Holder.{Holder}
use Rattle.kdc_records.specs.declared.holder.Holder.TheVariants as holders

-- a realm's ticket-granting service, the trust of a realm in a partner, or the account of a number in a realm
pub data Party : Type 0 where
  Krbtgt : List ℕ → Party
  Trust : List ℕ → List ℕ → Party
  Account : List ℕ → ℕ → Party

abbrev pub party_of : Holder → Party
party_of (holders.Krbtgt realm version) = Krbtgt realm
party_of (holders.Trust realm partner version) = Trust realm partner
party_of (holders.Account realm number version) = Account realm number

abbrev pub version_of : Holder → ℕ
version_of (holders.Krbtgt realm version) = version
version_of (holders.Trust realm partner version) = version
version_of (holders.Account realm number version) = version

-- the same service, trust or account
unfoldable pub same_party : Party → Party → Bool
same_party (Krbtgt realm) (Krbtgt other) = same_text realm other
same_party (Trust realm partner) (Trust other other_partner) = same_text realm other && same_text partner other_partner
same_party (Account realm number) (Account other other_number) = same_text realm other && number == other_number
same_party _ _ = false

-- the client is the user of this name in this realm: it has that name for its one part, and is of that realm
abbrev pub is_user : List ℕ → List ℕ → Principal → Bool
is_user name realm client = pointwise same_text client.parts (name ∷ []) && same_text client.realm realm
