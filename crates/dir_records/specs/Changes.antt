-- What a change to a directory speaks of, and the forms that its values have.
use Rattle.std.specs.Prelude.{ℕ, ◌<◌, ◌^◌, ◌&&◌, Bool, true, nat_lt, nat_le, List, Option, None, Some}
use Rattle.krb_names.specs.Pieces.{is_name}
use Rattle.dir_records.specs.declared.change.Change.{Change}
use Rattle.dir_records.specs.declared.change.Change.TheVariants.{AddAccount, RemoveAccount, SetMark, SetKey, AddSpn, RemoveSpn, AddClassic, RemoveClassic, AddResource, RemoveResource, AddGroup, RemoveGroup, SetLife, AddReach, RemoveReach}
use Rattle.dir_records.specs.Forms.{is_account_name, is_key, is_positive, is_service_name}
use Rattle.dir_records.specs.IsDirectory.{IsKeyInRange, IsSidInRange, IsText}

-- the name of the realm that is changed
abbrev pub realm_of : Change → List ℕ
realm_of (AddAccount realm name number key) = realm
realm_of (RemoveAccount realm name) = realm
realm_of (SetMark realm name mark on) = realm
realm_of (SetKey realm name key) = realm
realm_of (AddSpn realm name spn) = realm
realm_of (RemoveSpn realm name spn) = realm
realm_of (AddClassic realm name spn) = realm
realm_of (RemoveClassic realm name spn) = realm
realm_of (AddResource realm name sid) = realm
realm_of (RemoveResource realm name sid) = realm
realm_of (AddGroup realm name number) = realm
realm_of (RemoveGroup realm name number) = realm
realm_of (SetLife realm life) = realm
realm_of (AddReach realm partner reach) = realm
realm_of (RemoveReach realm partner reach) = realm

-- the name of the account that is changed: one that is there, so a new one is none
abbrev pub named_account : Change → Option (List ℕ)
named_account (AddAccount realm name number key) = None
named_account (RemoveAccount realm name) = Some name
named_account (SetMark realm name mark on) = Some name
named_account (SetKey realm name key) = Some name
named_account (AddSpn realm name spn) = Some name
named_account (RemoveSpn realm name spn) = Some name
named_account (AddClassic realm name spn) = Some name
named_account (RemoveClassic realm name spn) = Some name
named_account (AddResource realm name sid) = Some name
named_account (RemoveResource realm name sid) = Some name
named_account (AddGroup realm name number) = Some name
named_account (RemoveGroup realm name number) = Some name
named_account (SetLife realm life) = None
named_account (AddReach realm partner reach) = None
named_account (RemoveReach realm partner reach) = None

-- the partner of the trust that is changed
abbrev pub partner_of : Change → Option (List ℕ)
partner_of (AddReach realm partner reach) = Some partner
partner_of (RemoveReach realm partner reach) = Some partner
partner_of _ = None

-- the test holds of what is there
abbrev pub passes : {X : Type 0} → (X → Bool) → Option X → Bool
passes test None = true
passes test (Some x) = test x

-- the forms of a new account, of a key, of a service, of a ticket's longest life (a second to a year), of a reached realm
abbrev pub has_value_forms : Change → Bool
has_value_forms (AddAccount realm name number key) = is_account_name name && is_positive number && is_key key
has_value_forms (SetKey realm name key) = is_key key
has_value_forms (AddSpn realm name spn) = is_service_name spn
has_value_forms (RemoveSpn realm name spn) = is_service_name spn
has_value_forms (AddClassic realm name spn) = is_service_name spn
has_value_forms (RemoveClassic realm name spn) = is_service_name spn
has_value_forms (SetLife realm life) = nat_lt 0 life && nat_le life 31536000
has_value_forms (AddReach realm partner reach) = is_name reach
has_value_forms (RemoveReach realm partner reach) = is_name reach
has_value_forms _ = true

-- the forms of the names that it speaks of, and of its values
abbrev pub has_forms : Change → Bool
has_forms change =
    is_name (realm_of change)
    && passes is_account_name (named_account change)
    && passes is_name (partner_of change)
    && has_value_forms change

-- the numbers, octets and texts of a change are in the ranges of their types
abbrev pub IsChangeInRange : Change → Type 0
IsChangeInRange (AddAccount realm name number key) = IsText realm × IsText name × (number < 2 ^ 32) × IsKeyInRange key
IsChangeInRange (RemoveAccount realm name) = IsText realm × IsText name
IsChangeInRange (SetMark realm name mark on) = IsText realm × IsText name
IsChangeInRange (SetKey realm name key) = IsText realm × IsText name × IsKeyInRange key
IsChangeInRange (AddSpn realm name spn) = IsText realm × IsText name × IsText spn
IsChangeInRange (RemoveSpn realm name spn) = IsText realm × IsText name × IsText spn
IsChangeInRange (AddClassic realm name spn) = IsText realm × IsText name × IsText spn
IsChangeInRange (RemoveClassic realm name spn) = IsText realm × IsText name × IsText spn
IsChangeInRange (AddResource realm name sid) = IsText realm × IsText name × IsSidInRange sid
IsChangeInRange (RemoveResource realm name sid) = IsText realm × IsText name × IsSidInRange sid
IsChangeInRange (AddGroup realm name number) = IsText realm × IsText name × (number < 2 ^ 32)
IsChangeInRange (RemoveGroup realm name number) = IsText realm × IsText name × (number < 2 ^ 32)
IsChangeInRange (SetLife realm life) = IsText realm × (life < 2 ^ 64)
IsChangeInRange (AddReach realm partner reach) = IsText realm × IsText partner × IsText reach
IsChangeInRange (RemoveReach realm partner reach) = IsText realm × IsText partner × IsText reach
