-- Authorization data that hold a PAC and nothing else.
use Rattle.std.specs.Prelude.{ℕ, pos, List, [], ◌∷◌}
use Rattle.der_forms.specs.Lists.{sequence_of}
use Rattle.krb_tickets.specs.declared.auth_item.AuthItem.{AuthItem}
use Rattle.krb_tickets.specs.AuthItem.{auth_item}

-- AD-WIN2K-PAC (RFC 4120, section 7.5.4) with these ad-data
abbrev pub pac_element : List ℕ → AuthItem
pac_element pac = record { kind = pos 128; content = pac }

-- AD-IF-RELEVANT (RFC 4120, section 5.2.6.1) with the PAC as its one element (MS-PAC, section 2.8.3)
abbrev pub pac_item : List ℕ → AuthItem
pac_item pac = record { kind = pos 1; content = (sequence_of auth_item).spelling (pac_element pac ∷ []) }

-- that one item
abbrev pub only_pac : List ℕ → List AuthItem
only_pac pac = pac_item pac ∷ []
