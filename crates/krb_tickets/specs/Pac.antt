-- The PAC of a ticket (RFC 4120, sections 5.2.6.1 and 7.5.4), and the ticket that the ticket signature is over (MS-PAC, section 2.8.3).
use Rattle.std.specs.Prelude.{ℕ, ℤ, pos, negsuc, ◌^◌, List, [], ◌∷◌, length, map, Bool, false, nat_eq, nat_lt, Option, Some, None, is_some, Result, Ok, Err, if◌then◌else◌}
use Rattle.std.specs.List.{filter, flat_map, list_any}
use Rattle.der_core.specs.declared.refusal.DerRefusal.{DerRefusal}
use Rattle.der_core.specs.Codec.{whole}
use Rattle.der_forms.specs.Lists.{sequence_of}
use Rattle.krb_tickets.specs.declared.auth_item.AuthItem.{AuthItem}
use Rattle.krb_tickets.specs.declared.enc_ticket_part.EncTicketPart.{EncTicketPart}
use Rattle.krb_tickets.specs.AuthItem.{auth_item}

abbrev pub is_number : ℕ → ℤ → Bool
is_number n (pos k) = nat_eq k n
is_number n (negsuc k) = false

-- AD-IF-RELEVANT (RFC 4120, section 5.2.6.1)
abbrev pub is_relevant : AuthItem → Bool
is_relevant item = is_number 1 item.kind

-- AD-WIN2K-PAC (RFC 4120, section 7.5.4)
abbrev pub is_pac : AuthItem → Bool
is_pac item = is_number 128 item.kind

abbrev pub or_none : Result (List AuthItem) DerRefusal → List AuthItem
or_none (Ok elements) = elements
or_none (Err refusal) = []

-- the elements of an AuthorizationData; none where the bytes are not one, or are 2^32 or more (own limit)
unfoldable pub elements_in : List ℕ → List AuthItem
elements_in content = if nat_lt (length content) (2 ^ 32) then or_none (whole (sequence_of auth_item) content) else []

-- the elements within an item of the first level
abbrev pub elements_of : AuthItem → List AuthItem
elements_of item = if is_relevant item then elements_in item.content else []

-- the PACs among elements
abbrev pub pacs_in : List AuthItem → List (List ℕ)
pacs_in elements = map (λ element. element.content) (filter is_pac elements)

-- the PACs within items of the first level
abbrev pub pacs : List AuthItem → List (List ℕ)
pacs items = flat_map (λ item. pacs_in (elements_of item)) items

abbrev pub the_one : List (List ℕ) → Option (List ℕ)
the_one [] = None
the_one (x ∷ []) = Some x
the_one (x ∷ y ∷ xs) = None

-- the PAC, where there is exactly one
abbrev pub pac_of : EncTicketPart → Option (List ℕ)
pac_of part = the_one (pacs part.items)

-- a PAC becomes one zero byte
abbrev pub zeroed : AuthItem → AuthItem
zeroed element = if is_pac element then record element { content = 0 ∷ [] } else element

-- an item that has a PAC within it is spelt anew
abbrev pub item_without_pac : AuthItem → AuthItem
item_without_pac item =
    if list_any is_pac (elements_of item) then record item { content = (sequence_of auth_item).spelling (map zeroed (elements_of item)) }
    else item

-- the part with one zero byte for its PAC; a part without a PAC, or with several, as it is
abbrev pub without_pac : EncTicketPart → EncTicketPart
without_pac part = if is_some (pac_of part) then record part { items = map item_without_pac part.items } else part
