-- What holds of the tickets that a KDC makes.
use Rattle.std.specs.Prelude.{◌≡◌, ℕ, ◌+◌, ◌<◌, ◌≤◌, ◌^◌, List, [], ◌∷◌, length, Some, Ok}
use Rattle.std.specs.List.{flat_map, AllByRecursion}
use Rattle.der_core.specs.Codec.{whole}
use Rattle.der_core.specs.Laws.{IsBytes}
use Rattle.krb_tickets.specs.declared.enc_ticket_part.EncTicketPart.{EncTicketPart}
use Rattle.krb_tickets.specs.declared.ticket.Ticket.{Ticket}
use Rattle.krb_tickets.specs.AuthItem.{auth_item}
use Rattle.krb_tickets.specs.EncTicketPart.{enc_ticket_part}
use Rattle.krb_tickets.specs.Pac.{pac_of, without_pac}
use Rattle.krb_tickets.specs.Ticket.{ticket}
use Rattle.ticket_laws.specs.OnlyPac.{only_pac}
use Rattle.ticket_laws.specs.Writable.{IsWritableItem, IsWritablePart, IsWritableTicket}

-- ---- a PAC alone in authorization data

-- the PAC is found
abbrev pub PacIsFound : Type 0
PacIsFound = (p : EncTicketPart) (pac : List ℕ) → length pac < 2 ^ 31 → pac_of (record p { items = only_pac pac }) ≡ Some pac

-- and without it one zero byte stands in its place
abbrev pub PacIsZeroed : Type 0
PacIsZeroed = (p : EncTicketPart) (pac : List ℕ) → length pac < 2 ^ 31 → without_pac (record p { items = only_pac pac }) ≡ record p { items = only_pac (0 ∷ []) }

-- at most 64 bytes stand round it
abbrev pub PacIsShort : Type 0
PacIsShort = (pac : List ℕ) → length (flat_map auth_item.spelling (only_pac pac)) ≤ 64 + length pac

-- it can be written
abbrev pub PacIsWritable : Type 0
PacIsWritable = (pac : List ℕ) → IsBytes pac → AllByRecursion IsWritableItem (only_pac pac)

-- ---- EncTicketPart

-- what meets the conditions can be written
abbrev pub PartFits : Type 0
PartFits = (p : EncTicketPart) → IsWritablePart p → enc_ticket_part.Fits p

-- and no other part whose octets are bytes can
abbrev pub PartIsWritable : Type 0
PartIsWritable = (p : EncTicketPart) → enc_ticket_part.Fits p → IsBytes p.key.raw → AllByRecursion (λ item. IsBytes item.content) p.items → IsWritablePart p

-- at most 2^14 bytes stand round the authorization data: up to 8,191 are the transited realms, and up to 2,642 the rest
abbrev pub PartIsShort : Type 0
PartIsShort = (p : EncTicketPart) → IsWritablePart p → length (enc_ticket_part.spelling p) ≤ 2 ^ 14 + length (flat_map auth_item.spelling p.items)

-- what was read meets the conditions, so it can be written
abbrev pub ReadPartIsWritable : Type 0
ReadPartIsWritable = (bytes : List ℕ) (p : EncTicketPart) → IsBytes bytes → whole enc_ticket_part bytes ≡ Ok p → IsWritablePart p

-- ---- Ticket

-- what meets the conditions can be written
abbrev pub TicketFits : Type 0
TicketFits = (t : Ticket) → IsWritableTicket t → ticket.Fits t

-- and no other ticket whose cipher is bytes can
abbrev pub TicketIsWritable : Type 0
TicketIsWritable = (t : Ticket) → ticket.Fits t → IsBytes t.sealed.cipher → IsWritableTicket t

-- at most 2^12 bytes stand round the cipher
abbrev pub TicketIsShort : Type 0
TicketIsShort = (t : Ticket) → IsWritableTicket t → length (ticket.spelling t) ≤ 2 ^ 12 + length t.sealed.cipher

-- what was read meets the conditions, so it can be written
abbrev pub ReadTicketIsWritable : Type 0
ReadTicketIsWritable = (bytes : List ℕ) (t : Ticket) → IsBytes bytes → whole ticket bytes ≡ Ok t → IsWritableTicket t
