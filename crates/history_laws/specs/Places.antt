-- Which shown tickets were issued earlier, and by which entry. What counts is the party whose key opened the ticket, and what was sealed in
-- it; the seal, the confounder, the name outside the seal and the key's version do not.
use Rattle.std.specs.Prelude.{◌&&◌, Bool, true, List, [], ◌∷◌, Option, None, Some, is_some, if◌then◌else◌}
use Rattle.std.specs.List.{list_any}
use Rattle.krb_tickets.specs.SamePart.{same_part}
use Rattle.kdc_records.specs.Parties.{party_of, same_party}
use Rattle.tgs_core.specs.Grants.{ByAccount, ByEvidence, ByHeader, ForHeadersUser, ForUser, Grounds, ShownTicket, ticket_presented}
use Rattle.history_laws.specs.Entries.{Entry}

-- ---- what was shown for an entry

-- the header, and of S4U2proxy the evidence
abbrev pub presented : Grounds → List ShownTicket
presented (ByAccount account) = []
presented (ByHeader shown) = ticket_presented shown ∷ []
presented (ForUser shown account asked) = ticket_presented shown ∷ []
presented (ForHeadersUser shown asked) = ticket_presented shown ∷ []
presented (ByEvidence shown evidence) = ticket_presented shown ∷ evidence ∷ []

-- the ticket that vouches for the entry's user: the header, or of S4U2proxy the evidence; none where the user is an account of the realm
abbrev pub voucher : Grounds → Option ShownTicket
voucher (ByAccount account) = None
voucher (ByHeader shown) = Some (ticket_presented shown)
voucher (ForUser shown account asked) = None
voucher (ForHeadersUser shown asked) = Some (ticket_presented shown)
voucher (ByEvidence shown evidence) = Some evidence

-- ---- where a shown ticket was issued

-- the entry issued a ticket with this part to this party
abbrev pub is_issue : Entry → ShownTicket → Bool
is_issue entry shown = same_party (party_of entry.ticket.holder) (party_of shown.rec.holder) && same_part entry.part shown.part

-- an entry, and those before it
pub record Place : Type 0 where
  pub before : List Entry
  pub entry : Entry

-- the first entry that issued a shown ticket
abbrev pub place : List Entry → ShownTicket → Option Place
place [] shown = None
place (entry ∷ earlier) shown =
    if is_some (place earlier shown) then place earlier shown
    else (if is_issue entry shown then Some (record { before = earlier; entry = entry }) else None)

abbrev pub is_issued : List Entry → ShownTicket → Bool
is_issued earlier shown = is_some (place earlier shown)

-- ---- taint

-- a shown ticket was not issued, or the entry that issued it is tainted
abbrev pub is_taint : List Entry → ShownTicket → Bool
is_taint [] shown = true
is_taint (entry ∷ earlier) shown =
    if is_issued earlier shown then is_taint earlier shown
    else (if is_issue entry shown then list_any (is_taint earlier) (presented entry.grant.grounds) else true)

-- an entry is tainted where a ticket that was shown for it was not issued before it, or was issued by a tainted entry
abbrev pub is_tainted : List Entry → Entry → Bool
is_tainted earlier entry = list_any (is_taint earlier) (presented entry.grant.grounds)

-- ---- the line of a user

-- the entry that issued the voucher, the one that issued that entry's voucher, and so on
abbrev pub line_from : List Entry → Option ShownTicket → List Entry
line_from earlier None = []
line_from [] (Some shown) = []
line_from (entry ∷ earlier) (Some shown) =
    if is_issued earlier shown then line_from earlier (Some shown)
    else (if is_issue entry shown then entry ∷ line_from earlier (voucher entry.grant.grounds) else [])

-- the entry itself, and the line of its voucher
abbrev pub user_line : List Entry → Entry → List Entry
user_line earlier entry = entry ∷ line_from earlier (voucher entry.grant.grounds)
