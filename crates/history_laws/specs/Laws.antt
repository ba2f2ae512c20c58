-- What holds of histories of exchanges, whatever their directories have to do with one another.
use Rattle.std.specs.Prelude.{◌≡◌, ◌↔◌, ℕ, true, false, List, take, slice_get, Some}
use Rattle.std.specs.List.{AllByRecursion}
use Rattle.kdc_frames.specs.Exchanges.{Exchange}
use Rattle.history_laws.specs.Chains.{Chain, IsTraced, asks_to_impersonate, is_impersonating, links, services_told}
use Rattle.history_laws.specs.Entries.{Entry, IsAnswered, entries, entry_at}
use Rattle.history_laws.specs.Places.{is_tainted, user_line}

-- in a history of answered exchanges each entry that is not tainted has a chain
abbrev pub ChainLaw : Type 0
ChainLaw = (history : List Exchange) (i : ℕ) (exchange : Exchange) (entry : Entry)
    → AllByRecursion IsAnswered history → slice_get history i ≡ Some exchange → entry_at exchange ≡ Some entry
    → is_tainted (entries (take i history)) entry ≡ false
    → Chain (entries (take i history)) entry

-- its ticket lists the services of its user's line, in order and whole
abbrev pub ListLaw : Type 0
ListLaw = (history : List Exchange) (i : ℕ) (exchange : Exchange) (entry : Entry)
    → AllByRecursion IsAnswered history → slice_get history i ≡ Some exchange → entry_at exchange ≡ Some entry
    → is_tainted (entries (take i history)) entry ≡ false
    → services_told entry.ticket ≡ links (user_line (entries (take i history)) entry)

-- its user's line goes back to an initial ticket, or to S4U2self for a user of the realm that granted it, with one user all along it
abbrev pub UserLaw : Type 0
UserLaw = (history : List Exchange) (i : ℕ) (exchange : Exchange) (entry : Entry)
    → AllByRecursion IsAnswered history → slice_get history i ≡ Some exchange → entry_at exchange ≡ Some entry
    → is_tainted (entries (take i history)) entry ≡ false
    → IsTraced (entries (take i history)) entry

-- a ticket is a service ticket on behalf of a user exactly where its request asks for S4U2self or S4U2proxy and aims at an account
abbrev pub ImpersonatingLaw : Type 0
ImpersonatingLaw = (exchange : Exchange) (entry : Entry) → IsAnswered exchange → entry_at exchange ≡ Some entry
    → (is_impersonating entry ≡ true) ↔ (asks_to_impersonate entry ≡ true)
