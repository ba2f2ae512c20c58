-- What holds of the history of a run, whatever its batches of changes, its moments and its callers are.
use Rattle.std.specs.Prelude.{◌≡◌, ◌↔◌, ℕ, true, false, List, flat_map, length, take, slice_get, None, Some, is_some}
use Rattle.std.specs.List.{AllByRecursion}
use Rattle.der_core.specs.Laws.{IsBytes}
use Rattle.dir_records.specs.IsDirectory.{IsDirectory}
use Rattle.tgs_core.specs.Verdicts.{verdict}
use Rattle.kdc_frames.specs.Exchanges.{Exchange, Inputs, exchanges_by_caller, history_of}
use Rattle.kdc_frames.specs.Requests.{Taken}
use Rattle.history_laws.specs.Chains.{Chain, IsTraced, links, services_told}
use Rattle.history_laws.specs.Entries.{Entry, entries, entry_at}
use Rattle.history_laws.specs.Openings.{IsOpened}
use Rattle.history_laws.specs.Places.{is_tainted, user_line}

-- ---- what a run is made from

-- 64 octets
pub record IsBlock (block : List ℕ) : Type 0 where
  pub octets_are : IsBytes block
  pub size : length block ≡ 64

-- the listed blocks of random octets are blocks
abbrev pub AreBlocks : List (List ℕ) → Type 0
AreBlocks blocks = AllByRecursion IsBlock blocks

-- the first directory is one, and the listed blocks of random octets are blocks
pub record AreInputs (inputs : Inputs) : Type 0 where
  pub directory_is : IsDirectory inputs.directory
  pub blocks_are : AreBlocks inputs.blocks.list

-- the bytes that were taken of each caller are octets
abbrev pub AreOctets : List Taken → Type 0
AreOctets callers = AllByRecursion (λ taken. IsBytes taken.bytes) callers

-- ---- what its history is

-- the entry has a chain, lists the services of its user's line, and that line goes back to a root with one user
pub record IsChained (earlier : List Entry) (entry : Entry) : Type 0 where
  pub chain : Chain earlier entry
  pub list : services_told entry.ticket ≡ links (user_line earlier entry)
  pub user : IsTraced earlier entry

-- each entry that is not tainted is chained, after the earlier ones; the ticket of each entry, tainted or not, opens to its record; and
-- an exchange is an entry exactly where no rule denies its request
pub record AreChained (history : List Exchange) : Type 0 where
  pub chained : (i : ℕ) (exchange : Exchange) (entry : Entry) → slice_get history i ≡ Some exchange → entry_at exchange ≡ Some entry
      → is_tainted (entries (take i history)) entry ≡ false → IsChained (entries (take i history)) entry
  pub opens : (i : ℕ) (exchange : Exchange) (entry : Entry) → slice_get history i ≡ Some exchange → entry_at exchange ≡ Some entry
      → IsOpened exchange entry
  pub granted : (i : ℕ) (exchange : Exchange) → slice_get history i ≡ Some exchange
      → (verdict exchange.directory exchange.moment exchange.request ≡ None) ↔ (is_some (entry_at exchange) ≡ true)

-- so is the history of every run
abbrev pub RunLaw : Type 0
RunLaw = (inputs : Inputs) (callers : List Taken) → AreInputs inputs → AreOctets callers → AreChained (history_of inputs callers)

-- ---- where its history comes from

-- the history of a run is the exchanges of its first caller, then those of the next one, and so on: each caller's begin with the inputs
-- that the callers before it leave, which is how a run serves its callers
abbrev pub CallersLaw : Type 0
CallersLaw = (inputs : Inputs) (callers : List Taken) → history_of inputs callers ≡ flat_map (λ exchanges. exchanges) (exchanges_by_caller inputs callers)
