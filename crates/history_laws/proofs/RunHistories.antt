-- The history of a run is one of answered exchanges.
use Rattle.std.proofs.Common.{◌≡◌, ℕ, zero, suc, ◌<◌, ◌≤◌, ◌%◌, ◌⊎◌, inl, inr, Bool, true, false, List, [], ◌∷◌, drop, get_or, length, map, take, refl, sym, subst, arith}
use Rattle.std.specs.Prelude.{if◌then◌else◌, nat_eq, nat_lt, slice_get, slice_index, unwrap_or}
use Rattle.std.specs.Int.{from_be_bytes, to_be_bytes, w32, w64}
use Rattle.std.specs.List.{AllByRecursion, range_with_len}
use Rattle.std.proofs.lemmas.Bool.{cases_lt}
use Rattle.std.proofs.lemmas.List.{get_or_past, take-append-drop}
use Rattle.std.proofs.lemmas.List.FromFn.{get_or-map-range_with_len, length-map-range_with_len}
use Rattle.der_core.specs.Laws.{IsBytes}
use Rattle.der_core.specs.Steps.{IsBytes-front, IsBytes-rest}
use Rattle.pac_laws.proofs.Bytes.{IsBytes-be, IsBytes-zeros}
use Rattle.dir_records.proofs.Tables.{each}
use Rattle.dir_core.proofs.EditedRanges.{all_append}
use Rattle.change_lines.proofs.KeptDirectories.{after_keeps}
use Rattle.kb_base.specs.Batches.{first_batch}
use Rattle.kb_base.specs.Blocks.{drawn_one, numbered_block}
use Rattle.tgs_core.specs.Answers.{answered_to}
use Rattle.kdc_frames.specs.Exchanges.{Inputs, all_requests, answered, block_of, exchange_of, exchanges, history_of, later, moment_of}
use Rattle.kdc_frames.specs.Frames.{Cut, End, Front, TooLong, Whole, body_of, front_of}
use Rattle.kdc_frames.specs.Requests.{Reading, Taken, long_request, read_front, read_within, requests_of}
use Rattle.kdc_frames.proofs.Readings.{reading_is}
use Rattle.history_laws.specs.Entries.{IsAnswered}
use Rattle.history_laws.specs.Laws.{ChainLaw, ListLaw, UserLaw}
use Rattle.history_laws.specs.Openings.{EntriesAreGranted, OpensLaw}
use Rattle.history_laws.specs.Runs.{AreBlocks, AreInputs, AreOctets, IsBlock, RunLaw}

-- ---- blocks

mapped_bytes : (f : ℕ → ℕ) (n : ℕ) → ((i : ℕ) → f i < 256) → IsBytes (map f (range_with_len 0 n))
mapped_bytes f n small i = by_place (cases_lt i n)
  where
    by_place : (i < n) ⊎ (n ≤ i) → get_or (map f (range_with_len 0 n)) i 0 < 256
    by_place (inl inside) = rw (get_or-map-range_with_len f 0 n i i 0 inside (omega arith)) (small i)
    by_place (inr past) = rw (get_or_past (map f (range_with_len 0 n)) i 0 (omega (arith, length-map-range_with_len f 0 n))) (omega arith)

numbered_is : (number : ℕ) → IsBlock (numbered_block number)
unfolding numbered_block
numbered_is number =
    let octet : ℕ → ℕ = λ i. slice_index (to_be_bytes w64 number) (i % 8) in
    record { octets_are = mapped_bytes octet 64 (λ i. IsBytes-be w64 number (i % 8)); size = length-map-range_with_len octet 0 64 }

listed_is : (blocks : List (List ℕ)) (at : ℕ) (other : List ℕ) → AreBlocks blocks → IsBlock other → IsBlock (unwrap_or (slice_get blocks at) other)
listed_is [] at other all is = is
listed_is (block ∷ blocks) zero other all is = all.0
listed_is (block ∷ blocks) (suc at) other all is = listed_is blocks at other all.1 is

block_is : (inputs : Inputs) → AreInputs inputs → IsBlock (block_of inputs)
block_is inputs are = listed_is inputs.blocks.list _ (numbered_block (drawn_one inputs.blocks).drawn) are.blocks_are (numbered_is (drawn_one inputs.blocks).drawn)

-- ---- requests

take_bytes : (n : ℕ) (bytes : List ℕ) → IsBytes bytes → IsBytes (take n bytes)
take_bytes n bytes h = IsBytes-front (take n bytes) (drop n bytes) (subst IsBytes (sym (take-append-drop n bytes)) h)

drop_bytes : (n : ℕ) (bytes : List ℕ) → IsBytes bytes → IsBytes (drop n bytes)
drop_bytes n bytes h = IsBytes-rest (take n bytes) (drop n bytes) (subst IsBytes (sym (take-append-drop n bytes)) h)

-- what octets begin with is made of octets
abbrev AreFrontBytes : Front → Type 0
AreFrontBytes End = Unit {0}
AreFrontBytes Cut = Unit {0}
AreFrontBytes (TooLong rest) = IsBytes rest
AreFrontBytes (Whole message rest) = IsBytes message × IsBytes rest

body_bytes : (said : ℕ) (bytes : List ℕ) → IsBytes bytes → AreFrontBytes (body_of said bytes)
body_bytes said bytes h = by_tests (nat_lt 131072 said) (nat_lt (length bytes) said)
  where
    by_tests : (long cut : Bool) → AreFrontBytes (if long then TooLong bytes else (if cut then Cut else Whole (take said bytes) (drop said bytes)))
    by_tests true cut = h
    by_tests false true = tt
    by_tests false false = (take_bytes said bytes h, drop_bytes said bytes h)

front_bytes : (bytes : List ℕ) → IsBytes bytes → AreFrontBytes (front_of bytes)
unfolding front_of
front_bytes bytes h = by_tests (nat_eq (length bytes) 0) (nat_lt (length bytes) 4)
  where
    by_tests : (none cut : Bool) → AreFrontBytes (if none then End else (if cut then Cut else body_of (from_be_bytes w32 (take 4 bytes)) (drop 4 bytes)))
    by_tests true cut = tt
    by_tests false true = tt
    by_tests false false = body_bytes (from_be_bytes w32 (take 4 bytes)) (drop 4 bytes) (drop_bytes 4 bytes h)

long_bytes : IsBytes long_request
unfolding long_request
long_bytes = IsBytes-zeros 131073

abbrev AllBytes : List (List ℕ) → Type 0
AllBytes requests = AllByRecursion IsBytes requests

read_bytes : (more : ℕ) (bytes : List ℕ) → IsBytes bytes → AllBytes (read_within more bytes).requests
unfolding read_within
read_bytes zero bytes h = tt
read_bytes (suc more) bytes h = by_front (front_of bytes) (front_bytes bytes h) (λ rest k. read_bytes more rest k)
  where
    by_front : (front : Front) → AreFrontBytes front → ((rest : List ℕ) → IsBytes rest → AllBytes (read_within more rest).requests) → AllBytes (read_front more (read_within more) front).requests
    by_front End are rest_of = tt
    by_front Cut are rest_of = tt
    by_front (TooLong rest) are rest_of = (long_bytes, tt)
    by_front (Whole message rest) are rest_of = (are.0, rest_of rest are.1)

taken_bytes : (taken : Taken) → IsBytes taken.bytes → AllBytes (requests_of taken)
taken_bytes taken h = subst (λ (reading : Reading). AllBytes reading.requests) (sym (reading_is taken.bytes)) (read_bytes 10000 taken.bytes h)

all_bytes : (callers : List Taken) → AreOctets callers → AllBytes (all_requests callers)
unfolding all_requests
all_bytes [] are = tt
all_bytes (taken ∷ callers) are = all_append IsBytes (requests_of taken) (all_requests callers) (taken_bytes taken are.0) (all_bytes callers are.1)

-- ---- exchanges

later_are : (inputs : Inputs) → AreInputs inputs → AreInputs (later inputs)
later_are inputs are = record { directory_is = after_keeps inputs.directory (first_batch inputs.batches) are.directory_is; blocks_are = are.blocks_are }

replied_so : (inputs : Inputs) (request : List ℕ) → (answered inputs request).reply ≡ (answered_to (later inputs).directory (moment_of inputs) (block_of inputs) request).reply
unfolding answered
replied_so inputs request = refl

exchange_is : (inputs : Inputs) (request : List ℕ) → AreInputs inputs → IsBytes request → IsAnswered (exchange_of inputs request)
exchange_is inputs request are h = record {
  directory_is = (later_are inputs are).directory_is;
  request_is = h;
  block_is = (block_is inputs are).octets_are;
  block_has = (block_is inputs are).size;
  replied = replied_so inputs request;
}

exchanges_are : (inputs : Inputs) (requests : List (List ℕ)) → AreInputs inputs → AllBytes requests → AllByRecursion IsAnswered (exchanges inputs requests)
unfolding exchanges
exchanges_are inputs [] are all = tt
exchanges_are inputs (request ∷ requests) are all = (exchange_is inputs request are all.0, exchanges_are (later inputs) requests (later_are inputs are) all.1)

history_is : (inputs : Inputs) (callers : List Taken) → AreInputs inputs → AreOctets callers → AllByRecursion IsAnswered (history_of inputs callers)
history_is inputs callers are octets = exchanges_are inputs (all_requests callers) are (all_bytes callers octets)

-- what holds of all histories of answered exchanges holds of it
pub run_law : ChainLaw → ListLaw → UserLaw → OpensLaw → EntriesAreGranted → RunLaw
run_law chains lists users opens granted inputs callers are octets =
    let history = history_of inputs callers in
    let all = history_is inputs callers are octets in
    record {
      chained = λ i exchange entry at made clean. record {
        chain = chains history i exchange entry all at made clean;
        list = lists history i exchange entry all at made clean;
        user = users history i exchange entry all at made clean;
      };
      opens = λ i exchange entry at made. opens exchange entry (each IsAnswered history i exchange all at) made;
      granted = λ i exchange at. granted exchange (each IsAnswered history i exchange all at);
    }
