-- Lemmas on exchanges and notes, one after the other.
use Rattle.std.proofs.Common.{◌≡◌, ◌∙◌, ℕ, suc, zero, ◌+◌, List, [], ◌∷◌, ◌++◌, length, map, refl, sym, ap, append_assoc, append-nil, length-append, arith}
use Rattle.std.specs.Prelude.{flat_map}
use Rattle.kdc_frames.specs.Exchanges.{Exchange, Inputs, all_requests, answered, exchange_of, exchanges, framed_replies, inputs_after, later}
use Rattle.kdc_frames.specs.Frames.{frame, frames}
use Rattle.kdc_frames.specs.Notes.{batch_note, leave_note, note_line, notes, run_notes}
use Rattle.kdc_frames.specs.Requests.{Taken, leave_of, requests_of}

pub inputs_none : (inputs : Inputs) → inputs_after 0 inputs ≡ inputs
unfolding inputs_after
inputs_none inputs = refl

pub exchanges_none : (inputs : Inputs) → exchanges inputs [] ≡ []
unfolding exchanges
exchanges_none inputs = refl

pub notes_none : (inputs : Inputs) → notes inputs [] ≡ []
unfolding notes
notes_none inputs = refl

pub requests_none : all_requests [] ≡ []
unfolding all_requests
requests_none = refl

pub run_notes_none : (inputs : Inputs) → run_notes inputs [] ≡ []
unfolding run_notes
run_notes_none inputs = refl

-- one exchange more
pub inputs_more : (n : ℕ) (inputs : Inputs) → inputs_after (suc n) inputs ≡ later (inputs_after n inputs)
unfolding inputs_after
inputs_more zero inputs = refl
inputs_more (suc n) inputs = inputs_more n (later inputs)

pub inputs_one : (inputs : Inputs) → inputs_after 1 inputs ≡ later inputs
inputs_one inputs = inputs_more 0 inputs ∙ ap later (inputs_none inputs)

zero_plus : (m : ℕ) → 0 + m ≡ m
zero_plus m = omega arith

suc_plus : (n m : ℕ) → suc n + m ≡ suc (n + m)
suc_plus n m = omega arith

pub inputs_on : (n m : ℕ) (inputs : Inputs) → inputs_after (n + m) inputs ≡ inputs_after m (inputs_after n inputs)
unfolding inputs_after
inputs_on zero m inputs = ap (λ k. inputs_after k inputs) (zero_plus m)
inputs_on (suc n) m inputs = ap (λ k. inputs_after k inputs) (suc_plus n m) ∙ inputs_on n m (later inputs)

pub exchanges_on : (inputs : Inputs) (early late : List (List ℕ)) → exchanges inputs (early ++ late) ≡ exchanges inputs early ++ exchanges (inputs_after (length early) inputs) late
unfolding exchanges inputs_after
exchanges_on inputs [] late = refl
exchanges_on inputs (request ∷ early) late = ap (λ rest. exchange_of inputs request ∷ rest) (exchanges_on (later inputs) early late)

pub exchanges_length : (inputs : Inputs) (requests : List (List ℕ)) → length (exchanges inputs requests) ≡ length requests
unfolding exchanges
exchanges_length inputs [] = refl
exchanges_length inputs (request ∷ requests) = ap suc (exchanges_length (later inputs) requests)

pub notes_on : (inputs : Inputs) (early late : List (List ℕ)) → notes inputs (early ++ late) ≡ notes inputs early ++ notes (inputs_after (length early) inputs) late
unfolding notes inputs_after
notes_on inputs [] late = refl
notes_on inputs (request ∷ early) late =
    ap (λ rest. batch_note inputs ++ note_line (answered inputs request).note ++ rest) (notes_on (later inputs) early late)
    ∙ sym (append_assoc (batch_note inputs ++ note_line (answered inputs request).note) (notes (later inputs) early) (notes (inputs_after (length early) (later inputs)) late))

pub notes_one : (inputs : Inputs) (request : List ℕ) → notes inputs (request ∷ []) ≡ batch_note inputs ++ note_line (answered inputs request).note
unfolding notes
notes_one inputs request = append-nil (batch_note inputs ++ note_line (answered inputs request).note)

pub exchanges_one : (inputs : Inputs) (request : List ℕ) → exchanges inputs (request ∷ []) ≡ exchange_of inputs request ∷ []
unfolding exchanges
exchanges_one inputs request = refl

pub frames_on : (early late : List Exchange) → framed_replies (early ++ late) ≡ framed_replies early ++ framed_replies late
frames_on [] late = refl
frames_on (exchange ∷ early) late =
    ap (λ rest. frame exchange.reply ++ rest) (frames_on early late) ∙ sym (append_assoc (frame exchange.reply) (framed_replies early) (framed_replies late))

pub frames_one : (exchange : Exchange) → framed_replies (exchange ∷ []) ≡ frame exchange.reply
frames_one exchange = append-nil (frame exchange.reply)

-- the requests and the notes of one caller more
pub requests_on : (callers : List Taken) (taken : Taken) → all_requests (callers ++ taken ∷ []) ≡ all_requests callers ++ requests_of taken
unfolding all_requests
requests_on [] taken = append-nil (requests_of taken)
requests_on (first ∷ callers) taken = ap (λ l. requests_of first ++ l) (requests_on callers taken) ∙ sym (append_assoc (requests_of first) (all_requests callers) (requests_of taken))

pub run_notes_on : (inputs : Inputs) (callers : List Taken) (taken : Taken)
    → run_notes inputs (callers ++ taken ∷ []) ≡ run_notes inputs callers ++ (notes (inputs_after (length (all_requests callers)) inputs) (requests_of taken) ++ leave_note (leave_of taken))
unfolding run_notes all_requests
run_notes_on inputs [] taken = append-nil (notes inputs (requests_of taken) ++ leave_note (leave_of taken)) ∙ ap (λ i. notes i (requests_of taken) ++ leave_note (leave_of taken)) (sym (inputs_none inputs))
run_notes_on inputs (first ∷ callers) taken =
    let n = length (requests_of first) in
    let front = notes inputs (requests_of first) ++ leave_note (leave_of first) in
    ap (λ l. front ++ l) (run_notes_on (inputs_after n inputs) callers taken)
    ∙ ap (λ i. front ++ (run_notes (inputs_after n inputs) callers ++ (notes i (requests_of taken) ++ leave_note (leave_of taken))))
    (sym (inputs_on n (length (all_requests callers)) inputs) ∙ ap (λ k. inputs_after k inputs) (sym (length-append (requests_of first) (all_requests callers))))
    ∙ sym (append_assoc front (run_notes (inputs_after n inputs) callers) (notes (inputs_after (length (requests_of first ++ all_requests callers)) inputs) (requests_of taken) ++ leave_note (leave_of taken)))
