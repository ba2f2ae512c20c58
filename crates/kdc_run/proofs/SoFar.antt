-- The requests of a caller that were answered so far.
use Rattle.std.proofs.Common.{◌≡◌, ◌∙◌, ℕ, suc, ◌+◌, true, List, [], ◌∷◌, ◌++◌, length, refl, sym, ap, append_assoc, append-nil, length-append, arith}
use Rattle.std.specs.Prelude.{Ok}
use Rattle.std.specs.Io.KnownBytes.{Appends}
use Rattle.std.proofs.KnownBytes.{Appends-nil, Appends-trans}
use Rattle.kdc_frames.specs.Exchanges.{Inputs, answered, exchange_of, exchanges, framed_replies, inputs_after, later}
use Rattle.kdc_frames.specs.Frames.{Whole, frame}
use Rattle.kdc_frames.specs.Notes.{batch_note, note_line, notes}
use Rattle.kdc_frames.specs.Requests.{read_within}
use Rattle.kdc_frames.proofs.FrameBytes.{piece_whole}
use Rattle.kdc_frames.proofs.Histories.{exchanges_none, exchanges_on, exchanges_one, frames_on, frames_one, inputs_more, inputs_none, notes_none, notes_on, notes_one}
use Rattle.kdc_frames.proofs.Readings.{read_turn}
use Rattle.kdc_run.specs.Requests.{IsAnswered}
use Rattle.kdc_run.specs.Settled.{IsSoFar, SoFar, with_requests}
use Rattle.kdc_run.specs.Turns.{IsServed, TakesTurn}
use Rattle.kdc_run.specs.Worlds.{Stage}
use Rattle.kdc_run.specs.declared.turn.Turn.TheVariants.{Answered}

plus_zero : (n : ℕ) → 0 + n ≡ n
plus_zero n = omega arith

pub sofar_none : (stage : Stage) → SoFar 0 stage stage
sofar_none stage none = record {
  requests = [];
  bytes = [];
  split = refl;
  count = refl;
  reads = λ more rest. ap (λ n. read_within n rest) (plus_zero more);
  sent = sym (ap (λ history. stage.caller.sent ++ framed_replies history) (exchanges_none stage.inputs) ∙ append-nil stage.caller.sent);
  faults = none;
  inputs = sym (inputs_none stage.inputs);
  held = rw (notes_none stage.inputs) (Appends-nil stage.held);
}

-- the reply, the notes and the inputs of one request more
pub replies_more : (inputs mid : Inputs) (requests : List (List ℕ)) (request : List ℕ) → mid ≡ inputs_after (length requests) inputs
    → framed_replies (exchanges inputs (requests ++ request ∷ [])) ≡ framed_replies (exchanges inputs requests) ++ frame (answered mid request).reply
replies_more inputs mid requests request is =
    ap framed_replies (exchanges_on inputs requests (request ∷ []))
    ∙ frames_on (exchanges inputs requests) (exchanges (inputs_after (length requests) inputs) (request ∷ []))
    ∙ ap (λ history. framed_replies (exchanges inputs requests) ++ framed_replies history) (exchanges_one (inputs_after (length requests) inputs) request)
    ∙ ap (λ l. framed_replies (exchanges inputs requests) ++ l) (frames_one (exchange_of (inputs_after (length requests) inputs) request))
    ∙ ap (λ i. framed_replies (exchanges inputs requests) ++ frame (answered i request).reply) (sym is)

pub notes_more : (inputs mid : Inputs) (requests : List (List ℕ)) (request : List ℕ) → mid ≡ inputs_after (length requests) inputs
    → notes inputs (requests ++ request ∷ []) ≡ notes inputs requests ++ (batch_note mid ++ note_line (answered mid request).note)
notes_more inputs mid requests request is =
    notes_on inputs requests (request ∷ [])
    ∙ ap (λ l. notes inputs requests ++ l) (notes_one (inputs_after (length requests) inputs) request)
    ∙ ap (λ i. notes inputs requests ++ (batch_note i ++ note_line (answered i request).note)) (sym is)

pub held_more : (n : ℕ) (a b c : Stage) (request : List ℕ) (far : IsSoFar n a b) → b.inputs ≡ inputs_after (length far.requests) a.inputs → IsAnswered request b c
    → Appends a.held c.held (notes a.inputs (far.requests ++ request ∷ []))
held_more n a b c request far is answer =
    rw (notes_more a.inputs b.inputs far.requests request is) (Appends-trans a.held b.held c.held _ _ far.held answer.held)

pub inputs_so : (n : ℕ) (a b : Stage) (far : IsSoFar n a b) → b.inputs ≡ inputs_after (length far.requests) a.inputs
inputs_so n a b far = far.inputs ∙ ap (λ k. inputs_after k a.inputs) (sym far.count)

pub inputs_next : (n : ℕ) (a b c : Stage) (request : List ℕ) (far : IsSoFar n a b) → IsAnswered request b c → c.inputs ≡ inputs_after (n + 1) a.inputs
inputs_next n a b c request far answer =
    answer.inputs ∙ ap later far.inputs ∙ sym (inputs_more n a.inputs) ∙ ap (λ k. inputs_after k a.inputs) (one_more n)
  where
    one_more : (n : ℕ) → suc n ≡ n + 1
    one_more n = omega arith

one_on : (n more : ℕ) → (n + 1) + more ≡ n + suc more
one_on n more = omega arith

-- one turn of reading more
pub reads_more : (n more : ℕ) (a b : Stage) (far : IsSoFar n a b) (piece rest : List ℕ) → read_within ((n + 1) + more) ((far.bytes ++ piece) ++ rest) ≡ with_requests far.requests (read_within (suc more) (piece ++ rest))
reads_more n more a b far piece rest =
    ap (λ k. read_within k ((far.bytes ++ piece) ++ rest)) (one_on n more)
    ∙ ap (read_within (n + suc more)) (append_assoc far.bytes piece rest)
    ∙ far.reads (suc more) (piece ++ rest)

sofar_with : (n : ℕ) (a b c : Stage) (request : List ℕ) (far : IsSoFar n a b) → IsServed request (Whole request c.caller.left) true b c → IsSoFar (n + 1) a c
sofar_with n a b c request far turn =
    let piece = piece_whole b.caller.left request c.caller.left turn.read in
    let is = inputs_so n a b far in
    record {
      requests = far.requests ++ request ∷ [];
      bytes = far.bytes ++ piece.piece;
      split = far.split ∙ ap (λ l. far.bytes ++ l) piece.whole ∙ sym (append_assoc far.bytes piece.piece c.caller.left);
      count = length-append far.requests (request ∷ []) ∙ ap (λ k. k + 1) far.count;
      reads = λ more rest.
          reads_more n more a b far piece.piece rest
          ∙ ap (with_requests far.requests) (read_turn more (piece.piece ++ rest) (Whole request rest) (piece.each rest))
          ∙ ap (λ requests. record (read_within more rest) { requests = requests }) (sym (append_assoc far.requests (request ∷ []) (read_within more rest).requests));
      sent = turn.sent.0 ∙ ap (λ l. l ++ frame (answered b.inputs request).reply) far.sent ∙ append_assoc a.caller.sent _ _ ∙ ap (λ l. a.caller.sent ++ l) (sym (replies_more a.inputs b.inputs far.requests request is));
      faults = turn.sent.1 ∙ far.faults;
      inputs = inputs_next n a b c request far turn.answer;
      held = held_more n a b c request far is turn.answer;
    }

pub sofar_more : (n : ℕ) (a b c : Stage) → SoFar n a b → TakesTurn (Ok Answered) b c → SoFar (n + 1) a c
sofar_more n a b c far turn none = sofar_with n a b c turn.0 (far none) turn.1
