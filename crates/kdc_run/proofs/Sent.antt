-- What a caller was sent that failed.
use Rattle.std.proofs.Common.{◌≡◌, ◌∙◌, ℕ, ◌+◌, ◌-◌, ◌≤◌, true, List, [], ◌∷◌, ◌++◌, length, take, drop, sym, ap, append_assoc, length-append, arith, take-append-drop}
use Rattle.std.proofs.Math.Seq.{take-append-add, take-length}
use lib.Seq.{take-append_seam}
use Rattle.kdc_frames.specs.Exchanges.{Exchange, Inputs, answered, exchange_of, exchanges, framed_replies, inputs_after}
use Rattle.kdc_frames.specs.Frames.{frame}
use Rattle.kdc_frames.proofs.Histories.{exchanges_on, exchanges_one, frames_on}
use Rattle.kdc_run.proofs.SoFar.{replies_more}
use Rattle.kdc_run.specs.Talks.{SentReplies}

-- the framed replies of fewer exchanges are no longer
fewer : (n : ℕ) (history : List Exchange) → length (framed_replies (take n history)) ≤ length (framed_replies history)
fewer n history =
    let whole : length (framed_replies history) ≡ length (framed_replies (take n history)) + length (framed_replies (drop n history)) =
    ap (λ h. length (framed_replies h)) (sym (take-append-drop n history)) ∙ ap length (frames_on (take n history) (drop n history)) ∙ length-append (framed_replies (take n history)) (framed_replies (drop n history)) in
    omega (arith, whole)

-- all replies were sent, though the caller failed
pub replies_less : (history : List Exchange) (old new : List ℕ) → new ≡ old ++ framed_replies history → SentReplies true history old new
replies_less history old new e =
    (length (framed_replies history), e ∙ ap (λ l. old ++ l) (sym (take-length (framed_replies history))), fewer (length history - 1) history)

all_but_one : (history : List Exchange) (last : Exchange) → take (length (history ++ last ∷ []) - 1) (history ++ last ∷ []) ≡ history
all_but_one history last = ap (λ n. take n (history ++ last ∷ [])) (one_less history last) ∙ take-append_seam history (last ∷ [])
  where
    one_less : (history : List Exchange) (last : Exchange) → length (history ++ last ∷ []) - 1 ≡ length history
    one_less history last = omega (arith, length-append history (last ∷ []))

-- a front of the last reply was sent
pub replies_some : (inputs mid : Inputs) (requests : List (List ℕ)) (request : List ℕ) → mid ≡ inputs_after (length requests) inputs
    → (first old new : List ℕ) → old ≡ first ++ framed_replies (exchanges inputs requests) → ((n : ℕ) × (new ≡ old ++ take n (frame (answered mid request).reply)))
    → SentReplies true (exchanges inputs (requests ++ request ∷ [])) first new
replies_some inputs mid requests request is first old new before part =
    let early = exchanges inputs requests in
    let last = frame (answered mid request).reply in
    let whole = replies_more inputs mid requests request is in
    let apart : exchanges inputs (requests ++ request ∷ []) ≡ early ++ exchange_of (inputs_after (length requests) inputs) request ∷ [] =
    exchanges_on inputs requests (request ∷ []) ∙ ap (λ h. early ++ h) (exchanges_one (inputs_after (length requests) inputs) request) in (
      length (framed_replies early) + part.0,
      part.1 ∙ ap (λ l. l ++ take part.0 last) before ∙ append_assoc first (framed_replies early) (take part.0 last)
          ∙ ap (λ l. first ++ l) (sym (ap (take (length (framed_replies early) + part.0)) whole ∙ take-append-add (framed_replies early) last part.0)),
      fits early (exchange_of (inputs_after (length requests) inputs) request) (exchanges inputs (requests ++ request ∷ [])) part.0 apart,
    )
  where
    fits : (early : List Exchange) (last : Exchange) (history : List Exchange) (n : ℕ) → history ≡ early ++ last ∷ [] → length (framed_replies (take (length history - 1) history)) ≤ length (framed_replies early) + n
    fits early last history n e = rw (e, all_but_one early last) (omega arith)
