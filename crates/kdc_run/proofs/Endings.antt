-- How serving a caller ends.
use Rattle.std.proofs.Common.{◌≡◌, ◌∙◌, ℕ, zero, suc, ◌+◌, ◌-◌, ◌<◌, Bool, true, false, not, List, [], ◌∷◌, ◌++◌, length, refl, sym, ap, append_assoc, append-nil, length-append, arith, inl, inr}
use Rattle.std.specs.Prelude.{Option, None, Some, Ok, if◌then◌else◌, nat_eq}
use Rattle.std.specs.Io.KnownBytes.{Appends}
use Rattle.std.proofs.KnownBytes.{Appends-trans}
use Rattle.std.proofs.Math.Dec.{eqb-suc-zero}
use Rattle.kdc_prelude.specs.Causes.{Rose}
use Rattle.kb_base.specs.Callers.{CallerValue}
use Rattle.kdc_frames.specs.Exchanges.{answered, exchanges, framed_replies, inputs_after}
use Rattle.kdc_frames.specs.Frames.{Cut, End, Front, TooLong, Whole, frame, front_of, is_partial}
use Rattle.kdc_frames.specs.Notes.{leave_note, notes}
use Rattle.kdc_frames.specs.Requests.{Reading, leave_after_long, long_request, read_front, read_within, reading_of, with_request}
use Rattle.kdc_frames.specs.declared.leave.Leave.{Leave}
use Rattle.kdc_frames.specs.declared.leave.Leave.TheVariants.{Budget, Fault, FrameCut, FrameTooLong}
use Rattle.kdc_frames.proofs.FrameBytes.{front_end, piece_long, piece_whole}
use Rattle.kdc_frames.proofs.Readings.{read_spent, read_turn, reading_is}
use Rattle.kdc_run.specs.Talks.{IsTalk, SentReplies, has_failed}
use Rattle.kdc_run.specs.Turns.{IsServed as Answers, TakesTurn}
use Rattle.kdc_run.specs.Worlds.{Stage}
use Rattle.kdc_run.specs.declared.turn.Turn.TheVariants.{AnsweredLong, Broken, Ended, Failed, Unsent}
use Rattle.kdc_run.proofs.Sent.{replies_less, replies_some}
use Rattle.kdc_run.specs.Settled.{IsSoFar, SoFar, with_requests}
use Rattle.kdc_run.proofs.SoFar.{held_more, inputs_next, inputs_so, replies_more}

-- what a caller's bytes say, of which these are read last
abbrev last_reading : List (List ℕ) → Option Leave → List ℕ → Reading
last_reading requests leave rest = record { requests = requests; leave = leave; rest = rest }

read_so_far : (n more : ℕ) (a b : Stage) (far : IsSoFar n a b) (tail : List ℕ) → n + more ≡ 10000 → reading_of (far.bytes ++ tail) ≡ with_requests far.requests (read_within more tail)
read_so_far n more a b far tail all = reading_is (far.bytes ++ tail) ∙ ap (λ k. read_within k (far.bytes ++ tail)) (sym all) ∙ far.reads more tail

-- the end of a talk: the last bytes that were taken of the caller, the requests that they have, why it is left by its bytes, and
-- whether it failed
pub record IsEnd (n more : ℕ) (a b c : Stage) (requests : List (List ℕ)) (tail : List ℕ) (late : List (List ℕ)) (own : Option Leave) (failed : Bool) : Type 0 where
  pub all : n + more ≡ 10000
  pub split : b.caller.left ≡ tail ++ c.caller.left
  pub read : read_within more tail ≡ last_reading late own []
  pub read_all : failed ≡ false → read_within more (tail ++ c.caller.left) ≡ last_reading late own c.caller.left
  pub fails : has_failed c.caller ≡ failed
  pub sent : SentReplies failed (exchanges a.inputs (requests ++ late)) a.caller.sent c.caller.sent
  pub whole : own ≡ Some FrameCut → SentReplies false (exchanges a.inputs (requests ++ late)) a.caller.sent c.caller.sent
  pub inputs : c.inputs ≡ inputs_after (n + length late) a.inputs
  pub held : Appends a.held c.held (notes a.inputs (requests ++ late))

pub finish : (n more : ℕ) (a b c : Stage) (far : IsSoFar n a b) (tail : List ℕ) (late : List (List ℕ)) (own : Option Leave) (failed : Bool)
    → IsEnd n more a b c far.requests tail late own failed
    → (requests : ℕ) → requests ≡ n + length late → (leave : Option Leave) → leave ≡ (if failed then Some Fault else own) → IsTalk requests leave [] a c
finish n more a b c far tail late own failed end requests count leave reason =
    let bytes = far.bytes ++ tail in
    let is : reading_of bytes ≡ last_reading (far.requests ++ late) own [] =
    read_so_far n more a b far tail end.all ∙ ap (with_requests far.requests) end.read in
    let requests_are : (reading_of bytes).requests ≡ far.requests ++ late = ap (λ (r : Reading). r.requests) is in
    record {
      bytes = bytes;
      split = far.split ∙ ap (λ l. far.bytes ++ l) end.split ∙ sym (append_assoc far.bytes tail c.caller.left);
      served = record {
        no_more = ap (λ (r : Reading). r.rest) is;
        all = λ fine.
            ap reading_of (append_assoc far.bytes tail c.caller.left)
            ∙ read_so_far n more a b far (tail ++ c.caller.left) end.all
            ∙ ap (with_requests far.requests) (end.read_all (sym end.fails ∙ fine))
            ∙ sym (ap (λ (r : Reading). record r { rest = c.caller.left }) is);
        replies = rw (end.fails, requests_are) end.sent;
        whole = λ cut. rw requests_are (end.whole (sym (ap (λ (r : Reading). r.leave) is) ∙ cut));
      };
      count = count ∙ ap (λ k. k + length late) (sym far.count) ∙ sym (length-append far.requests late) ∙ sym (ap length requests_are);
      reason = reason ∙ ap (λ f. if f then Some Fault else own) (sym end.fails) ∙ ap (λ (o : Option Leave). if has_failed c.caller then Some Fault else o) (sym (ap (λ (r : Reading). r.leave) is));
      inputs = end.inputs ∙ ap (λ k. inputs_after k a.inputs) (sym count);
      held = rw (append-nil (notes a.inputs (reading_of bytes).requests), requests_are) end.held;
    }

no_faults : (caller : CallerValue) → caller.faults ≡ 0 → has_failed caller ≡ false
no_faults caller e = rw e

some_faults : (caller : CallerValue) → Rose 0 caller.faults → has_failed caller ≡ true
some_faults caller e = by_faults caller.faults e
  where
    by_faults : (faults : ℕ) → Rose 0 faults → has_failed (record { left = []; sent = []; faults = faults }) ≡ true
    by_faults zero e = absurd (omega (arith, e))
    by_faults (suc faults) e = ap not (eqb-suc-zero faults)

-- nothing more was answered
none_more : (n : ℕ) (a b c : Stage) (far : IsSoFar n a b) → c.inputs ≡ b.inputs → c.inputs ≡ inputs_after (n + 0) a.inputs
none_more n a b c far e = e ∙ far.inputs ∙ ap (λ k. inputs_after k a.inputs) (plus_none n)
  where
    plus_none : (n : ℕ) → n ≡ n + 0
    plus_none n = omega arith

none_held : (n : ℕ) (a b c : Stage) (far : IsSoFar n a b) → c.held ≡ b.held → Appends a.held c.held (notes a.inputs (far.requests ++ []))
none_held n a b c far e = rw (e, append-nil far.requests) far.held

none_sent : (n : ℕ) (a b c : Stage) (far : IsSoFar n a b) → c.caller.sent ≡ b.caller.sent → c.caller.sent ≡ a.caller.sent ++ framed_replies (exchanges a.inputs (far.requests ++ []))
none_sent n a b c far e = e ∙ far.sent ∙ ap (λ requests. a.caller.sent ++ framed_replies (exchanges a.inputs requests)) (sym (append-nil far.requests))

left_over : (n : ℕ) → n < 10000 → n + suc (10000 - suc n) ≡ 10000
left_over n h = omega arith

nothing_on : (xs ys : List ℕ) → ys ≡ [] → xs ≡ xs ++ ys
nothing_on xs ys e = rw (e, append-nil xs)

read_front_of : (k : ℕ) (bytes : List ℕ) (front : Front) → front_of bytes ≡ front → read_within (suc k) bytes ≡ read_front k (read_within k) front
read_front_of k bytes front e = read_turn k bytes front e

pub ended : (n : ℕ) (a b c : Stage) → n < 10000 → SoFar n a b → TakesTurn (Ok Ended) b c → a.caller.faults ≡ 0 → IsTalk n None [] a c
ended n a b c h sofar turn none =
    let far = sofar none in
    let on = nothing_on b.caller.left c.caller.left turn.1.left_so in
    let read = read_front_of (10000 - suc n) b.caller.left End turn.0 in
    finish n (suc (10000 - suc n)) a b c far b.caller.left [] None false
    (record {
      all = left_over n h;
      split = on;
      read = read;
      read_all = λ _. ap (read_within (suc (10000 - suc n))) (sym on) ∙ read ∙ ap (last_reading [] None) (sym turn.1.left_so);
      fails = no_faults c.caller (turn.1.faults ∙ far.faults);
      sent = none_sent n a b c far turn.1.sent;
      whole = λ _. none_sent n a b c far turn.1.sent;
      inputs = none_more n a b c far turn.1.inputs;
      held = none_held n a b c far turn.1.held;
    }) n (omega arith) None refl

pub broken : (n : ℕ) (a b c : Stage) → n < 10000 → SoFar n a b → TakesTurn (Ok Broken) b c → a.caller.faults ≡ 0 → IsTalk n (Some FrameCut) [] a c
broken n a b c h sofar turn none =
    let far = sofar none in
    let on = nothing_on b.caller.left c.caller.left turn.1.left_so in
    let read = read_front_of (10000 - suc n) b.caller.left Cut turn.0 in
    finish n (suc (10000 - suc n)) a b c far b.caller.left [] (Some FrameCut) false
    (record {
      all = left_over n h;
      split = on;
      read = read;
      read_all = λ _. ap (read_within (suc (10000 - suc n))) (sym on) ∙ read ∙ ap (last_reading [] (Some FrameCut)) (sym turn.1.left_so);
      fails = no_faults c.caller (turn.1.faults ∙ far.faults);
      sent = none_sent n a b c far turn.1.sent;
      whole = λ _. none_sent n a b c far turn.1.sent;
      inputs = none_more n a b c far turn.1.inputs;
      held = none_held n a b c far turn.1.held;
    }) n (omega arith) (Some FrameCut) refl

-- what less than a frame says
partial_reading : (k : ℕ) (part : List ℕ) (front : Front) → front_of part ≡ front → is_partial front → (own : Option Leave) × (read_within (suc k) part ≡ last_reading [] own [])
partial_reading k part End e h = (None, read_front_of k part End e)
partial_reading k part Cut e h = (Some FrameCut, read_front_of k part Cut e)
partial_reading k part (TooLong rest) e h = absurd h
partial_reading k part (Whole message rest) e h = absurd h

pub failed : (n : ℕ) (a b c : Stage) → n < 10000 → SoFar n a b → TakesTurn (Ok Failed) b c → a.caller.faults ≡ 0 → IsTalk n (Some Fault) [] a c
failed n a b c h sofar turn none =
    let far = sofar none in
    let reading = partial_reading (10000 - suc n) turn.part (front_of turn.part) refl turn.partial in
    let rose : Rose 0 c.caller.faults = rw far.faults at turn.faults in
    finish n (suc (10000 - suc n)) a b c far turn.part [] reading.0 true
    (record {
      all = left_over n h;
      split = turn.taken;
      read = reading.1;
      read_all = λ e. absurd (cc);
      fails = some_faults c.caller rose;
      sent = replies_less (exchanges a.inputs (far.requests ++ [])) a.caller.sent c.caller.sent (none_sent n a b c far turn.sent);
      whole = λ _. none_sent n a b c far turn.sent;
      inputs = none_more n a b c far turn.inputs;
      held = none_held n a b c far turn.held;
    }) n (omega arith) (Some Fault) refl

more_inputs : (n : ℕ) (a b c : Stage) (request : List ℕ) (far : IsSoFar n a b) (front : Front) (whole : Bool) → Answers request front whole b c → c.inputs ≡ inputs_after (n + length (request ∷ [])) a.inputs
more_inputs n a b c request far front whole turn = inputs_next n a b c request far turn.answer

pub answered_long : (n : ℕ) (a b c : Stage) → n < 10000 → SoFar n a b → TakesTurn (Ok AnsweredLong) b c → a.caller.faults ≡ 0 → IsTalk (n + 1) (Some (leave_after_long (10000 - suc n))) [] a c
answered_long n a b c h sofar turn none =
    let far = sofar none in
    let piece = piece_long b.caller.left c.caller.left turn.read in
    let is = inputs_so n a b far in
    let sent : SentReplies false (exchanges a.inputs (far.requests ++ long_request ∷ [])) a.caller.sent c.caller.sent =
    turn.sent.0 ∙ ap (λ l. l ++ frame (answered b.inputs long_request).reply) far.sent ∙ append_assoc a.caller.sent _ _ ∙ ap (λ l. a.caller.sent ++ l) (sym (replies_more a.inputs b.inputs far.requests long_request is)) in
    finish n (suc (10000 - suc n)) a b c far piece.piece (long_request ∷ []) (Some (leave_after_long (10000 - suc n))) false
    (record {
      all = left_over n h;
      split = piece.whole;
      read = read_front_of (10000 - suc n) piece.piece (TooLong []) (ap front_of (sym (append-nil piece.piece)) ∙ piece.each []);
      read_all = λ _. read_front_of (10000 - suc n) (piece.piece ++ c.caller.left) (TooLong c.caller.left) (piece.each c.caller.left);
      fails = no_faults c.caller (turn.sent.1 ∙ far.faults);
      sent = sent;
      whole = λ _. sent;
      inputs = more_inputs n a b c long_request far _ true turn;
      held = held_more n a b c long_request far is turn.answer;
    }) (n + 1) refl (Some (leave_after_long (10000 - suc n))) refl

-- nothing stands behind the last frame
nothing_more : (more : ℕ) → (leave : Option Leave) × (read_within more [] ≡ last_reading [] leave []) × (leave ≡ Some FrameCut → ⊥)
nothing_more zero = (Some Budget, read_spent [], λ e. absurd (cc))
nothing_more (suc more) = (None, read_turn more [] End front_end, λ e. absurd (cc))

after_long : (more : ℕ) → Some (leave_after_long more) ≡ Some FrameCut → ⊥
after_long more e = by_test (nat_eq more 0) e
  where
    by_test : (none : Bool) → Some (if none then Budget else FrameTooLong) ≡ Some FrameCut → ⊥
    by_test true e = absurd (cc)
    by_test false e = absurd (cc)

-- a request was answered, and the caller failed at its reply
unsent_with : (n : ℕ) (a b c : Stage) → n < 10000 → (far : IsSoFar n a b) (request piece : List ℕ) (own : Option Leave) (front : Front)
    → b.caller.left ≡ piece ++ c.caller.left → read_within (suc (10000 - suc n)) piece ≡ last_reading (request ∷ []) own [] → (own ≡ Some FrameCut → ⊥) → Answers request front false b c → IsTalk (n + 1) (Some Fault) [] a c
unsent_with n a b c h far request piece own front split read uncut turn =
    let is = inputs_so n a b far in
    let rose : Rose 0 c.caller.faults = rw far.faults at turn.sent.1 in
    finish n (suc (10000 - suc n)) a b c far piece (request ∷ []) own true
    (record {
      all = left_over n h;
      split = split;
      read = read;
      read_all = λ e. absurd (cc);
      fails = some_faults c.caller rose;
      sent = replies_some a.inputs b.inputs far.requests request is a.caller.sent b.caller.sent c.caller.sent far.sent turn.sent.0;
      whole = λ cut. absurd (uncut cut);
      inputs = more_inputs n a b c request far front false turn;
      held = held_more n a b c request far is turn.answer;
    }) (n + 1) refl (Some Fault) refl

pub unsent : (n : ℕ) (a b c : Stage) → n < 10000 → SoFar n a b → TakesTurn (Ok Unsent) b c → a.caller.faults ≡ 0 → IsTalk (n + 1) (Some Fault) [] a c
unsent n a b c h sofar turn none =
    let far = sofar none in
    elim turn [
      | inl served ↦
          (let piece = piece_whole b.caller.left served.0 c.caller.left served.1.read in
          let rest = nothing_more (10000 - suc n) in
          unsent_with n a b c h far served.0 piece.piece rest.0 _ piece.whole
          (read_front_of (10000 - suc n) piece.piece (Whole served.0 []) (ap front_of (sym (append-nil piece.piece)) ∙ piece.each []) ∙ ap (with_request served.0) rest.1)
          rest.2 served.1)
      | inr long ↦
          (let piece = piece_long b.caller.left c.caller.left long.read in
          unsent_with n a b c h far long_request piece.piece (Some (leave_after_long (10000 - suc n))) _ piece.whole
          (read_front_of (10000 - suc n) piece.piece (TooLong []) (ap front_of (sym (append-nil piece.piece)) ∙ piece.each []))
          (after_long (10000 - suc n)) long)
    ]

pub spent : (a b : Stage) → SoFar 10000 a b → a.caller.faults ≡ 0 → IsTalk 10000 (Some Budget) [] a b
spent a b sofar none =
    let far = sofar none in
    finish 10000 0 a b b far [] [] (Some Budget) false
    (record {
      all = refl;
      split = refl;
      read = read_spent [];
      read_all = λ _. read_spent b.caller.left;
      fails = no_faults b.caller far.faults;
      sent = none_sent 10000 a b b far refl;
      whole = λ _. none_sent 10000 a b b far refl;
      inputs = none_more 10000 a b b far refl;
      held = none_held 10000 a b b far refl;
    }) 10000 refl (Some Budget) refl

-- the note that the caller is left
pub noted : (requests : ℕ) (leave : Option Leave) (a b : Stage) (held : Option (List ℕ)) → IsTalk requests leave [] a b → Appends b.held held (leave_note leave) → IsTalk requests leave (leave_note leave) a (record b { held = held })
noted requests leave a b held talk note = record {
  bytes = talk.bytes;
  split = talk.split;
  served = talk.served;
  count = talk.count;
  reason = talk.reason;
  inputs = talk.inputs;
  held =
      let one = rw (append-nil (notes a.inputs (reading_of talk.bytes).requests)) at talk.held in
      Appends-trans a.held b.held held _ _ one note;
}
