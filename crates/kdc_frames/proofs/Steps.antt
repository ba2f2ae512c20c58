-- Lemmas on frames that are read and sent piece by piece.
use Rattle.std.proofs.Common.{◌≡◌, ◌∙◌, ℕ, zero, suc, ◌+◌, ◌-◌, ◌<◌, ◌≤◌, List, [], ◌∷◌, ◌++◌, take, drop, length, refl, sym, ap, append_assoc, append-nil, arith, length-append}
use Rattle.std.specs.Prelude.{Result, Ok, Err}
use Rattle.std.specs.Int.{from_be_bytes, to_be_bytes, w32}
use Rattle.std.proofs.Math.Seq.{take-add, take-append-add, take-length}
use Rattle.std.proofs.lemmas.List.{length-drop, length-take-le, take-append-le, take_all}
use borrow.Rule.Slice.PartMut.{post_of, put_mid}
use Rattle.kb_base.specs.Callers.{CallerValue}
use Rattle.kb_base.specs.Faults.{RisesBy}
use Rattle.kb_base.specs.declared.fault.DeviceFault.{DeviceFault}
use Rattle.kb_base.specs.declared.fault.DeviceFault.TheVariants.{Failed as failed, NoMemory}
use Rattle.kb_base.specs.declared.fault.Failed.{Failed}
use Rattle.kdc_frames.specs.Frames.{Cut, End, Front, Whole, body_of, frame, front_of, is_partial}
use Rattle.kdc_frames.specs.Moves.{FrameRead, ReadsFrame, SendsPiece, Sent}
use Rattle.kdc_frames.specs.Pieces.{BodyRead, Fails, Fills, Gives, Loses, Lost, ReadsBody, Takes}
use Rattle.kdc_frames.specs.declared.frame.Frame.{Frame}
use Rattle.kdc_frames.specs.declared.frame.Frame.TheVariants.{Cut as cut, End as at_end, Next}
use Rattle.kdc_frames.specs.declared.frame.Request.TheVariants.{TooLong, Whole as whole}
use Rattle.kdc_frames.proofs.FrameBytes.{body_cut, body_empty, body_long, body_whole, front_body, front_cut, front_end}

-- ---- reading into a buffer

pub loses_none : (caller : CallerValue) → Loses [] caller caller
loses_none caller = record { bytes = refl; sent = refl; faults = refl }

pub loses_more : (before piece both buf : List ℕ) (count : ℕ) → both ≡ before ++ take count buf → (a b c : CallerValue) → Loses before a b → Gives count buf b c → Loses both a c
loses_more before piece both buf count is a b c p q = record {
  bytes = p.bytes ∙ ap (λ l. before ++ l) q.bytes ∙ sym (append_assoc before (take count buf) c.left) ∙ ap (λ l. l ++ c.left) (sym is);
  sent = q.sent ∙ p.sent;
  faults = q.faults ∙ p.faults;
}

-- what is read into the rest of a buffer
pub read_into : (at k count : ℕ) (buf sub : List ℕ) → at ≤ length buf → count ≤ length sub → take (at + count) (put_mid at k buf sub) ≡ take at buf ++ take count sub
read_into at k count buf sub fits few =
    ap (λ n. take (n + count) (put_mid at k buf sub)) (sym (length-take-le at buf fits))
    ∙ take-append-add (take at buf) (sub ++ post_of at k buf) count
    ∙ ap (λ l. take at buf ++ l) (take-append-le count sub (post_of at k buf) few)

pub read_within_room : (at k count : ℕ) (buf sub : List ℕ) → at ≤ length buf → count ≤ length sub → at + count ≤ length (put_mid at k buf sub)
read_within_room at k count buf sub fits few =
    omega (arith, length-append (take at buf) (sub ++ post_of at k buf), length-append sub (post_of at k buf), length-take-le at buf fits)

-- the end of the caller's bytes
pub fills_end : (at : ℕ) (buf sub : List ℕ) → 0 < length sub → (a b c : CallerValue) → Loses (take at buf) a b → Gives 0 sub b c → Fills buf (Ok at) a c
fills_end at buf sub room a b c p q = record {
  bytes = (p.bytes ∙ ap (λ l. take at buf ++ l) q.bytes, λ _. q.end refl room);
  sent = q.sent ∙ p.sent;
  cause = let same : c.faults ≡ a.faults = q.faults ∙ p.faults in record { later = omega (arith, same); failed = tt; kept = same };
}

pub fills_whole : (at : ℕ) (buf : List ℕ) → length buf ≤ at → (a b : CallerValue) → Loses (take at buf) a b → Fills buf (Ok at) a b
fills_whole at buf full a b p = record {
  bytes = (p.bytes, λ less. absurd (omega arith));
  sent = p.sent;
  cause = let same : b.faults ≡ a.faults = p.faults in record { later = omega (arith, same); failed = tt; kept = same };
}

pub fills_not : (fault : Failed) (at : ℕ) (buf after : List ℕ) → at < length buf → length after ≡ length buf → (a b c : CallerValue) → Loses (take at buf) a b → Lost b c → Fills after (Err fault) a c
fills_not fault at buf after less same a b c p q = record {
  bytes = (take at buf, p.bytes ∙ ap (λ l. take at buf ++ l) (sym q.left_so), (let n : length (take at buf) ≡ at = length-take-le at buf (omega arith) in omega (arith, n, same)));
  sent = q.sent ∙ p.sent;
  cause = record { later = (let e = p.faults in omega (arith, q.later)); failed = rw p.faults at q.faults; kept = tt };
}

-- ---- a body

pub body_is_long : (said : ℕ) → 131072 < said → (a : CallerValue) → ReadsBody said (Ok (Next TooLong)) a a
body_is_long said long a = record { bytes = body_long said a.left long; sent = refl; cause = record { later = omega arith; failed = refl } }

pub body_is_empty : (a : CallerValue) → ReadsBody 0 (Ok (Next (whole []))) a a
body_is_empty a = record { bytes = body_empty a.left; sent = refl; cause = record { later = omega arith; failed = refl } }

pub body_wants_memory : (said : ℕ) → 0 < said → said ≤ 131072 → (a : CallerValue) → ReadsBody said (Err NoMemory) a a
body_wants_memory said some fits a = record { bytes = ([], refl, rw (body_cut said [] fits some) tt); sent = refl; cause = record { later = omega arith; failed = refl } }

pub body_is_cut : (said count : ℕ) (buf : List ℕ) → said ≤ 131072 → length buf ≡ said → count < said → (a b : CallerValue) → Fills buf (Ok count) a b → ReadsBody said (Ok cut) a b
body_is_cut said count buf fits room less a b p =
    let none = p.bytes.1 (omega arith) in
    let is : a.left ≡ take count buf = p.bytes.0 ∙ ap (λ l. take count buf ++ l) none ∙ append-nil (take count buf) in
    let n : length (take count buf) ≡ count = length-take-le count buf (omega arith) in
    record {
      bytes = (body_cut said a.left fits (omega (arith, ap length is, n)), none);
      sent = p.sent;
      cause = record { later = p.cause.later; failed = p.cause.kept };
    }

pub body_is_whole : (said count : ℕ) (buf : List ℕ) → said ≤ 131072 → length buf ≡ said → said ≤ count → (a b : CallerValue) → Fills buf (Ok count) a b → ReadsBody said (Ok (Next (whole buf))) a b
body_is_whole said count buf fits room enough a b p =
    let is : a.left ≡ buf ++ b.left = p.bytes.0 ∙ ap (λ l. l ++ b.left) (take_all count buf (omega arith)) in
    record {
      bytes = ap (body_of said) is ∙ ap (λ n. body_of n (buf ++ b.left)) (sym room) ∙ body_whole buf b.left (omega arith);
      sent = p.sent;
      cause = record { later = p.cause.later; failed = p.cause.kept };
    }

pub body_fails : (fault : Failed) (said : ℕ) (buf : List ℕ) → said ≤ 131072 → length buf ≡ said → (a b : CallerValue) → Fills buf (Err fault) a b → ReadsBody said (Err failed) a b
body_fails fault said buf fits room a b p = record {
  bytes = (p.bytes.0, p.bytes.1, rw (body_cut said p.bytes.0 fits (let n = p.bytes.2 in omega (arith, n))) tt);
  sent = p.sent;
  cause = record { later = p.cause.later; failed = p.cause.failed };
}

-- ---- a frame

pub frame_end : (head : List ℕ) → length head ≡ 4 → (a b : CallerValue) → Fills head (Ok 0) a b → ReadsFrame (Ok at_end) a b
frame_end head four a b p =
    let none = p.bytes.1 (omega arith) in
    let is : a.left ≡ [] = p.bytes.0 ∙ none in
    record { bytes = (ap front_of is ∙ front_end, none); sent = p.sent; cause = record { later = p.cause.later; failed = p.cause.kept } }

pub frame_cut : (head : List ℕ) (count : ℕ) → length head ≡ 4 → 0 < count → count < 4 → (a b : CallerValue) → Fills head (Ok count) a b → ReadsFrame (Ok cut) a b
frame_cut head count four some few a b p =
    let none = p.bytes.1 (omega arith) in
    let is : a.left ≡ take count head = p.bytes.0 ∙ ap (λ l. take count head ++ l) none ∙ append-nil (take count head) in
    let n : length (take count head) ≡ count = length-take-le count head (omega arith) in
    record {
      bytes = (ap front_of is ∙ front_cut (take count head) (omega (arith, n)) (omega (arith, n)), none);
      sent = p.sent;
      cause = record { later = p.cause.later; failed = p.cause.kept };
    }

-- less than a head
part_of_head : (part : List ℕ) → length part < 4 → is_partial (front_of part)
part_of_head [] few = rw front_end tt
part_of_head (b ∷ bs) few = rw (front_cut (b ∷ bs) (omega arith) few) tt

pub frame_fails : (fault : Failed) (head : List ℕ) → length head ≡ 4 → (a b : CallerValue) → Fills head (Err fault) a b → ReadsFrame (Err failed) a b
frame_fails fault head four a b p = record {
  bytes = (p.bytes.0, p.bytes.1, part_of_head p.bytes.0 (let n = p.bytes.2 in omega (arith, n)));
  sent = p.sent;
  cause = record { later = p.cause.later; failed = p.cause.failed };
}

-- a body after its head
after_head : (head old mid new : List ℕ) (result : Result Frame DeviceFault) → length head ≡ 4 → old ≡ head ++ mid → BodyRead (from_be_bytes w32 head) mid new result → FrameRead old new result
after_head head old mid new (Ok at_end) four is p = absurd p
after_head head old mid new (Ok cut) four is p = (ap front_of is ∙ front_body head mid four ∙ p.0, p.1)
after_head head old mid new (Ok (Next request)) four is p = ap front_of is ∙ front_body head mid four ∙ p
after_head head old mid new (Err fault) four is p =
    (head ++ p.0, is ∙ ap (λ l. head ++ l) p.1 ∙ sym (append_assoc head p.0 new), rw (front_body head p.0 four) p.2)

pub frame_body : (head : List ℕ) (count : ℕ) (result : Result Frame DeviceFault) → length head ≡ 4 → 4 ≤ count → (a b c : CallerValue) → Fills head (Ok count) a b → ReadsBody (from_be_bytes w32 head) result b c → ReadsFrame result a c
frame_body head count result four enough a b c p q =
    let is : a.left ≡ head ++ b.left = p.bytes.0 ∙ ap (λ l. l ++ b.left) (take_all count head (omega arith)) in
    record {
      bytes = after_head head a.left b.left c.left result four is q.bytes;
      sent = q.sent ∙ p.sent;
      cause = rw p.cause.kept at q.cause;
    }

-- ---- sending

pub takes_none : (caller : CallerValue) → Takes [] caller caller
takes_none caller = record { sent = sym (append-nil caller.sent); left_so = refl; faults = refl }

pub takes_more : (at count : ℕ) (piece : List ℕ) (a b c : CallerValue) → Takes (take at piece) a b → Takes (take count (take (length piece - at) (drop at piece))) b c → Takes (take (at + count) piece) a c
takes_more at count piece a b c p q = record {
  sent = q.sent ∙ ap (λ l. l ++ take count (take (length piece - at) (drop at piece))) p.sent ∙ append_assoc a.sent (take at piece) (take count (take (length piece - at) (drop at piece)))
      ∙ ap (λ rest. a.sent ++ (take at piece ++ take count rest)) (take_all (length piece - at) (drop at piece) (omega (arith, length-drop at piece))) ∙ ap (λ l. a.sent ++ l) (sym (take-add at count piece));
  left_so = q.left_so ∙ p.left_so;
  faults = q.faults ∙ p.faults;
}

pub sends_whole : (at : ℕ) (piece : List ℕ) → length piece ≤ at → (a b : CallerValue) → Takes (take at piece) a b → SendsPiece piece (Ok tt) a b
sends_whole at piece full a b p = record {
  bytes = p.sent ∙ ap (λ l. a.sent ++ l) (take_all at piece full);
  left = p.left_so;
  cause = let same : b.faults ≡ a.faults = p.faults in record { later = omega (arith, same); failed = same };
}

pub sends_not : (fault : DeviceFault) (at : ℕ) (piece : List ℕ) (a b c : CallerValue) → Takes (take at piece) a b → Fails fault b c → SendsPiece piece (Err fault) a c
sends_not fault at piece a b c p q = record {
  bytes = (at, q.sent ∙ p.sent);
  left = q.left_so ∙ p.left_so;
  cause = record { later = (let e = p.faults in omega (arith, q.later)); failed = rw p.faults at q.faults };
}

-- a front of bytes is one of more bytes
pub front_more : (n : ℕ) (xs ys : List ℕ) → (m : ℕ) × (take n xs ≡ take m (xs ++ ys))
front_more zero xs ys = (0, refl)
front_more (suc n) [] ys = (0, refl)
front_more (suc n) (x ∷ xs) ys = let rest = front_more n xs ys in (suc rest.0, ap (λ l. x ∷ l) rest.1)

pub sends_head_not : (fault : DeviceFault) (message : List ℕ) (a b : CallerValue) → SendsPiece (to_be_bytes w32 (length message)) (Err fault) a b → SendsPiece (frame message) (Err fault) a b
unfolding frame
sends_head_not fault message a b p =
    let more = front_more p.bytes.0 (to_be_bytes w32 (length message)) message in
    record { bytes = (more.0, p.bytes.1 ∙ ap (λ l. a.sent ++ l) more.1); left = p.left; cause = p.cause }

sent_after : (head message old mid new : List ℕ) (result : Result (Unit {0}) DeviceFault) → mid ≡ old ++ head → Sent message mid new result → Sent (head ++ message) old new result
sent_after head message old mid new (Ok u) is p = p ∙ ap (λ l. l ++ message) is ∙ append_assoc old head message
sent_after head message old mid new (Err fault) is p =
    (length head + p.0, p.1 ∙ ap (λ l. l ++ take p.0 message) is ∙ append_assoc old head (take p.0 message) ∙ ap (λ l. old ++ l) (sym (take-append-add head message p.0)))

pub sends_both : (message : List ℕ) (result : Result (Unit {0}) DeviceFault) (a b c : CallerValue) → SendsPiece (to_be_bytes w32 (length message)) (Ok tt) a b → SendsPiece message result b c → SendsPiece (frame message) result a c
unfolding frame
sends_both message result a b c p q = record {
  bytes = sent_after (to_be_bytes w32 (length message)) message a.sent b.sent c.sent result p.bytes q.bytes;
  left = q.left ∙ p.left;
  cause = rw p.cause.failed at q.cause;
}
