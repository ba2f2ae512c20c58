-- Numbers, bytes and pointers are lawful.
use Rattle.std.proofs.Common.{◌≡◌, ℕ, ◌+◌, ◌*◌, ◌%◌, ◌<◌, ◌≤◌, ◌^◌, Bool, true, false, not, eqb, ltb, List, [], ◌∷◌, ◌++◌, length, take, drop, replicate, Ok, refl, sym, ap, subst, ◌∙◌, length-append, arith, lit<}
use Rattle.std.specs.Int.{Width, w8, w16, w32, byte_len, to_le_bytes, from_le_bytes}
use Rattle.std.proofs.lemmas.Bool.{ltb-false, le-ltb, ne_eqb}
use Rattle.std.proofs.lemmas.List.{take_at, drop_at, length-take, length-drop, length-replicate, take-append-drop}
use Rattle.std.proofs.lemmas.Nat.{le_bytes_2, le_bytes_4, from_le_bytes-to_le_bytes_2, from_le_bytes-to_le_bytes_4}
use Rattle.ndr_core.specs.declared.refusal.NdrCause.{NdrCause}
use Rattle.ndr_core.specs.declared.refusal.NdrCause.TheVariants.{Truncated}
use Rattle.ndr_core.specs.Place.{At, past, end_of, refusal}
use Rattle.ndr_core.specs.Layout.{Written}
use Rattle.ndr_core.specs.Fields.{gap, bytes_at, aligned_at, raw, number, put_number, within, exactly, is_between, pointer, pointer_to, is_there, put_pointer}
use Rattle.ndr_core.specs.Laws.{IsBytes, Passes, Finds, IsSound, Writes, IsLayout}
use Rattle.ndr_core.proofs.Steps.{bind_ok, good, ok_is, guard_ok, IsBytes-rest, IsBytes-passed}
use Rattle.ndr_core.proofs.LayoutLaws.{such_lawful}

abbrev at : ℕ → List ℕ → ℕ → At
at place bytes behind = record { place = place; bytes = bytes; behind = behind }

-- ---- bytes

pub bytes_found : (n : ℕ) (old new : At) (x : List ℕ) → bytes_at n old ≡ Ok (x, new) → Passes old x new × (length x ≡ n)
unfolding bytes_at
bytes_found n old new x e =
    let g = guard_ok (ltb (length old.bytes) n) (refusal Truncated (end_of old)) (good (take n old.bytes, past n old)) (x, new) e in
    let long : n ≤ length old.bytes = ltb-false _ _ g.0 in
    let len : length (take n old.bytes) ≡ n = omega (arith, length-take n old.bytes) in
    let made : Passes old (take n old.bytes) (past n old) = record { bytes = sym (take-append-drop n old.bytes); place = omega arith; behind = refl } in
    subst (λ (p : List ℕ × At). Passes old p.0 p.1 × (length p.0 ≡ n)) (ok_is (take n old.bytes, past n old) (x, new) g.1) (made, len)

pub bytes_only : (n place behind : ℕ) (x rest : List ℕ) → length x ≡ n → bytes_at n (at place (x ++ rest) behind) ≡ Ok (x, at (place + n) rest behind)
unfolding bytes_at
bytes_only n place behind x rest len =
    let long : ltb (length (x ++ rest)) n ≡ false = le-ltb _ _ (omega (arith, length-append x rest)) in
    rw (long, take_at x rest n len, drop_at x rest n len) refl

pub raw_lawful : (n : ℕ) → IsLayout (raw n)
raw_lawful n = record {
  found = λ old new x fits e. let f = bytes_found n old new x e in record { front = x; passes = f.0; is_ndr = (refl, f.1) };
  only = λ place behind front rest x d.
      let len : length front ≡ n = ap length d.0 ∙ d.1 in
      bytes_only n place behind front rest len ∙ ap (λ (f : List ℕ). good (f, at (place + n) rest behind)) d.0 ∙ ap (λ (k : ℕ). good (x, at (place + k) rest behind)) (sym len);
  spelt = λ old x fits sound short.
      record { front = x; bytes = refl; is_ndr = (refl, fits); sound = record { some = sound.some; few = omega (arith, sound.few, length-append old.bytes x) } };
  grows = λ old x. omega (arith, length-append old.bytes x);
}

-- ---- aligned bytes

record FindsAligned (width : ℕ) (old : At) (x : List ℕ) (new : At) : Type 0 where
  pub filler : List ℕ
  pub passes : Passes old (filler ++ x) new
  pub aligned : length filler ≡ gap width old.place
  pub sized : length x ≡ width

aligned_found : (width : ℕ) (old new : At) (x : List ℕ) → aligned_at width old ≡ Ok (x, new) → FindsAligned width old x new
unfolding aligned_at
aligned_found width old new x e =
    let g : ℕ = gap width old.place in
    let a = bind_ok (bytes_at (g + width) old) (λ x. Ok (drop g x.0, x.1)) (x, new) e in
    let f = bytes_found (g + width) old a.0.1 a.0.0 a.1 in
    let made : FindsAligned width old (drop g a.0.0) a.0.1 = record {
      filler = take g a.0.0;
      passes = subst (λ (front : List ℕ). Passes old front a.0.1) (sym (take-append-drop g a.0.0)) f.0;
      aligned = omega (arith, length-take g a.0.0, f.1);
      sized = omega (arith, length-drop g a.0.0, f.1);
    } in
    subst (λ (p : List ℕ × At). FindsAligned width old p.0 p.1) (ok_is (drop g a.0.0, a.0.1) (x, new) a.2) made

aligned_only : (width place behind : ℕ) (filler x rest : List ℕ) → length filler ≡ gap width place → length x ≡ width
    → aligned_at width (at place ((filler ++ x) ++ rest) behind) ≡ Ok (x, at (place + length (filler ++ x)) rest behind)
unfolding aligned_at
aligned_only width place behind filler x rest aligned sized =
    let len : length (filler ++ x) ≡ gap width place + width = omega (arith, length-append filler x) in
    rw (bytes_only (gap width place + width) place behind (filler ++ x) rest len, drop_at filler x (gap width place) aligned, len) refl

-- ---- numbers

pub record IsWide (w : Width) : Type 0 where
  pub len : (n : ℕ) → length (to_le_bytes w n) ≡ byte_len w
  pub back : (bytes : List ℕ) → length bytes ≡ byte_len w → IsBytes bytes → to_le_bytes w (from_le_bytes w bytes) ≡ bytes
  pub again : (n : ℕ) → n < 2 ^ (8 * byte_len w) → from_le_bytes w (to_le_bytes w n) ≡ n
  pub below : (bytes : List ℕ) → IsBytes bytes → from_le_bytes w bytes < 2 ^ (8 * byte_len w)

one_byte : (bytes : List ℕ) → length bytes ≡ 1 → IsBytes bytes → to_le_bytes w8 (from_le_bytes w8 bytes) ≡ bytes
one_byte [] len fits = absurd (omega arith)
one_byte (b ∷ []) len fits = let small : b < 256 = fits 0 in ap (λ (c : ℕ). c ∷ []) (omega arith)
one_byte (b ∷ c ∷ bytes) len fits = absurd (omega arith)

pub wide8 : IsWide w8
wide8 = record {
  len = λ n. refl;
  back = one_byte;
  again = λ n lt. omega arith;
  below = λ bytes fits. fits 0;
}

pub wide16 : IsWide w16
wide16 = record {
  len = λ n. refl;
  back = λ bytes len fits. le_bytes_2 bytes _ len fits refl;
  again = λ n lt. from_le_bytes-to_le_bytes_2 n lt;
  below = λ bytes fits. omega (arith, fits 0, fits 1);
}

pub wide32 : IsWide w32
wide32 = record {
  len = λ n. refl;
  back = λ bytes len fits. le_bytes_4 bytes _ len fits refl;
  again = λ n lt. from_le_bytes-to_le_bytes_4 n lt;
  below = λ bytes fits. omega (arith, fits 0, fits 1, fits 2, fits 3);
}

pub number_lawful : (w : Width) → IsWide w → IsLayout (number w)
number_lawful w wide = record {
  found = λ old new n fits e.
      let a = bind_ok (aligned_at (byte_len w) old) (λ x. Ok (from_le_bytes w x.0, x.1)) (n, new) e in
      let f = aligned_found (byte_len w) old a.0.1 a.0.0 a.1 in
      let own : IsBytes a.0.0 = IsBytes-rest f.filler a.0.0 (IsBytes-passed old (f.filler ++ a.0.0) a.0.1 f.passes fits) in
      let made : Finds (number w) old (from_le_bytes w a.0.0) a.0.1 = record {
        front = f.filler ++ a.0.0;
        passes = f.passes;
        is_ndr = record {
          filler = f.filler;
          spelt = ap (λ (x : List ℕ). f.filler ++ x) (sym (wide.back a.0.0 f.sized own));
          aligned = f.aligned;
          fits = wide.below a.0.0 own;
        };
      } in
      subst (λ (p : ℕ × At). Finds (number w) old p.0 p.1) (ok_is (from_le_bytes w a.0.0, a.0.1) (n, new) a.2) made;
  only = λ place behind front rest n d.
      let one = aligned_only (byte_len w) place behind d.filler (to_le_bytes w n) rest d.aligned (wide.len n) in
      let read : (number w).reading (at place ((d.filler ++ to_le_bytes w n) ++ rest) behind) ≡ good (n, at (place + length (d.filler ++ to_le_bytes w n)) rest behind) = rw (one, wide.again n d.fits) refl in
      subst (λ (f : List ℕ). (number w).reading (at place (f ++ rest) behind) ≡ good (n, at (place + length f) rest behind)) (sym d.spelt) read;
  spelt = λ old n fits sound short.
      let front : List ℕ = replicate (gap (byte_len w) (length old.bytes)) 0 ++ to_le_bytes w n in
      record {
        front = front;
        bytes = refl;
        is_ndr = record { filler = replicate (gap (byte_len w) (length old.bytes)) 0; spelt = refl; aligned = length-replicate (gap (byte_len w) (length old.bytes)) 0; fits = fits };
        sound = record { some = sound.some; few = omega (arith, sound.few, length-append old.bytes front) };
      };
  grows = λ old n. omega (arith, length-append old.bytes (replicate (gap (byte_len w) (length old.bytes)) 0 ++ to_le_bytes w n));
}

pub number8_lawful : IsLayout (number w8)
number8_lawful = number_lawful w8 wide8

pub number16_lawful : IsLayout (number w16)
number16_lawful = number_lawful w16 wide16

pub number32_lawful : IsLayout (number w32)
number32_lawful = number_lawful w32 wide32

pub within_lawful : (w : Width) (low high : ℕ) (cause : NdrCause) → IsWide w → IsLayout (within w low high cause)
within_lawful w low high cause wide = such_lawful w (is_between low high) cause (number w) (number_lawful w wide)

pub exactly_lawful : (w : Width) (value : ℕ) (cause : NdrCause) → IsWide w → IsLayout (exactly w value cause)
exactly_lawful w value cause wide = such_lawful w (eqb value) cause (number w) (number_lawful w wide)

-- ---- pointers

there_is : (n : ℕ) → 0 < n → is_there n ≡ true
there_is n h = ap not (ne_eqb n 0 (λ e. omega arith))

pub pointer_lawful : IsLayout pointer
pointer_lawful = record {
  found = λ old new there fits e.
      let a = bind_ok ((number w32).reading old) (λ n. Ok (is_there n.0, n.1)) (there, new) e in
      let f = number32_lawful.found old a.0.1 a.0.0 fits a.1 in
      let made : Finds pointer old (is_there a.0.0) a.0.1 = record { front = f.front; passes = f.passes; is_ndr = record { parts = a.0.0; spelt = f.is_ndr; made = refl } } in
      subst (λ (p : Bool × At). Finds pointer old p.0 p.1) (ok_is (is_there a.0.0, a.0.1) (there, new) a.2) made;
  only = λ place behind front rest there d. rw (number32_lawful.only place behind front rest d.parts d.spelt, ← d.made) refl;
  spelt = put_is;
  grows = grows_is;
}
  where
    put_is : (old : Written) (there : Bool) → Unit {0} → IsSound old → length (put_pointer old there).bytes < 2 ^ 31 → Writes pointer old there (put_pointer old there)
    put_is old true fits sound short =
        let grown = number32_lawful.grows old old.next in
        let small : old.next + 4 < 2 ^ 32 = omega (arith, sound.few) in
        let w = number32_lawful.spelt old old.next (omega arith) sound short in
        let longer : length old.bytes + 4 ≤ length (put_number w32 old old.next).bytes = omega (arith, length-append old.bytes (replicate (gap 4 (length old.bytes)) 0 ++ to_le_bytes w32 old.next), length-append (replicate (gap 4 (length old.bytes)) 0) (to_le_bytes w32 old.next)) in
        let next : (old.next + 4) % 2 ^ 32 ≡ old.next + 4 = omega arith in
        record {
          front = w.front;
          bytes = w.bytes;
          is_ndr = record { parts = old.next; spelt = w.is_ndr; made = there_is old.next sound.some };
          sound = record { some = rw next (omega arith); few = rw next (omega (arith, sound.few)) };
        }
    put_is old false fits sound short =
        let w = number32_lawful.spelt old 0 (lit< tt) sound short in
        record { front = w.front; bytes = w.bytes; is_ndr = record { parts = 0; spelt = w.is_ndr; made = refl }; sound = w.sound }

    grows_is : (old : Written) (there : Bool) → length old.bytes ≤ length (put_pointer old there).bytes
    grows_is old true = number32_lawful.grows old old.next
    grows_is old false = number32_lawful.grows old 0

pub pointer_to_lawful : (said : ℕ) → IsLayout (pointer_to said)
pointer_to_lawful said = such_lawful w32 _ _ pointer pointer_lawful
