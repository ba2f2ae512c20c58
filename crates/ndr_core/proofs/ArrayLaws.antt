-- Arrays and strings are lawful.
use Rattle.std.proofs.Common.{◌≡◌, ℕ, ◌+◌, ◌*◌, ◌<◌, ◌≤◌, ◌^◌, List, [], ◌∷◌, ◌++◌, length, replicate, Ok, refl, sym, ap, subst, ◌∙◌, append-nil, append_assoc, length-append, arith}
use Rattle.std.specs.Int.{w32}
use Rattle.ndr_core.specs.declared.refusal.NdrCause.TheVariants.{BadCount, TooMany}
use Rattle.ndr_core.specs.Place.{At, ◌>>=◌}
use Rattle.ndr_core.specs.Layout.{Written, Layout, such}
use Rattle.ndr_core.specs.Fields.{number, exactly}
use Rattle.ndr_core.specs.Arrays.{count, is_actual, unit_parts, units, IsEach, put_each, each_at, FitsEach, each, repeated}
use Rattle.ndr_core.specs.Laws.{IsBytes, Finds, IsSound, Writes, IsLayout}
use Rattle.ndr_core.proofs.Steps.{bind_ok, good, ok_is, IsBytes-past, Passes-then, Passes-none}
use Rattle.ndr_core.proofs.LayoutLaws.{followed_lawful, mapped_lawful, such_lawful}
use Rattle.ndr_core.proofs.FieldLaws.{number32_lawful, exactly_lawful, raw_lawful, wide32}

abbrev at : ℕ → List ℕ → ℕ → At
at place bytes behind = record { place = place; bytes = bytes; behind = behind }

pub count_lawful : (said : ℕ) → IsLayout (count said)
count_lawful said = such_lawful w32 _ TooMany (exactly w32 said BadCount) (exactly_lawful w32 said BadCount wide32)

pub unit_parts_lawful : (said : ℕ) → IsLayout (unit_parts said)
unit_parts_lawful said =
    followed_lawful (number w32) _ number32_lawful (λ maximum.
    followed_lawful (exactly w32 0 BadCount) _ (exactly_lawful w32 0 BadCount wide32) (λ _.
    followed_lawful (such w32 (is_actual said maximum) BadCount (number w32)) _ (such_lawful w32 (is_actual said maximum) BadCount (number w32) number32_lawful) (λ n.
    raw_lawful (2 * n))))

pub units_lawful : (said : ℕ) → IsLayout (units said)
units_lawful said = mapped_lawful (unit_parts said) _ _ (unit_parts_lawful said)

-- ---- one behind the other

each_found : {H X : Type 0} (layout : H → Layout X) → ((h : H) → IsLayout (layout h)) → (hs : List H) (old new : At) (xs : List X) → IsBytes old.bytes → each_at layout hs old ≡ Ok (xs, new) → Finds (each layout hs) old xs new
unfolding each_at
each_found {H} {X} layout lawful [] old new xs fits e =
    subst (λ (p : List X × At). Finds (each layout []) old p.0 p.1) (ok_is ([], old) (xs, new) e) (record { front = []; passes = Passes-none old; is_ndr = refl })
each_found {H} {X} layout lawful (h ∷ hs) old new xs fits e =
    let a = bind_ok ((layout h).reading old) (λ x. each_at layout hs x.1 >>= λ xs. Ok (x.0 ∷ xs.0, xs.1)) (xs, new) e in
    let b = bind_ok (each_at layout hs a.0.1) (λ xs. Ok (a.0.0 ∷ xs.0, xs.1)) (xs, new) a.2 in
    let first = (lawful h).found old a.0.1 a.0.0 fits a.1 in
    let second = each_found layout lawful hs a.0.1 b.0.1 b.0.0 (IsBytes-past old first.front a.0.1 first.passes fits) b.1 in
    let made : Finds (each layout (h ∷ hs)) old (a.0.0 ∷ b.0.0) b.0.1 = record {
      front = first.front ++ second.front;
      passes = Passes-then old first.front a.0.1 second.front b.0.1 first.passes second.passes;
      is_ndr = record {
        front = first.front;
        rest = second.front;
        whole = refl;
        first = first.is_ndr;
        second = subst (λ (p : ℕ). IsEach layout hs p second.front b.0.0) first.passes.place second.is_ndr;
      };
    } in
    subst (λ (p : List X × At). Finds (each layout (h ∷ hs)) old p.0 p.1) (ok_is (a.0.0 ∷ b.0.0, b.0.1) (xs, new) b.2) made

each_only : {H X : Type 0} (layout : H → Layout X) → ((h : H) → IsLayout (layout h)) → (hs : List H) (place behind : ℕ) (front rest : List ℕ) (xs : List X) → IsEach layout hs place front xs
    → each_at layout hs (at place (front ++ rest) behind) ≡ Ok (xs, at (place + length front) rest behind)
unfolding each_at
each_only {H} {X} layout lawful [] place behind front rest [] d =
    let bytes : front ++ rest ≡ rest = ap (λ (f : List ℕ). f ++ rest) d in
    let end : place ≡ place + length front = omega (arith, ap length d) in
    let none : List X = [] in
    ap (λ (b : List ℕ). good (none, at place b behind)) bytes ∙ ap (λ (p : ℕ). good (none, at p rest behind)) end
each_only layout lawful [] place behind front rest (x ∷ xs) d = absurd d
each_only layout lawful (h ∷ hs) place behind front rest [] d = absurd d
each_only layout lawful (h ∷ hs) place behind front rest (x ∷ xs) d =
    let first = (lawful h).only place behind d.front (d.rest ++ rest) x d.first in
    let second = each_only layout lawful hs (place + length d.front) behind d.rest rest xs d.second in
    let both : each_at layout (h ∷ hs) (at place (d.front ++ (d.rest ++ rest)) behind) ≡ good (x ∷ xs, at (place + length d.front + length d.rest) rest behind) = rw (first, second) refl in
    let bytes : front ++ rest ≡ d.front ++ (d.rest ++ rest) = ap (λ (f : List ℕ). f ++ rest) d.whole ∙ append_assoc d.front d.rest rest in
    let end : place + length d.front + length d.rest ≡ place + length front = omega (arith, ap length d.whole, length-append d.front d.rest) in
    ap (λ (b : List ℕ). each_at layout (h ∷ hs) (at place b behind)) bytes ∙ both ∙ ap (λ (p : ℕ). good (x ∷ xs, at p rest behind)) end

each_grows : {H X : Type 0} (layout : H → Layout X) → ((h : H) → IsLayout (layout h)) → (hs : List H) (old : Written) (xs : List X) → length old.bytes ≤ length (put_each layout hs old xs).bytes
each_grows layout lawful [] old xs = omega arith
each_grows layout lawful (h ∷ hs) old [] = omega arith
each_grows layout lawful (h ∷ hs) old (x ∷ xs) =
    let first = (lawful h).grows old x in
    let second = each_grows layout lawful hs ((layout h).written old x) xs in
    omega arith

each_spelt : {H X : Type 0} (layout : H → Layout X) → ((h : H) → IsLayout (layout h)) → (hs : List H) (old : Written) (xs : List X) → FitsEach layout hs xs → IsSound old
    → length (put_each layout hs old xs).bytes < 2 ^ 31 → Writes (each layout hs) old xs (put_each layout hs old xs)
each_spelt layout lawful [] old [] fits sound short = record { front = []; bytes = sym (append-nil old.bytes); is_ndr = refl; sound = sound }
each_spelt layout lawful [] old (x ∷ xs) fits sound short = absurd fits
each_spelt layout lawful (h ∷ hs) old [] fits sound short = absurd fits
each_spelt layout lawful (h ∷ hs) old (x ∷ xs) fits sound short =
    let grows = each_grows layout lawful hs ((layout h).written old x) xs in
    let first = (lawful h).spelt old x fits.0 sound (omega arith) in
    let second = each_spelt layout lawful hs ((layout h).written old x) xs fits.1 first.sound short in
    record {
      front = first.front ++ second.front;
      bytes = second.bytes ∙ ap (λ (b : List ℕ). b ++ second.front) first.bytes ∙ append_assoc old.bytes first.front second.front;
      is_ndr = record {
        front = first.front;
        rest = second.front;
        whole = refl;
        first = first.is_ndr;
        second = subst (λ (p : ℕ). IsEach layout hs p second.front xs) (ap length first.bytes ∙ length-append old.bytes first.front) second.is_ndr;
      };
      sound = second.sound;
    }

pub each_lawful : {H X : Type 0} (layout : H → Layout X) (hs : List H) → ((h : H) → IsLayout (layout h)) → IsLayout (each layout hs)
each_lawful layout hs lawful = record {
  found = λ old new xs fits e. each_found layout lawful hs old new xs fits e;
  only = λ place behind front rest xs d. each_only layout lawful hs place behind front rest xs d;
  spelt = λ old xs fits sound short. each_spelt layout lawful hs old xs fits sound short;
  grows = λ old xs. each_grows layout lawful hs old xs;
}

pub repeated_lawful : {X : Type 0} (n : ℕ) (c : Layout X) → IsLayout c → IsLayout (repeated n c)
repeated_lawful n c lawful = each_lawful (λ (_ : Unit {0}). c) (replicate n tt) (λ _. lawful)
