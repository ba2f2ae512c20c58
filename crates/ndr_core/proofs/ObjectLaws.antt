-- Objects are read as they are spelt.
use Rattle.std.proofs.Common.{◌≡◌, ℕ, ◌+◌, ◌-◌, ◌%◌, ◌<◌, ◌≤◌, ◌^◌, Bool, true, false, ◌||◌, eqb, ltb, List, [], ◌++◌, length, take, replicate, Ok, refl, sym, ap, subst, ◌∙◌, append-nil, append_assoc, length-append, arith, lit<}
use Rattle.std.specs.Int.{w8, w16, w32, to_le_bytes}
use Rattle.std.proofs.lemmas.Bool.{ltb-false, le-ltb, eq-eqb, eqb-true}
use Rattle.std.proofs.lemmas.List.{take_all, length-drop, length-replicate, nil_from_length}
use Rattle.ndr_core.specs.declared.refusal.NdrCause.TheVariants.{Truncated, BadHeader, Trailing}
use Rattle.ndr_core.specs.Place.{At, start_of, end_of, refusal, ◌>>=◌}
use Rattle.ndr_core.specs.Layout.{Written, Layout, field}
use Rattle.ndr_core.specs.Fields.{gap, number, pointer}
use Rattle.ndr_core.specs.Object.{header, top, object_of, opened, ended, object, IsObject, header_bytes, begun, padded, finished, spelling, exhausted, packed, blank, packed_spelling}
use Rattle.ndr_core.specs.Laws.{IsBytes, IsSound, IsLayout}
use Rattle.ndr_core.proofs.Steps.{bind_ok, good, ok_is, guard_ok, passed, neither, IsBytes-past, IsBytes-take, Passes-all}
use Rattle.ndr_core.proofs.LayoutLaws.{field_lawful, mapped_lawful, such_lawful}
use Rattle.ndr_core.proofs.FieldLaws.{number8_lawful, number32_lawful, exactly_lawful, raw_lawful, pointer_lawful, wide8}

abbrev at : ℕ → List ℕ → ℕ → At
at place bytes behind = record { place = place; bytes = bytes; behind = behind }

-- ---- bytes without a header

exhausted_is : (here : At) (y : Unit {0}) → exhausted here ≡ Ok y → here.bytes ≡ []
exhausted_is here y e = nil_from_length here.bytes (eqb-true _ _ (passed (eqb (length here.bytes) 0) (refusal Trailing here.place) (good tt) y e).0)

pub packed_found : {X : Type 0} (c : Layout X) (bytes : List ℕ) (x : X) → IsLayout c → IsBytes bytes → packed c bytes ≡ Ok x → c.IsNdr 0 bytes x
packed_found {X} c bytes x lawful fits e =
    let a = bind_ok (c.reading (start_of bytes)) (λ x. exhausted x.1 >>= λ _. Ok x.0) x e in
    let b = bind_ok (exhausted a.0.1) (λ _. Ok a.0.0) x a.2 in
    let f = lawful.found (start_of bytes) a.0.1 a.0.0 fits a.1 in
    let all : bytes ≡ f.front = Passes-all (start_of bytes) f.front a.0.1 f.passes (exhausted_is a.0.1 b.0 b.1) in
    subst (λ (y : X). c.IsNdr 0 bytes y) (ok_is a.0.0 x b.2) (subst (λ (b : List ℕ). c.IsNdr 0 b a.0.0) (sym all) f.is_ndr)

pub packed_only : {X : Type 0} (c : Layout X) (bytes : List ℕ) (x : X) → IsLayout c → c.IsNdr 0 bytes x → packed c bytes ≡ Ok x
packed_only {X} c bytes x lawful d =
    let one = subst (λ (b : List ℕ). c.reading (at 0 b 0) ≡ Ok (x, at (0 + length bytes) [] 0)) (append-nil bytes) (lawful.only 0 0 bytes [] x d) in
    rw one refl

blank_sound : IsSound blank
blank_sound = record { some = lit< tt; few = omega arith }

pub packed_spelt : {X : Type 0} (c : Layout X) (x : X) → IsLayout c → c.Fits x → length (packed_spelling c x) < 2 ^ 31 → c.IsNdr 0 (packed_spelling c x) x
packed_spelt c x lawful fits short =
    let w = lawful.spelt blank x fits blank_sound short in
    subst (λ (b : List ℕ). c.IsNdr 0 b x) (sym w.bytes) w.is_ndr

-- ---- the header

pub header_lawful : IsLayout header
header_lawful = mapped_lawful _ _ _ (
    field_lawful _ _ (exactly_lawful w8 1 BadHeader wide8) (
    field_lawful _ _ (exactly_lawful w8 16 BadHeader wide8) (
    field_lawful _ _ (exactly_lawful w8 8 BadHeader wide8) (
    field_lawful _ _ (such_lawful w16 (eqb 0) BadHeader (number w8) number8_lawful) (
    field_lawful _ _ (raw_lawful 4) (
    field_lawful _ _ (such_lawful w32 (λ n. eqb (n % 8) 0) BadHeader (number w32) number32_lawful)
    number32_lawful))))))

pub top_lawful : IsLayout top
top_lawful = such_lawful w32 _ BadHeader pointer pointer_lawful

header_written : (n : ℕ) → (header.written blank n).bytes ≡ header_bytes n
unfolding gap
header_written n = refl

header_is : (n : ℕ) → n % 8 ≡ 0 → n < 2 ^ 32 → header.IsNdr 0 (header_bytes n) n
header_is n eighth small =
    let short : length (header.written blank n).bytes < 2 ^ 31 = rw (header_written n) (lit< tt) in
    let w = header_lawful.spelt blank n (refl, ((lit< tt, refl), ((lit< tt, refl), ((lit< tt, refl), ((lit< tt, refl), (refl, ((small, eq-eqb (n % 8) 0 eighth), lit< tt))))))) blank_sound short in
    subst (λ (b : List ℕ). header.IsNdr 0 b n) (sym w.bytes ∙ header_written n) w.is_ndr

-- ---- the object

object_found_of : (n : ℕ) (here new : At) → object_of n here ≡ Ok new → (n ≤ length here.bytes) × (at here.place (take n here.bytes) (length here.bytes - n) ≡ new)
unfolding object_of
object_found_of n here new e =
    let g = guard_ok (ltb (length here.bytes) n) (refusal Truncated (end_of here)) (good (at here.place (take n here.bytes) (length here.bytes - n))) new e in
    (ltb-false _ _ g.0, ok_is _ new g.1)

object_all : (n place : ℕ) (bytes : List ℕ) → length bytes ≡ n → object_of n (at place bytes 0) ≡ Ok (at place bytes 0)
unfolding object_of
object_all n place bytes len =
    let long : ltb (length bytes) n ≡ false = le-ltb _ _ (omega arith) in
    let rest : length bytes - n ≡ 0 = omega arith in
    rw (long, take_all n bytes (omega arith), rest) refl

ended_is : (here : At) (y : Unit {0}) → ended here ≡ Ok y → (length here.bytes ≤ 7) × (here.behind ≡ 0)
ended_is here y e =
    let g = guard_ok (ltb 7 (length here.bytes) || ltb 0 here.behind) (refusal Trailing here.place) (good tt) y e in
    let t = neither (ltb 7 (length here.bytes)) (ltb 0 here.behind) g.0 in
    (ltb-false _ _ t.0, omega (arith, ltb-false _ _ t.1))

pub object_found : {X : Type 0} (c : Layout X) (bytes : List ℕ) (x : X) → IsLayout c → IsBytes bytes → object c bytes ≡ Ok x → IsObject c bytes x
unfolding opened
object_found {X} c bytes x lawful fits e =
    let a = bind_ok (opened bytes) (λ here. c.reading here >>= λ x. ended x.1 >>= λ _. Ok x.0) x e in
    let b = bind_ok (header.reading (start_of bytes)) (λ h. object_of h.0 h.1 >>= λ object. top.reading object >>= λ t. Ok t.1) a.0 a.1 in
    let h = header_lawful.found (start_of bytes) b.0.1 b.0.0 fits b.1 in
    let o = bind_ok (object_of b.0.0 b.0.1) (λ object. top.reading object >>= λ t. Ok t.1) a.0 b.2 in
    let of = object_found_of b.0.0 b.0.1 o.0 o.1 in
    let t = bind_ok (top.reading o.0) (λ t. Ok t.1) a.0 o.2 in
    let after : t.0.1 ≡ a.0 = ok_is t.0.1 a.0 t.2 in
    let p = bind_ok (c.reading a.0) (λ x. ended x.1 >>= λ _. Ok x.0) x a.2 in
    let q = bind_ok (ended p.0.1) (λ _. Ok p.0.0) x p.2 in
    let over = ended_is p.0.1 q.0 q.1 in
    let behind_header = IsBytes-past (start_of bytes) h.front b.0.1 h.passes fits in
    let rest_is : o.0.bytes ≡ take b.0.0 b.0.1.bytes = ap (λ (w : At). w.bytes) (sym of.1) in
    let place_is : o.0.place ≡ 0 + length h.front = ap (λ (w : At). w.place) (sym of.1) ∙ h.passes.place in
    let behind_is : o.0.behind ≡ length b.0.1.bytes - b.0.0 = ap (λ (w : At). w.behind) (sym of.1) in
    let taken : IsBytes (take b.0.0 b.0.1.bytes) = IsBytes-take b.0.0 b.0.1.bytes behind_header in
    let own : IsBytes o.0.bytes = subst IsBytes (sym rest_is) taken in
    let tf = top_lawful.found o.0 t.0.1 t.0.0 own t.1 in
    let inner : IsBytes a.0.bytes = subst (λ (w : At). IsBytes w.bytes) after (IsBytes-past o.0 tf.front t.0.1 tf.passes own) in
    let cf = lawful.found a.0 p.0.1 p.0.0 inner p.1 in
    let nothing : length b.0.1.bytes - b.0.0 ≡ 0 = omega (arith, behind_is, tf.passes.behind, ap (λ (w : At). w.behind) after, cf.passes.behind, over.1) in
    let all : take b.0.0 b.0.1.bytes ≡ b.0.1.bytes = take_all b.0.0 b.0.1.bytes (omega arith) in
    let second : t.0.1.bytes ≡ cf.front ++ p.0.1.bytes = ap (λ (w : At). w.bytes) after ∙ cf.passes.bytes in
    let whole : b.0.1.bytes ≡ (tf.front ++ cf.front) ++ p.0.1.bytes = sym all ∙ sym rest_is ∙ tf.passes.bytes ∙ ap (λ (r : List ℕ). tf.front ++ r) second ∙ sym (append_assoc tf.front cf.front p.0.1.bytes) in
    let len : b.0.0 ≡ length (tf.front ++ cf.front) + length p.0.1.bytes = omega (arith, of.0, nothing, ap length whole, length-append (tf.front ++ cf.front) p.0.1.bytes) in
    let there : t.0.0 ≡ true = tf.is_ndr.1 in
    let made : IsObject c bytes p.0.0 = record {
      head = h.front;
      content = tf.front ++ cf.front;
      padding = p.0.1.bytes;
      whole = h.passes.bytes ∙ ap (λ (r : List ℕ). h.front ++ r) whole;
      header = subst (λ (n : ℕ). header.IsNdr 0 h.front n) len h.is_ndr;
      inside = record {
        front = tf.front;
        rest = cf.front;
        whole = refl;
        first = subst (λ (d : Bool). top.IsNdr (length h.front) tf.front d) there (subst (λ (n : ℕ). top.IsNdr n tf.front t.0.0) (place_is ∙ omega arith) tf.is_ndr);
        second = subst (λ (n : ℕ). c.IsNdr n cf.front p.0.0) (sym (ap (λ (w : At). w.place) after) ∙ tf.passes.place ∙ omega (arith, place_is)) cf.is_ndr;
      };
      short = over.0;
    } in
    subst (λ (y : X). IsObject c bytes y) (ok_is p.0.0 x q.2) made

ended_ok : (place : ℕ) (bytes : List ℕ) → length bytes ≤ 7 → ended (at place bytes 0) ≡ Ok tt
ended_ok place bytes few = let few_is : ltb 7 (length bytes) ≡ false = le-ltb _ _ few in rw few_is refl

pub object_only : {X : Type 0} (c : Layout X) (bytes : List ℕ) (x : X) → IsLayout c → IsObject c bytes x → object c bytes ≡ Ok x
unfolding opened
object_only {X} c bytes x lawful d =
    let start : ℕ = 0 + length d.head in
    let start_is : length d.head ≡ start = omega arith in
    let inside : (field top c).IsNdr start d.content (true, x) = subst (λ (n : ℕ). (field top c).IsNdr n d.content (true, x)) start_is d.inside in
    let n : ℕ = length d.content + length d.padding in
    let h = header_lawful.only 0 0 d.head (d.content ++ d.padding) n d.header in
    let o = object_all n start (d.content ++ d.padding) (length-append d.content d.padding) in
    let t = top_lawful.only start 0 inside.front (inside.rest ++ d.padding) true inside.first in
    let k = lawful.only (start + length inside.front) 0 inside.rest d.padding x inside.second in
    let parts : d.content ++ d.padding ≡ inside.front ++ (inside.rest ++ d.padding) = ap (λ (f : List ℕ). f ++ d.padding) inside.whole ∙ append_assoc inside.front inside.rest d.padding in
    let h2 : header.reading (start_of (d.head ++ (d.content ++ d.padding))) ≡ good (n, at start (inside.front ++ (inside.rest ++ d.padding)) 0) = h ∙ ap (λ (b : List ℕ). good (n, at start b 0)) parts in
    let o2 : object_of n (at start (inside.front ++ (inside.rest ++ d.padding)) 0) ≡ Ok (at start (inside.front ++ (inside.rest ++ d.padding)) 0) = subst (λ (b : List ℕ). object_of n (at start b 0) ≡ Ok (at start b 0)) parts o in
    let done = ended_ok (start + length inside.front + length inside.rest) d.padding d.short in
    ap (object c) d.whole ∙ rw (h2, o2, t, k, done) refl

-- what is aligned to 8 is a multiple of 8
eighth_is : (l : ℕ) → 16 ≤ l → (l + gap 8 l - 16) % 8 ≡ 0
unfolding gap
eighth_is l h = omega arith

gap_below : (l : ℕ) → gap 8 l < 8
unfolding gap
gap_below l = omega arith

top_is : top.IsNdr 16 (to_le_bytes w32 131072) true
unfolding gap
top_is = (record { parts = 131072; spelt = record { filler = []; spelt = refl; aligned = refl; fits = lit< tt }; made = refl }, refl)

begun_sound : IsSound begun
begun_sound = record { some = lit< tt; few = omega arith }

pub object_spelt : {X : Type 0} (c : Layout X) (x : X) → IsLayout c → c.Fits x → length (c.written begun x).bytes < 2 ^ 31 → IsObject c (spelling c x) x
object_spelt {X} c x lawful fits short =
    let w = lawful.spelt begun x fits begun_sound short in
    let bytes : List ℕ = begun.bytes ++ w.front in
    let zeros : List ℕ = replicate (gap 8 (length bytes)) 0 in
    let n : ℕ = length (padded bytes) - 16 in
    let len : length (padded bytes) ≡ length bytes + gap 8 (length bytes) = length-append bytes zeros ∙ omega (arith, length-replicate {A = ℕ} (gap 8 (length bytes)) 0) in
    let eighth : n % 8 ≡ 0 = ap (λ (l : ℕ). (l - 16) % 8) len ∙ eighth_is (length bytes) (omega arith) in
    let small : n < 2 ^ 32 = omega (arith, len, gap_below (length bytes), ap length w.bytes) in
    let sized : n ≡ length (to_le_bytes w32 131072 ++ w.front) + length zeros = omega (arith, len, length-replicate {A = ℕ} (gap 8 (length bytes)) 0) in
    let made : IsObject c (finished bytes) x = record {
      head = header_bytes n;
      content = to_le_bytes w32 131072 ++ w.front;
      padding = zeros;
      whole = refl;
      header = subst (λ (m : ℕ). header.IsNdr 0 (header_bytes n) m) sized (header_is n eighth small);
      inside = record { front = to_le_bytes w32 131072; rest = w.front; whole = refl; first = top_is; second = w.is_ndr };
      short = omega (arith, gap_below (length bytes), length-replicate {A = ℕ} (gap 8 (length bytes)) 0);
    } in
    subst (λ (b : List ℕ). IsObject c (finished b) x) (sym w.bytes) made

pub object_again : {X : Type 0} (c : Layout X) (x : X) → IsLayout c → c.Fits x → length (c.written begun x).bytes < 2 ^ 31 → object c (spelling c x) ≡ Ok x
object_again c x lawful fits short = object_only c (spelling c x) x lawful (object_spelt c x lawful fits short)

-- what was written behind a header has room for it
pub headed : {X : Type 0} (c : Layout X) (x : X) → IsLayout c → 16 ≤ length (c.written begun x).bytes
headed c x lawful = let grown = lawful.grows begun x in omega arith

pub no_shorter : (bytes : List ℕ) → 16 ≤ length bytes → length bytes ≤ length (finished bytes)
no_shorter bytes h = omega (arith, length-drop 16 (padded bytes), length-append bytes (replicate (gap 8 (length bytes)) 0))
