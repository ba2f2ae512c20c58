-- What holds of the values that are read from bytes.
use Rattle.std.proofs.Common.{◌≡◌, ℕ, ◌+◌, ◌*◌, ◌<◌, ◌^◌, Bool, true, false, eqb, leb, List, [], ◌∷◌, ◌++◌, length, replicate, Option, Some, refl, sym, ap, subst, ◌∙◌, arith}
use Rattle.std.specs.Prelude.{All}
use Rattle.std.specs.Int.{Width, w8, w16, w32, byte_len}
use Rattle.std.proofs.lemmas.Bool.{eqb-true, leb-true}
use Rattle.std.proofs.lemmas.List.{length-replicate}
use Rattle.std.proofs.lemmas.List.Elements.{All-nil, All-cons, All-head, All-tail, All-replicate}
use Rattle.std.proofs.lemmas.Str.{IsUtf8-nil, chars-nil}
use Rattle.kdc_prelude.proofs.Bools.{both}
use Rattle.krb_names.specs.SidValue.{SidValue}
use Rattle.krb_names.specs.Utf16.{utf16le_text, utf16le_reading}
use Rattle.ndr_core.specs.declared.refusal.NdrCause.TheVariants.{BadCount}
use Rattle.ndr_core.specs.Laws.{IsBytes}
use Rattle.ndr_core.specs.Layout.{Layout, Are, IsMade, IsDecoded, field, decoded, pointed}
use Rattle.ndr_core.specs.Fields.{number, raw, exactly, pointer_to}
use Rattle.ndr_core.specs.Arrays.{units, IsEach, each, repeated}
use Rattle.ndr_core.proofs.Steps.{IsBytes-front, IsBytes-rest}
use Rattle.ndr_values.specs.declared.text.StringHead.{StringHead}
use Rattle.ndr_values.specs.Sids.{authority, sid_body, rpc_sid}
use Rattle.ndr_values.specs.Texts.{string_head, text_of}
use Rattle.ndr_values.proofs.TextLaws.{even_octets}
use Rattle.pac_logon.specs.Logon.{IsNdrText, IsDomainSid}
use Rattle.pac_laws.proofs.Utf16.{text_found}

-- each value that bytes stand for
pub record Tell {X : Type 0} (Is : ℕ → List ℕ → X → Type 0) (P : X → Type 0) : Type 0 where
  pub holds : (place : ℕ) (bytes : List ℕ) (x : X) → IsBytes bytes → Is place bytes x → P x

-- ---- layouts

pub nothing_told : {X : Type 0} (Is : ℕ → List ℕ → X → Type 0) → Tell Is (λ _. Unit {0})
nothing_told Is = record { holds = λ place bytes x fits d. tt }

pub followed_tells : {X Y : Type 0} {Is : ℕ → List ℕ → X → Type 0} {More : X → ℕ → List ℕ → Y → Type 0} {P : X → Type 0} {Q : X → Y → Type 0} → Tell Is P → ((x : X) → P x → Tell (More x) (Q x))
    → Tell (λ place bytes (x : X × Y). Are (λ p b. Is p b x.0) (λ p b. More x.0 p b x.1) place bytes) (λ (p : X × Y). P p.0 × Q p.0 p.1)
followed_tells one other = record {
  holds = λ place bytes x fits d.
      let whole : IsBytes (d.front ++ d.rest) = subst IsBytes d.whole fits in
      let first = one.holds place d.front x.0 (IsBytes-front d.front d.rest whole) d.first in
      (first, (other x.0 first).holds (place + length d.front) d.rest x.1 (IsBytes-rest d.front d.rest whole) d.second);
}

pub field_tells : {X Y : Type 0} {Is : ℕ → List ℕ → X → Type 0} {More : ℕ → List ℕ → Y → Type 0} {P : X → Type 0} {Q : Y → Type 0} → Tell Is P → Tell More Q
    → Tell (λ place bytes (x : X × Y). Are (λ p b. Is p b x.0) (λ p b. More p b x.1) place bytes) (λ (p : X × Y). P p.0 × Q p.1)
field_tells {More = More} {Q = Q} one other = followed_tells {More = λ _. More} {Q = λ _. Q} one (λ _ _. other)

pub mapped_tells : {X Y : Type 0} {Is : ℕ → List ℕ → X → Type 0} {make : X → Y} {P : X → Type 0} (Q : Y → Type 0) → Tell Is P → ((x : X) → P x → Q (make x)) → Tell (IsMade Is make) Q
mapped_tells Q one made = record { holds = λ place bytes y fits d. subst Q d.made (made d.parts (one.holds place bytes d.parts fits d.spelt)) }

pub such_tells : {X : Type 0} {passes : X → Bool} {Is : ℕ → List ℕ → X → Type 0} {P : X → Type 0} → Tell Is P → Tell (λ place bytes x. Is place bytes x × (passes x ≡ true)) (λ x. P x × (passes x ≡ true))
such_tells one = record { holds = λ place bytes x fits d. (one.holds place bytes x fits d.0, d.1) }

pub pointed_tells : {X : Type 0} (there : Bool) (c : Layout X) (other : X) {P : X → Type 0} → Tell c.IsNdr P → P other → Tell (pointed there c other).IsNdr P
pointed_tells true c other one none = record { holds = one.holds }
pointed_tells false c other {P} one none = record { holds = λ place bytes x fits d. subst P (sym d.1) none }

pub decoded_tells : {X Y : Type 0} {Is : ℕ → List ℕ → X → Type 0} {decode : X → Option Y} {P : X → Type 0} (Q : Y → Type 0) → Tell Is P → ((x : X) (y : Y) → P x → decode x ≡ Some y → Q y) → Tell (IsDecoded Is decode) Q
decoded_tells Q one read = record { holds = λ place bytes y fits d. read d.parts y (one.holds place bytes d.parts fits d.spelt) d.decoded }

pub raw_tells : (n : ℕ) → Tell (raw n).IsNdr (λ x. IsBytes x × (length x ≡ n))
raw_tells n = record { holds = λ place bytes x fits d. (subst IsBytes d.0 fits, d.1) }

pub number_tells : (w : Width) → Tell (number w).IsNdr (λ n. n < 2 ^ (8 * byte_len w))
number_tells w = record { holds = λ place bytes n fits d. d.fits }

each_holds : {H X : Type 0} (layout : H → Layout X) (G : H → Type 0) (P : X → Type 0) → ((h : H) → G h → Tell (layout h).IsNdr P) → (hs : List H) (xs : List X) (place : ℕ) (bytes : List ℕ) → All G hs → IsBytes bytes → IsEach layout hs place bytes xs
    → (length xs ≡ length hs) × All P xs
each_holds layout G P tells [] [] place bytes all fits d = (refl, All-nil P)
each_holds layout G P tells [] (x ∷ xs) place bytes all fits d = absurd d
each_holds layout G P tells (h ∷ hs) [] place bytes all fits d = absurd d
each_holds layout G P tells (h ∷ hs) (x ∷ xs) place bytes all fits d =
    let whole : IsBytes (d.front ++ d.rest) = subst IsBytes d.whole fits in
    let first : P x = (tells h (All-head G h hs all)).holds place d.front x (IsBytes-front d.front d.rest whole) d.first in
    let rest = each_holds layout G P tells hs xs (place + length d.front) d.rest (All-tail G h hs all) (IsBytes-rest d.front d.rest whole) d.second in
    (omega (arith, rest.0), All-cons P x xs first rest.1)

pub each_tells : {H X : Type 0} (layout : H → Layout X) (G : H → Type 0) (P : X → Type 0) → ((h : H) → G h → Tell (layout h).IsNdr P) → (hs : List H) → All G hs → Tell (each layout hs).IsNdr (λ xs. (length xs ≡ length hs) × All P xs)
each_tells layout G P tells hs all = record { holds = λ place bytes xs fits d. each_holds layout G P tells hs xs place bytes all fits d }

pub repeated_tells : {X : Type 0} (c : Layout X) (P : X → Type 0) (n : ℕ) → Tell c.IsNdr P → Tell (repeated n c).IsNdr (λ xs. (length xs ≡ n) × All P xs)
repeated_tells c P n one =
    let all = each_tells (λ (_ : Unit {0}). c) (λ _. Unit {0}) P (λ _ _. one) (replicate n tt) (All-replicate (λ _. Unit {0}) n tt tt) in
    record { holds = λ place bytes xs fits d. let h = all.holds place bytes xs fits d in (h.0 ∙ length-replicate n tt, h.1) }

-- ---- texts

pub text_is : (octets text : List ℕ) → IsBytes octets → length octets < 65536 → utf16le_reading octets ≡ Some text → IsNdrText text
text_is octets text fits few e =
    let f = text_found octets text fits e in
    record { utf8 = f.0; few = omega (arith, ap length f.1, even_octets text) }

no_text : IsNdrText []
no_text = record { utf8 = IsUtf8-nil; few = rw chars-nil (omega arith) }

pub string_head_tells : Tell string_head.IsNdr (λ h. h.len < 65536)
string_head_tells = mapped_tells (λ h. h.len < 65536) (followed_tells (number_tells w16) (λ len _. nothing_told (field (number w16) (pointer_to len)).IsNdr)) (λ p h. h.0)

units_tell : (said : ℕ) → Tell (units said).IsNdr (λ x. IsBytes x × (length x ≡ said))
units_tell said =
    mapped_tells (λ x. IsBytes x × (length x ≡ said)) (
    followed_tells (nothing_told (number w32).IsNdr) (λ maximum _.
    followed_tells (nothing_told (exactly w32 0 BadCount).IsNdr) (λ _ _.
    followed_tells (such_tells (nothing_told (number w32).IsNdr)) (λ n _. raw_tells (2 * n)))))
    (λ p h. (h.1.1.1.0, h.1.1.1.1 ∙ sym (eqb-true _ _ (both (leb p.1.1.0 p.0) (eqb said (2 * p.1.1.0)) h.1.1.0.1).1)))

pub text_of_tells : (head : StringHead) → head.len < 65536 → Tell (text_of head).IsNdr (λ text. IsNdrText text)
text_of_tells head few =
    pointed_tells head.there (decoded (units head.len) utf16le_reading utf16le_text) [] (decoded_tells (λ text. IsNdrText text) (units_tell head.len) (λ octets text h e. text_is octets text h.0 (omega (arith, h.1)) e)) no_text

-- ---- SIDs

authority_tells : Tell authority.IsNdr (λ n. n < 2 ^ 48)
authority_tells = mapped_tells (λ n. n < 2 ^ 48) (raw_tells 6) (λ bytes h. omega (arith, h.0 0, h.0 1, h.0 2, h.0 3, h.0 4, h.0 5))

pub record IsSidOf (n : ℕ) (s : SidValue) : Type 0 where
  pub low : s.authority < 2 ^ 48
  pub len : length s.numbers ≡ n
  pub fits : All (λ k. k < 2 ^ 32) s.numbers

sid_body_tells : (n : ℕ) → Tell (sid_body n).IsNdr (IsSidOf n)
sid_body_tells n =
    mapped_tells (IsSidOf n) (field_tells authority_tells (repeated_tells (number w32) (λ k. k < 2 ^ 32) n (number_tells w32))) (λ p h. record { low = h.0; len = h.1.0; fits = h.1.1 })

pub domain_sid_tells : Tell (rpc_sid 14).IsNdr (λ s. IsDomainSid s)
domain_sid_tells =
    mapped_tells (λ s. IsDomainSid s) (
    followed_tells (such_tells (nothing_told (number w32).IsNdr)) (λ n _.
    field_tells (nothing_told (exactly w8 1 BadCount).IsNdr) (
    field_tells (nothing_told (exactly w8 n BadCount).IsNdr) (sid_body_tells n))))
    (λ p h.
    let s = h.1.1.1 in
    let t = both (leb 1 p.0) (leb p.0 14) h.0.1 in
    record { low = s.low; some = omega (arith, s.len, leb-true _ _ t.0); few = omega (arith, s.len, leb-true _ _ t.1); fits = s.fits })
