-- All of the bytes.
use Rattle.std.proofs.Common.{◌≡◌, ℕ, ◌+◌, ◌*◌, ◌<◌, ◌≤◌, ◌^◌, List, [], ◌++◌, length, take, Result, Ok, Err, refl, sym, ap, subst, ◌∙◌, append-nil, arith}
use Rattle.std.proofs.lemmas.List.{take_at}
use Rattle.std.specs.Prelude.{IfOk}
use Rattle.der_core.specs.declared.refusal.DerRefusal.{DerRefusal}
use Rattle.der_forms.specs.declared.read_fault.ReadFault.{ReadFault}
use Rattle.der_core.specs.Place.{At, ◌>>=◌}
use Rattle.der_core.specs.Elements.{done_at}
use Rattle.der_core.specs.Codec.{Codec, whole}
use Rattle.der_forms.specs.Reads.{Reads}
use Rattle.der_core.specs.Laws.{IsBytes, IsCodec}
use Rattle.der_core.specs.Steps.{bind_ok, ok_is, done_is, Passes-all}

pub is_found : {X : Type 0} (c : Codec X) (bytes : List ℕ) (r : Result X ReadFault) → IsCodec c → IsBytes bytes → Reads r (whole c bytes) → IfOk r (λ x. c.IsDer bytes x)
is_found {X} c bytes (Err fault) lawful fits e = tt
is_found {X} c bytes (Ok x) lawful fits e =
    let here : At = record { place = 0; bytes = bytes } in
    let a = bind_ok (c.reading here) (λ x. done_at x.1 >>= λ _. Ok x.0) x e in
    let b = bind_ok (done_at a.0.1) (λ _. Ok a.0.0) x a.2 in
    let f = lawful.found here a.0.1 a.0.0 fits a.1 in
    let all : bytes ≡ f.front = Passes-all here f.front a.0.1 f.passes (done_is a.0.1 b.0 b.1) in
    subst (λ (y : X). c.IsDer bytes y) (ok_is a.0.0 x b.2) (subst (λ (b : List ℕ). c.IsDer b a.0.0) (sym all) f.is_der)

pub is_writable : {X : Type 0} (c : Codec X) (bytes : List ℕ) (r : Result X ReadFault) → IsCodec c → IsBytes bytes → IfOk r (λ x. c.IsDer bytes x)
    → IfOk r (λ x. c.Fits x × (length (c.spelling x) ≤ 3 * length bytes))
is_writable c bytes (Err fault) lawful fits d = tt
is_writable c bytes (Ok x) lawful fits d = (lawful.fits bytes x fits d, lawful.no_longer bytes x fits d)

pub is_whole : {X : Type 0} (c : Codec X) (bytes : List ℕ) (x : X) → IsCodec c → c.IsDer bytes x → whole c bytes ≡ Ok x
is_whole {X} c bytes x lawful d =
    let one = subst (λ (b : List ℕ). c.reading (record { place = 0; bytes = b }) ≡ Ok (x, record { place = 0 + length bytes; bytes = [] })) (append-nil bytes) (lawful.only 0 bytes [] x d) in
    rw one refl

pub is_only : {X : Type 0} (c : Codec X) (bytes : List ℕ) (r : Result X ReadFault) → IsCodec c → Reads r (whole c bytes) → (x : X) → c.IsDer bytes x → Reads r (Ok x)
is_only {X} c bytes r lawful given x d = subst (λ (f : Result X DerRefusal). Reads r f) (is_whole c bytes x lawful d) given

pub is_again : {X : Type 0} (c : Codec X) → IsCodec c → (x : X) → c.Fits x → length (c.spelling x) < 2 ^ 32 → whole c (c.spelling x) ≡ Ok x
is_again c lawful x fits short = is_whole c (c.spelling x) x lawful (lawful.spelt x fits short)

pub is_one : {X : Type 0} (c : Codec X) → IsCodec c → (a b u v : List ℕ) (x y : X) → c.IsDer a x → c.IsDer b y → a ++ u ≡ b ++ v → (a ≡ b) × (x ≡ y)
is_one {X} c lawful a b u v x y d f e =
    let first = lawful.only 0 a u x d in
    let second = subst (λ (s : List ℕ). c.reading (record { place = 0; bytes = s }) ≡ Ok (y, record { place = 0 + length b; bytes = v })) (sym e) (lawful.only 0 b v y f) in
    let same : (let p : X × At = (x, record { place = 0 + length a; bytes = u }) in p) ≡ (y, record { place = 0 + length b; bytes = v }) = ok_is (x, record { place = 0 + length a; bytes = u }) (y, record { place = 0 + length b; bytes = v }) (sym first ∙ second) in
    let len : 0 + length a ≡ 0 + length b = ap (λ (p : X × At). p.1.place) same in
    let fronts : a ≡ b = sym (take_at a u (length a) refl) ∙ ap (take (length a)) e ∙ take_at b v (length a) (omega arith) in
    (fronts, ap (λ (p : X × At). p.0) same)
