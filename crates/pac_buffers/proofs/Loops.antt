-- Texts one after the other.
use Rattle.std.proofs.Common.{◌≡◌, ℕ, suc, ◌-◌, ◌+◌, ◌<◌, ◌≤◌, List, [], ◌∷◌, ◌++◌, length, get_or, drop, map, replicate, Result, Ok, refl, sym, ap, ◌∙◌, arith}
use Rattle.std.proofs.lemmas.List.{drop_more, drop_all}
use Rattle.ndr_core.specs.declared.fault.LogonFault.{LogonFault}
use Rattle.ndr_core.specs.declared.fault.LogonFault.TheVariants as faults
use Rattle.ndr_core.specs.Place.{At}
use Rattle.ndr_core.specs.Layout.{Written}
use Rattle.ndr_core.specs.Arrays.{each_at, put_each}
use Rattle.ndr_core.specs.Gives.{Fails}
use Rattle.ndr_core.proofs.Loops.{with_front, each_goes_on, each_ends, each_done}
use Rattle.ndr_values.specs.declared.text.StringHead.{StringHead}
use Rattle.ndr_values.specs.Texts.{string_head, text_of, head_of}

pub text_goes_on : (front : List (List ℕ)) (hs : List StringHead) (i : ℕ) (d : StringHead) (here after : At) (x : List ℕ) (total : Result (List (List ℕ) × At) LogonFault) → i < length hs
    → (text_of (get_or hs i d)).reading here ≡ Ok (x, after) → with_front front (each_at text_of (drop i hs) here) ≡ total → with_front (front ++ x ∷ []) (each_at text_of (drop (i + 1) hs) after) ≡ total
text_goes_on front hs i d here after x total lt read so_far =
    each_goes_on text_of front (get_or hs i d) (drop (i + 1) hs) here after x total read (ap (λ (l : List StringHead). with_front front (each_at text_of l here)) (sym (drop_more hs i d lt)) ∙ so_far)

text_ends_at : (front : List (List ℕ)) (h : StringHead) (hs : List StringHead) (here : At) (fault : LogonFault) (total : Result (List (List ℕ) × At) LogonFault) → Fails fault ((text_of h).reading here)
    → with_front front (each_at text_of (h ∷ hs) here) ≡ total → Fails fault total
text_ends_at front h hs here faults.NoMemory total e so_far = tt
text_ends_at front h hs here faults.BadText total e so_far = each_ends text_of front h hs here faults.BadText total e so_far
text_ends_at front h hs here (faults.Ndr r) total e so_far = each_ends text_of front h hs here (faults.Ndr r) total e so_far

pub text_ends : (front : List (List ℕ)) (hs : List StringHead) (i : ℕ) (d : StringHead) (here : At) (fault : LogonFault) (total : Result (List (List ℕ) × At) LogonFault) → i < length hs
    → Fails fault ((text_of (get_or hs i d)).reading here) → with_front front (each_at text_of (drop i hs) here) ≡ total → Fails fault total
text_ends front hs i d here fault total lt e so_far =
    text_ends_at front (get_or hs i d) (drop (i + 1) hs) here fault total e (ap (λ (l : List StringHead). with_front front (each_at text_of l here)) (sym (drop_more hs i d lt)) ∙ so_far)

pub texts_done : (front : List (List ℕ)) (hs : List StringHead) (i : ℕ) (here : At) (total : Result (List (List ℕ) × At) LogonFault) → length hs ≤ i → with_front front (each_at text_of (drop i hs) here) ≡ total → total ≡ Ok (front, here)
texts_done front hs i here total le so_far = each_done text_of front here total (ap (λ (l : List StringHead). with_front front (each_at text_of l here)) (sym (drop_all i hs le)) ∙ so_far)

pub head_puts_on : (texts : List (List ℕ)) (i : ℕ) (t : List ℕ) (old : Written) → i < length texts → t ≡ get_or texts i t
    → put_each (λ (_ : Unit {0}). string_head) (replicate (length texts - i) tt) old (map head_of (drop i texts)) ≡ put_each (λ (_ : Unit {0}). string_head) (replicate (length texts - (i + 1)) tt) (string_head.written old (head_of t)) (map head_of (drop (i + 1) texts))
head_puts_on texts i t old lt is =
    let k : length texts - i ≡ suc (length texts - (i + 1)) = omega arith in
    let rest : drop i texts ≡ t ∷ drop (i + 1) texts = drop_more texts i t lt ∙ ap (λ (g : List ℕ). g ∷ drop (i + 1) texts) (sym is) in
    rw (k, rest) refl

pub text_puts_on : (texts : List (List ℕ)) (i : ℕ) (t : List ℕ) (old : Written) → i < length texts → t ≡ get_or texts i t
    → put_each text_of (map head_of (drop i texts)) old (drop i texts) ≡ put_each text_of (map head_of (drop (i + 1) texts)) ((text_of (head_of t)).written old t) (drop (i + 1) texts)
text_puts_on texts i t old lt is =
    let rest : drop i texts ≡ t ∷ drop (i + 1) texts = drop_more texts i t lt ∙ ap (λ (g : List ℕ). g ∷ drop (i + 1) texts) (sym is) in
    rw rest refl
