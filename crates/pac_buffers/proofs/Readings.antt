-- What follows from an exact reading.
use Rattle.std.proofs.Common.{◌≡◌, ℕ, List, [], Result, Ok, Err, refl, sym, ap, subst, ◌∙◌, append-nil}
use Rattle.std.specs.Prelude.{IfOk}
use Rattle.kdc_prelude.specs.Answers.{Answers}
use Rattle.ndr_core.specs.declared.fault.LogonFault.{LogonFault}
use Rattle.ndr_core.specs.declared.fault.LogonFault.TheVariants as faults
use Rattle.ndr_core.specs.Place.{start_of}
use Rattle.ndr_core.specs.Layout.{Layout}
use Rattle.ndr_core.specs.Gives.{Fails, Tells}
use Rattle.ndr_core.specs.Forms.{HasOneReading, IsForm}
use Rattle.ndr_core.specs.Object.{packed, packed_spelling, object, IsObject}
use Rattle.ndr_core.specs.Laws.{IsBytes, IsLayout}
use Rattle.ndr_core.proofs.FormLaws.{packed_form}
use Rattle.ndr_core.proofs.Steps.{bind_ok, ok_is}
use Rattle.ndr_core.proofs.ObjectLaws.{packed_found, packed_only, object_found, object_only}
use Rattle.pac_buffers.specs.Signature.{front_of, BeginsWith}

-- a fault other than want of memory is the reading's
fails_is : {X : Type 0} (fault : LogonFault) (reading : Result X LogonFault) → Fails fault reading → (fault ≡ faults.NoMemory → ⊥) → reading ≡ Err fault
fails_is faults.NoMemory reading e other = absurd (other refl)
fails_is faults.BadText reading e other = e
fails_is (faults.Ndr r) reading e other = e

told : {X : Type 0} (r : Result X LogonFault) (reading : Result X LogonFault) → Tells (λ x. x) r reading → Answers faults.NoMemory r reading
told (Ok x) reading e = e
told (Err fault) reading e = fails_is fault reading e

pub packed_is_found : {X : Type 0} (c : Layout X) (bytes : List ℕ) (r : Result X LogonFault) → IsLayout c → IsBytes bytes → Tells (λ x. x) r (packed c bytes) → IfOk r (c.IsNdr 0 bytes)
packed_is_found c bytes (Ok x) lawful fits e = packed_found c bytes x lawful fits e
packed_is_found c bytes (Err fault) lawful fits e = tt

pub packed_is_only : {X : Type 0} (c : Layout X) (bytes : List ℕ) (r : Result X LogonFault) → IsLayout c → Tells (λ x. x) r (packed c bytes) → (x : X) → c.IsNdr 0 bytes x → Answers faults.NoMemory r (Ok x)
packed_is_only {X} c bytes r lawful given x d = told r (Ok x) (subst (λ (f : Result X LogonFault). Tells (λ x. x) r f) (packed_only c bytes x lawful d) given)

pub object_is_found : {X : Type 0} (c : Layout X) (bytes : List ℕ) (r : Result X LogonFault) → IsLayout c → IsBytes bytes → Tells (λ x. x) r (object c bytes) → IfOk r (IsObject c bytes)
object_is_found c bytes (Ok x) lawful fits e = object_found c bytes x lawful fits e
object_is_found c bytes (Err fault) lawful fits e = tt

pub object_is_only : {X : Type 0} (c : Layout X) (bytes : List ℕ) (r : Result X LogonFault) → IsLayout c → Tells (λ x. x) r (object c bytes) → (x : X) → IsObject c bytes x → Answers faults.NoMemory r (Ok x)
object_is_only {X} c bytes r lawful given x d = told r (Ok x) (subst (λ (f : Result X LogonFault). Tells (λ x. x) r f) (object_only c bytes x lawful d) given)

front_found : {X : Type 0} (c : Layout X) (bytes : List ℕ) (x : X) → IsLayout c → IsBytes bytes → front_of c bytes ≡ Ok x → BeginsWith c bytes x
front_found {X} c bytes x lawful fits e =
    let a = bind_ok (c.reading (start_of bytes)) (λ x. Ok x.0) x e in
    let f = lawful.found (start_of bytes) a.0.1 a.0.0 fits a.1 in
    subst (λ (y : X). BeginsWith c bytes y) (ok_is a.0.0 x a.2) (record { front = f.front; rest = a.0.1.bytes; whole = f.passes.bytes; is_ndr = f.is_ndr })

pub front_only : {X : Type 0} (c : Layout X) (bytes : List ℕ) (x : X) → IsLayout c → BeginsWith c bytes x → front_of c bytes ≡ Ok x
front_only c bytes x lawful d =
    let one = lawful.only 0 0 d.front d.rest x d.is_ndr in
    ap (front_of c) d.whole ∙ rw one refl

pub front_is_found : {X : Type 0} (c : Layout X) (bytes : List ℕ) (r : Result X LogonFault) → IsLayout c → IsBytes bytes → Tells (λ x. x) r (front_of c bytes) → IfOk r (BeginsWith c bytes)
front_is_found c bytes (Ok x) lawful fits e = front_found c bytes x lawful fits e
front_is_found c bytes (Err fault) lawful fits e = tt

pub front_is_only : {X : Type 0} (c : Layout X) (bytes : List ℕ) (r : Result X LogonFault) → IsLayout c → Tells (λ x. x) r (front_of c bytes) → (x : X) → BeginsWith c bytes x → Answers faults.NoMemory r (Ok x)
front_is_only {X} c bytes r lawful given x d = told r (Ok x) (subst (λ (f : Result X LogonFault). Tells (λ x. x) r f) (front_only c bytes x lawful d) given)

-- ---- the form

pub front_once : {X : Type 0} (c : Layout X) → IsLayout c → HasOneReading {X = X} (BeginsWith c)
front_once c lawful bytes x y first second = ok_is x y (sym (front_only c bytes x lawful first) ∙ front_only c bytes y lawful second)

pub front_form : {X : Type 0} (c : Layout X) → IsLayout c → IsForm {X = X} c.Fits (packed_spelling c) (λ bytes x. c.IsNdr 0 bytes x) (front_of c)
front_form c lawful =
    let form = packed_form c lawful in
    record {
      spelt = form.spelt;
      again = λ x fits short. front_only c (packed_spelling c x) x lawful (record { front = packed_spelling c x; rest = []; whole = sym (append-nil (packed_spelling c x)); is_ndr = form.spelt x fits short });
      once = form.once;
      prefix_free = form.prefix_free;
    }
