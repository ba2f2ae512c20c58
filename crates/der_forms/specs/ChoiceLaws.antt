-- A choice of lawful forms is lawful.
use Rattle.std.proofs.Common.{◌≡◌, ℕ, ◌+◌, Bool, true, false, eqb, List, ◌++◌, length, Ok, refl, sym, subst}
use Rattle.std.proofs.lemmas.Bool.{eq-eqb}
use Rattle.der_core.specs.Codec.{Codec, explicit}
use Rattle.der_core.specs.Laws.{IsCodec}
use Rattle.der_core.specs.CodecLaws.{explicit_lawful}
use Rattle.der_forms.specs.Fields.{begins}
use Rattle.der_forms.specs.Choices.{tag_in, choice}

-- what is of either form tells which one
abbrev pub Tells : {X : Type 0} → (X → Bool) → (Bool → Codec X) → Type 0
Tells {X} is_first c = (b : Bool) (bytes : List ℕ) (x : X) → (c b).IsDer bytes x → is_first x ≡ b

begins_so : {X : Type 0} (first second : ℕ) (c : Bool → Codec X) (b : Bool) (front rest : List ℕ) (x : X) → eqb second first ≡ false
    → (explicit (tag_in first second b) (c b)).IsDer front x → begins first (front ++ rest) ≡ b
begins_so first second c true front rest x apart d = subst (λ (f : List ℕ). begins first (f ++ rest) ≡ true) (sym d.outside.spelt) (eq-eqb first first refl)
begins_so first second c false front rest x apart d = subst (λ (f : List ℕ). begins first (f ++ rest) ≡ false) (sym d.outside.spelt) apart

pub choice_lawful : {X : Type 0} (first second : ℕ) (is_first : X → Bool) (c : Bool → Codec X) → eqb second first ≡ false → Tells is_first c
    → ((b : Bool) → IsCodec (c b)) → IsCodec (choice first second is_first c)
choice_lawful {X} first second is_first c apart tells lawful =
    let own : (b : Bool) → IsCodec (explicit (tag_in first second b) (c b)) = λ b. explicit_lawful (tag_in first second b) (c b) (lawful b) in
    let form : Codec X = choice first second is_first c in
    record {
      found = λ old new x fits e.
          let f = (own (begins first old.bytes)).found old new x fits e in
          let told : begins first old.bytes ≡ is_first x = sym (tells (begins first old.bytes) f.is_der.content x f.is_der.inside) in
          record { front = f.front; passes = f.passes; is_der = subst (λ (b : Bool). (explicit (tag_in first second b) (c b)).IsDer f.front x) told f.is_der };
      only = λ place front rest x d.
          let at : is_first x ≡ begins first (front ++ rest) = sym (begins_so first second c (is_first x) front rest x apart d) in
          subst (λ (b : Bool). (explicit (tag_in first second b) (c b)).reading (record { place = place; bytes = front ++ rest }) ≡ Ok (x, record { place = place + length front; bytes = rest })) at ((own (is_first x)).only place front rest x d);
      spelt = λ x fits short. (own (is_first x)).spelt x fits short;
      fits = λ bytes x are_bytes d. (own (is_first x)).fits bytes x are_bytes d;
      no_longer = λ bytes x are_bytes d. (own (is_first x)).no_longer bytes x are_bytes d;
      some = λ bytes x d. (own (is_first x)).some bytes x d;
    }
