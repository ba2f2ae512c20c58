-- The parts of names are lawful.
use Rattle.std.proofs.Common.{◌≡◌, ℕ, ◌+◌, ◌*◌, ◌<◌, ◌≤◌, ◌^◌, Bool, true, false, cond, eqb, not, ◌&&◌, List, [], ◌∷◌, length, ℤ, Result, Ok, refl, sym, ap, subst, ◌∙◌, append-nil, arith, inl, inr}
use Rattle.std.specs.List.{flat_map}
use Rattle.std.specs.Str.{is_utf8}
use Rattle.std.proofs.lemmas.Bool.{eqb-true}
use Rattle.std.proofs.lemmas.List.{nil_from_length}
use Rattle.std.proofs.lemmas.List.Concat.{flat_map-cons}
use Rattle.der_core.specs.declared.refusal.DerRefusal.{DerRefusal}
use Rattle.der_core.specs.declared.refusal.DerCause.TheVariants.{BadText}
use Rattle.der_core.specs.Place.{At, refused, ◌>>=◌}
use Rattle.der_core.specs.Sizes.{size}
use Rattle.der_core.specs.Elements.{element_at}
use Rattle.der_core.specs.Forms.{text, texts, text_such}
use Rattle.der_core.specs.Laws.{IsBytes, IsContent}
use Rattle.der_core.specs.Steps.{bind_ok, chosen, good, ok_is, Passes-all}
use Rattle.der_core.specs.ElementLaws.{element_found, element_only}
use Rattle.der_core.specs.FormLaws.{text_such_lawful}
use Rattle.der_forms.specs.ListLaws.{some_items_lawful}
use Rattle.der_forms.specs.Names.{kerberos_string}
use Rattle.der_forms.specs.NameLaws.{kerberos_string_lawful}
use Rattle.krb_names.specs.Pieces.{is_name}
use Rattle.krb_names.specs.Principals.{name_reading}
use Rattle.std.specs.Prelude.{is_ok}
use Rattle.krb_tickets.specs.NameString.{plain_parts, is_joined, is_joined_text, IsLone, is_enterprise, begins_joined, lone_at, name_string}

pub plain_parts_lawful : IsContent plain_parts
plain_parts_lawful = some_items_lawful 8 kerberos_string kerberos_string_lawful

both : (a b : Bool) → (a && b) ≡ true → (a ≡ true) × (b ≡ true)
both true b h = (refl, h)
both false b h = absurd cc

-- what begins with a joined text begins with a text
pub joined_in : (here : At) (e : At × At) → element_at 0x1b here ≡ Ok e → begins_joined here ≡ true → (is_utf8 e.0.bytes ≡ true) × (is_joined e.0.bytes ≡ true)
joined_in here e is h =
    by_test (is_utf8 e.0.bytes) e.0.bytes e.0.place e.1 (ap (λ (r : Result (At × At) DerRefusal). is_joined_text (r >>= λ e. texts.reading e.0 >>= λ x. Ok (x, e.1))) (sym is) ∙ h)
  where
    by_test : (t : Bool) (bytes : List ℕ) (place : ℕ) (after : At) → is_joined_text (cond t (good bytes) (refused BadText place) >>= λ x. good (x, after)) ≡ true
        → (t ≡ true) × (is_joined bytes ≡ true)
    by_test true bytes place after h = (refl, h)
    by_test false bytes place after h = absurd cc

-- where an element is a text, it is seen whether it is joined
pub joined_of : (here : At) (e : At × At) → element_at 0x1b here ≡ Ok e → is_utf8 e.0.bytes ≡ true → begins_joined here ≡ is_joined e.0.bytes
joined_of here e is h = rw (is, h) refl

lone_found : (here : At) (parts : List (List ℕ)) → IsBytes here.bytes → begins_joined here ≡ true → lone_at here ≡ Ok parts → IsLone here.bytes parts
lone_found here parts fits h e =
    let a = bind_ok (element_at 0x1b here) (λ e. cond (eqb (length e.1.bytes) 0) (good (e.0.bytes ∷ [])) (refused BadText e.0.place)) parts e in
    elim (chosen (eqb (length a.0.1.bytes) 0) (good (a.0.0.bytes ∷ [])) (refused BadText a.0.0.place) (Ok parts) a.2) [
      | inl p ↦
          let f = element_found 0x1b here a.0.0 a.0.1 fits a.1 in
          let all : here.bytes ≡ f.front = Passes-all here f.front a.0.1 f.passes (nil_from_length a.0.1.bytes (eqb-true _ _ p.0)) in
          let tests = joined_in here a.0 a.1 h in
          let spelt : (text_such is_joined).IsDer f.front a.0.0.bytes = record { content = a.0.0.bytes; outside = f.is_element; inside = ((refl, tests.0), tests.1) } in
          record {
            part = a.0.0.bytes;
            lone = sym (ok_is (a.0.0.bytes ∷ []) parts p.1);
            spelt = subst (λ (b : List ℕ). (text_such is_joined).IsDer b a.0.0.bytes) (sym all) spelt;
          }
      | inr p ↦ absurd cc
    ]

-- the element that a joined text is
lone_read : (here : At) (parts : List (List ℕ)) → IsLone here.bytes parts → (begins_joined here ≡ true) × (lone_at here ≡ Ok parts)
lone_read here parts d =
    let content : List ℕ = d.spelt.content in
    let inside : At = record { place = here.place + 1 + length (size (length content)); bytes = content } in
    let after : At = record { place = here.place + length here.bytes; bytes = [] } in
    let read : element_at 0x1b here ≡ Ok (inside, after) =
    subst (λ (b : List ℕ). element_at 0x1b (record { place = here.place; bytes = b }) ≡ Ok (inside, after)) (append-nil here.bytes) (element_only 0x1b here.place here.bytes content [] d.spelt.outside) in
    let is : content ≡ d.part = d.spelt.inside.0.0 in
    let utf8 : is_utf8 content ≡ true = subst (λ (b : List ℕ). is_utf8 b ≡ true) (sym is) d.spelt.inside.0.1 in
    let joined : is_joined content ≡ true = subst (λ (b : List ℕ). is_joined b ≡ true) (sym is) d.spelt.inside.1 in
    let given : List (List ℕ) → Result (List (List ℕ)) DerRefusal = λ v. Ok v in
    let ends : lone_at here ≡ given (content ∷ []) = ap (λ (r : Result (At × At) DerRefusal). r >>= λ e. cond (eqb (length e.1.bytes) 0) (given (e.0.bytes ∷ [])) (refused BadText e.0.place)) read in
    (joined_of here (inside, after) read utf8 ∙ joined, ends ∙ ap (λ (b : List ℕ). given (b ∷ [])) is ∙ ap given (sym d.lone))

plain_not_joined : (here : At) (parts : List (List ℕ)) → plain_parts.IsDer here.bytes parts → begins_joined here ≡ false
plain_not_joined here parts d = by_parts here.place here.bytes parts d
  where
    not_name : (text : List ℕ) → is_name text ≡ true → is_joined text ≡ false
    not_name text h = ap (λ (b : Bool). not b && is_ok (name_reading text)) h

    by_parts : (place : ℕ) (bytes : List ℕ) (parts : List (List ℕ)) → plain_parts.IsDer bytes parts → begins_joined (record { place = place; bytes = bytes }) ≡ false
    by_parts place bytes [] d = absurd (let h = d.1 in cc)
    by_parts place bytes (x ∷ xs) d =
        let first = d.0.0.first in
        let content : List ℕ = first.content in
        let inside : At = record { place = place + 1 + length (size (length content)); bytes = content } in
        let after : At = record { place = place + length d.0.0.front; bytes = d.0.0.rest } in
        let read : element_at 0x1b (record { place = place; bytes = bytes }) ≡ Ok (inside, after) =
        subst (λ (b : List ℕ). element_at 0x1b (record { place = place; bytes = b }) ≡ Ok (inside, after)) (sym d.0.0.whole) (element_only 0x1b place d.0.0.front content d.0.0.rest first.outside) in
        let is : content ≡ x = first.inside.0.0 in
        let utf8 : is_utf8 content ≡ true = subst (λ (b : List ℕ). is_utf8 b ≡ true) (sym is) first.inside.0.1 in
        let name : is_name content ≡ true = subst (λ (b : List ℕ). is_name b ≡ true) (sym is) first.inside.1 in
        joined_of (record { place = place; bytes = bytes }) (inside, after) read utf8 ∙ not_name content name

-- one part is spelt as its text
pub one_spelling : (parts : List (List ℕ)) (part : List ℕ) → parts ≡ part ∷ [] → flat_map text.spelling parts ≡ text.spelling part
one_spelling parts part lone = ap (flat_map text.spelling) lone ∙ flat_map-cons text.spelling part [] ∙ append-nil (text.spelling part)

pub name_string_lawful : (kind : ℤ) → IsContent (name_string kind)
name_string_lawful kind = record {
  found = λ here parts fits e.
      elim (chosen (is_enterprise kind && begins_joined here) (lone_at here) (plain_parts.reading here) (Ok parts) e) [
        | inl p ↦ let tests = both (is_enterprise kind) (begins_joined here) p.0 in inr (tests.0, lone_found here parts fits tests.1 p.1)
        | inr p ↦ inl (plain_parts_lawful.found here parts fits p.1)
      ];
  only = λ here parts d. is_only here parts d;
  spelt = λ parts fits short. is_spelt parts fits short;
  fits = λ bytes parts are_bytes d. can_be_written bytes parts are_bytes d;
  no_longer = λ bytes parts are_bytes d. is_no_longer bytes parts are_bytes d;
}
  where
    not_both : (b : Bool) → (b && false) ≡ false
    not_both true = refl
    not_both false = refl

    is_only : (here : At) (parts : List (List ℕ)) → (name_string kind).IsDer here.bytes parts → (name_string kind).reading here ≡ Ok parts
    is_only here parts (inl d) = rw (plain_not_joined here parts d, not_both (is_enterprise kind)) (plain_parts_lawful.only here parts d)
    is_only here parts (inr d) = let read = lone_read here parts d.1 in rw (d.0, read.0) read.1

    is_spelt : (parts : List (List ℕ)) → (name_string kind).Fits parts → length (flat_map text.spelling parts) < 2 ^ 32 → (name_string kind).IsDer (flat_map text.spelling parts) parts
    is_spelt parts (inl fits) short = inl (plain_parts_lawful.spelt parts fits short)
    is_spelt parts (inr fits) short =
        let part : List ℕ = fits.1.part in
        let one = one_spelling parts part fits.1.lone in
        let spelt = (text_such_lawful is_joined).spelt part fits.1.fits (subst (λ (b : List ℕ). length b < 2 ^ 32) one short) in
        inr (fits.0, record { part = part; lone = fits.1.lone; spelt = subst (λ (b : List ℕ). (text_such is_joined).IsDer b part) (sym one) spelt })

    can_be_written : (bytes : List ℕ) (parts : List (List ℕ)) → IsBytes bytes → (name_string kind).IsDer bytes parts → (name_string kind).Fits parts
    can_be_written bytes parts are_bytes (inl d) = inl (plain_parts_lawful.fits bytes parts are_bytes d)
    can_be_written bytes parts are_bytes (inr d) = inr (d.0, record { part = d.1.part; lone = d.1.lone; fits = (text_such_lawful is_joined).fits bytes d.1.part are_bytes d.1.spelt })

    is_no_longer : (bytes : List ℕ) (parts : List (List ℕ)) → IsBytes bytes → (name_string kind).IsDer bytes parts → length (flat_map text.spelling parts) ≤ 3 * length bytes + 2
    is_no_longer bytes parts are_bytes (inl d) = plain_parts_lawful.no_longer bytes parts are_bytes d
    is_no_longer bytes parts are_bytes (inr d) =
        omega (arith, ap length (one_spelling parts d.1.part d.1.lone), (text_such_lawful is_joined).no_longer bytes d.1.part are_bytes d.1.spelt)
