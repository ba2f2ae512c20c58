-- Transited realms are read as they are spelt.
use Rattle.std.proofs.Common.{◌≡◌, ℕ, ◌<◌, Bool, true, false, eqb, ◌&&◌, ◌||◌, List, [], ◌∷◌, length, length-append, pos, Ok, refl, sym, ap, subst, ◌∙◌, lit<, arith, inl, inr}
use Rattle.std.specs.Prelude.{Some, None, is_none, nat_le, if◌then◌else◌}
use Rattle.std.specs.List.{All, list_all, list_any, slice_split, join_with_byte}
use Rattle.std.specs.Str.{is_utf8, chars, NonePass, NoCharPasses}
use Rattle.std.proofs.lemmas.Bool.{ne_eqb}
use Rattle.std.proofs.lemmas.Str.{IsUtf8-from_is_utf8, encodes-chars}
use Rattle.std.proofs.lemmas.List.{get_or_default}
use Rattle.std.proofs.lemmas.Str.Pattern.{NoCharPasses-char}
use Rattle.std.proofs.lemmas.List.Splits.{join_with_byte-slice_split, slice_split_none, slice_split_at}
use Rattle.der_core.specs.declared.refusal.DerCause.TheVariants.{BadText}
use Rattle.der_core.specs.Place.{refused}
use Rattle.der_core.specs.Laws.{IsCodec, IsContent}
use Rattle.der_core.specs.Steps.{chosen, good, neither, ok_is}
use Rattle.der_core.specs.FormLaws.{number_is_lawful}
use Rattle.der_core.specs.CodecLaws.{element_of_lawful}
use Rattle.der_forms.specs.FieldLaws.{field_lawful, end_lawful, made_lawful, sequence_lawful}
use Rattle.krb_names.specs.declared.refusal.NameRefusal.TheVariants.{Empty, TooLong, BadText as BadName}
use Rattle.krb_names.specs.Pieces.{is_name, is_empty, is_long, is_forbidden, has_forbidden}
use Rattle.krb_tickets.specs.Transited.{is_realm, are_realms, names_of, names_in, joined_realms, contents, parts, transited}

both : (a b : Bool) → (a && b) ≡ true → (a ≡ true) × (b ≡ true)
both true b h = (refl, h)
both false b h = absurd cc

-- a name text is not empty, and has no character that is forbidden
tests_of_name : (empty long forbidden : Bool)
    → is_none (if empty || false then Some Empty else (if long || false then Some TooLong else (if false || (forbidden || false) then Some BadName else None))) ≡ true
    → (empty ≡ false) × (forbidden ≡ false)
tests_of_name true long forbidden h = absurd cc
tests_of_name false true forbidden h = absurd cc
tests_of_name false false true h = absurd cc
tests_of_name false false false h = (refl, refl)

name_is : (name : List ℕ) → is_name name ≡ true → (is_empty name ≡ false) × (has_forbidden name ≡ false)
name_is name h = tests_of_name (is_empty name) (is_long name) (has_forbidden name) h

last_of : (a b c d e : Bool) → ((((a || b) || c) || d) || e) ≡ false → e ≡ false
last_of a b c d e h = (neither (((a || b) || c) || d) e h).1

no_comma_among : (cs : List ℕ) → list_any is_forbidden cs ≡ false → NonePass (λ c. eqb c 44) cs
no_comma_among [] h = tt
no_comma_among (c ∷ cs) h =
    let all = neither (is_forbidden c) (list_any is_forbidden cs) h in
    (last_of (nat_le c 32) (nat_le 127 c && nat_le c 159) (eqb c 64) (eqb c 47) (eqb c 44) all.0, no_comma_among cs all.1)

-- no byte of a realm is a comma
no_comma : (name : List ℕ) → is_realm name ≡ true → All (λ b. eqb b 44 ≡ false) name
no_comma name h =
    let tests = both (is_utf8 name) (is_name name) h in
    let utf8 = IsUtf8-from_is_utf8 name tests.0 in
    let none : NoCharPasses (λ c. eqb c 44) name =
    (chars name, encodes-chars name utf8, no_comma_among (chars name) (name_is name tests.1).1) in
    λ k d lt. ne_eqb _ _ (λ e. NoCharPasses-char 44 name k none (lit< tt) lt (get_or_default name k 0 d lt ∙ e))

some_name : (name : List ℕ) → is_realm name ≡ true → 0 < length name
some_name [] h = absurd (let tests = both (is_utf8 []) (is_name []) h in let none = (name_is [] tests.1).0 in cc)
some_name (b ∷ name) h = omega arith

split_each : (x : List ℕ) (xs : List (List ℕ)) → list_all is_realm (x ∷ xs) ≡ true → slice_split (λ c. eqb c 44) (join_with_byte 44 (x ∷ xs)) ≡ x ∷ xs
split_each x [] h = slice_split_none (λ c. eqb c 44) x (no_comma x (both (is_realm x) true h).0)
split_each x (y ∷ ys) h =
    let tests = both (is_realm x) (list_all is_realm (y ∷ ys)) h in
    slice_split_at (λ c. eqb c 44) x 44 (join_with_byte 44 (y ∷ ys)) (no_comma x tests.0) refl ∙ ap (λ (v : List (List ℕ)). x ∷ v) (split_each y ys tests.1)

of_some : (bytes : List ℕ) → 0 < length bytes → names_of bytes ≡ slice_split (λ c. eqb c 44) bytes
of_some [] h = absurd (omega arith)
of_some (b ∷ bytes) h = refl

joined_some : (x : List ℕ) (xs : List (List ℕ)) → 0 < length x → 0 < length (join_with_byte 44 (x ∷ xs))
joined_some x [] h = h
joined_some x (y ∷ ys) h = omega (arith, length-append x (44 ∷ join_with_byte 44 (y ∷ ys)))

split_joined : (names : List (List ℕ)) → list_all is_realm names ≡ true → names_of (join_with_byte 44 names) ≡ names
split_joined [] h = refl
split_joined (x ∷ xs) h =
    of_some (join_with_byte 44 (x ∷ xs)) (joined_some x xs (some_name x (both (is_realm x) (list_all is_realm xs) h).0)) ∙ split_each x xs h

pub joined_realms_lawful : IsContent joined_realms
unfolding names_in
joined_realms_lawful = record {
  found = λ here names fits e. is_found here.place here.bytes names e;
  only = λ here names d.
      let tests = both (nat_le (length names) 32) (list_all is_realm names) d.1 in
      let same : names_of here.bytes ≡ names = ap names_of d.0 ∙ split_joined names tests.1 in
      rw (same, d.1) refl;
  spelt = λ names fits short. (refl, fits);
  fits = λ bytes names are_bytes d. d.1;
  no_longer = λ bytes names are_bytes d. omega (arith, ap length d.0);
}
  where
    joined_split : (bytes : List ℕ) → bytes ≡ join_with_byte 44 (names_of bytes)
    joined_split [] = refl
    joined_split (b ∷ bytes) = sym (join_with_byte-slice_split 44 (b ∷ bytes))

    is_found : (place : ℕ) (bytes : List ℕ) (names : List (List ℕ)) → names_in place bytes ≡ Ok names → (bytes ≡ join_with_byte 44 names) × (are_realms names ≡ true)
    is_found place bytes names e =
        elim (chosen (are_realms (names_of bytes)) (good (names_of bytes)) (refused BadText place) (Ok names) e) [
          | inl p ↦
              let same : names_of bytes ≡ names = ok_is (names_of bytes) names p.1 in
              subst (λ (v : List (List ℕ)). (bytes ≡ join_with_byte 44 v) × (are_realms v ≡ true)) same (joined_split bytes, p.0)
          | inr p ↦ absurd cc
        ]

pub contents_lawful : IsCodec contents
contents_lawful = element_of_lawful 4 joined_realms joined_realms_lawful

pub transited_lawful : IsCodec transited
transited_lawful = sequence_lawful _ (made_lawful parts _ _ (λ x fits. refl) (
    field_lawful 0 _ _ (number_is_lawful (pos 1)) (
    field_lawful 1 _ _ contents_lawful
    end_lawful)))
