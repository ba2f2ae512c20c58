-- Names that are not the same have other texts.
use Rattle.std.proofs.Common.{◌≡◌, ◌≢◌, ℕ, suc, Bool, true, false, eqb, ◌&&◌, ◌||◌, List, [], ◌∷◌, ◌++◌, length, Option, Some, None, refl, sym, ap, ◌∙◌, lit<, arith, inl, inr, ◌⊎◌}
use Rattle.std.specs.Prelude.{is_none, is_ok, nat_le, not, if◌then◌else◌}
use Rattle.std.specs.List.{All, list_all, list_any, slice_split, join_with_byte}
use Rattle.std.specs.Str.{is_utf8, chars, NonePass, NoCharPasses}
use Rattle.std.proofs.lemmas.Bool.{ne_eqb}
use Rattle.std.proofs.lemmas.Cmp.{lists_equiv, nat_list_eq_equiv}
use Rattle.std.proofs.lemmas.List.{get_or_default}
use Rattle.std.proofs.lemmas.List.Splits.{slice_split_none, slice_split_at}
use Rattle.std.proofs.lemmas.Str.{IsUtf8-from_is_utf8, encodes-chars}
use Rattle.std.proofs.lemmas.Str.Pattern.{NoCharPasses-char}
use lib.Pointwise.{pointwise}
use Rattle.kdc_prelude.proofs.Bools.{both}
use Rattle.kdc_prelude.specs.Texts.{same_text}
use Rattle.der_core.specs.Steps.{neither}
use Rattle.krb_names.specs.declared.principal.Principal.{Principal}
use Rattle.krb_names.specs.declared.refusal.NameRefusal.TheVariants.{Empty, TooLong, BadText}
use Rattle.krb_names.specs.NameTexts.{name_text}
use Rattle.krb_names.specs.Pieces.{is_name, is_empty, is_long, is_forbidden, has_forbidden}
use Rattle.krb_names.specs.Principals.{cut_at, name_of_parts, name_reading, round_last_at, same_principal}
use Rattle.krb_names.proofs.Ats.{IsFree, round_at, round_none}
use Rattle.krb_tickets.specs.NameString.{is_enterprise, is_joined}
use Rattle.krb_tickets.specs.Transited.{is_realm}
use Rattle.ticket_laws.specs.Writable.{are_texts, is_lone_joined}
use Rattle.s4u_client.specs.Writable.{IsName}

-- ---- texts that may stand in a name have neither `/` nor `@`

allowed : (empty long forbidden : Bool)
    → is_none (if empty || false then Some Empty else (if long || false then Some TooLong else (if false || (forbidden || false) then Some BadText else None))) ≡ true → forbidden ≡ false
allowed true long forbidden h = absurd cc
allowed false true forbidden h = absurd cc
allowed false false true h = absurd cc
allowed false false false h = refl

name_allowed : (name : List ℕ) → is_name name ≡ true → has_forbidden name ≡ false
name_allowed name h = allowed (is_empty name) (is_long name) (has_forbidden name) h

parts_of_or : (a b c d e : Bool) → ((((a || b) || c) || d) || e) ≡ false → (c ≡ false) × (d ≡ false)
parts_of_or a b c d e h =
    let front = (neither (((a || b) || c) || d) e h).0 in
    let two = neither ((a || b) || c) d front in
    ((neither (a || b) c two.0).1, two.1)

no_such : (c : ℕ) → is_forbidden c ≡ false → (eqb c 64 ≡ false) × (eqb c 47 ≡ false)
no_such c h = parts_of_or (nat_le c 32) (nat_le 127 c && nat_le c 159) (eqb c 64) (eqb c 47) (eqb c 44) h

no_at_among : (cs : List ℕ) → list_any is_forbidden cs ≡ false → NonePass (λ c. eqb c 64) cs
no_at_among [] h = tt
no_at_among (c ∷ cs) h = let all = neither (is_forbidden c) (list_any is_forbidden cs) h in ((no_such c all.0).0, no_at_among cs all.1)

no_slash_among : (cs : List ℕ) → list_any is_forbidden cs ≡ false → NonePass (λ c. eqb c 47) cs
no_slash_among [] h = tt
no_slash_among (c ∷ cs) h = let all = neither (is_forbidden c) (list_any is_forbidden cs) h in ((no_such c all.0).1, no_slash_among cs all.1)

no_at : (name : List ℕ) → is_realm name ≡ true → IsFree name
no_at name h =
    let tests = both (is_utf8 name) (is_name name) h in
    let utf8 = IsUtf8-from_is_utf8 name tests.0 in
    let none : NoCharPasses (λ c. eqb c 64) name = (chars name, encodes-chars name utf8, no_at_among (chars name) (name_allowed name tests.1)) in
    record { at = λ i l. NoCharPasses-char 64 name i none (lit< tt) l }

no_slash : (name : List ℕ) → is_realm name ≡ true → All (λ b. eqb b 47 ≡ false) name
no_slash name h =
    let tests = both (is_utf8 name) (is_name name) h in
    let utf8 = IsUtf8-from_is_utf8 name tests.0 in
    let none : NoCharPasses (λ c. eqb c 47) name = (chars name, encodes-chars name utf8, no_slash_among (chars name) (name_allowed name tests.1)) in
    λ k d lt. ne_eqb _ _ (λ e. NoCharPasses-char 47 name k none (lit< tt) lt (get_or_default name k 0 d lt ∙ e))

-- ---- the parts of a name, joined

split_again : (x : List ℕ) (xs : List (List ℕ)) → list_all is_realm (x ∷ xs) ≡ true → slice_split (λ c. eqb c 47) (join_with_byte 47 (x ∷ xs)) ≡ x ∷ xs
split_again x [] h = slice_split_none (λ c. eqb c 47) x (no_slash x (both (is_realm x) true h).0)
split_again x (y ∷ ys) h =
    let tests = both (is_realm x) (list_all is_realm (y ∷ ys)) h in
    slice_split_at (λ c. eqb c 47) x 47 (join_with_byte 47 (y ∷ ys)) (no_slash x tests.0) refl ∙ ap (λ (v : List (List ℕ)). x ∷ v) (split_again y ys tests.1)

-- texts, at least one
record AreTexts (parts : List (List ℕ)) : Type 0 where
  split : slice_split (λ c. eqb c 47) (join_with_byte 47 parts) ≡ parts
  free : round_last_at (join_with_byte 47 parts) ≡ None

cut_none : (b : ℕ) (rest : List ℕ) → b ≢ 64 → cut_at b rest None ≡ None
cut_none b rest h = grind arith

before : (text rest : List ℕ) → IsFree text → round_last_at rest ≡ None → round_last_at (text ++ rest) ≡ None
before [] rest h e = e
before (b ∷ text) rest h e = rw (before text rest (record { at = λ i l. h.at (suc i) (omega arith) }) e) (cut_none b (text ++ rest) (h.at 0 (omega arith)))

joined_free : (x : List ℕ) (xs : List (List ℕ)) → list_all is_realm (x ∷ xs) ≡ true → round_last_at (join_with_byte 47 (x ∷ xs)) ≡ None
joined_free x [] h = round_none x (no_at x (both (is_realm x) true h).0)
joined_free x (y ∷ ys) h =
    let tests = both (is_realm x) (list_all is_realm (y ∷ ys)) h in
    let rest : List ℕ = join_with_byte 47 (y ∷ ys) in
    let slash : round_last_at (47 ∷ rest) ≡ None = ap (λ (cut : Option (List ℕ × List ℕ)). cut_at 47 rest cut) (joined_free y ys tests.1) in
    before x (47 ∷ rest) (no_at x tests.0) slash

texts_are : (parts : List (List ℕ)) → are_texts parts ≡ true → AreTexts parts
texts_are [] h = absurd cc
texts_are (x ∷ xs) h =
    let all = (both (nat_le 1 (length (x ∷ xs)) && nat_le (length (x ∷ xs)) 8) (list_all is_realm (x ∷ xs)) h).1 in
    record { split = split_again x xs all; free = joined_free x xs all }

-- one text with an `@`
record IsLone (parts : List (List ℕ)) : Type 0 where
  part : List ℕ
  lone : parts ≡ part ∷ []
  has_at : round_last_at part ≢ None

cut_somewhere : (text : List ℕ) (cut : Option (List ℕ × List ℕ)) → is_ok (name_of_parts text cut) ≡ true → cut ≢ None
cut_somewhere text None h e = absurd cc
cut_somewhere text (Some parts) h e = absurd cc

lone_is : (parts : List (List ℕ)) → is_lone_joined parts ≡ true → IsLone parts
lone_is [] h = absurd cc
lone_is (part ∷ []) h =
    let joined = (both (is_utf8 part) (is_joined part) h).1 in
    let ok = (both (not (is_name part)) (is_ok (name_reading part)) joined).1 in
    record { part = part; lone = refl; has_at = cut_somewhere part (round_last_at part) ok }
lone_is (part ∷ other ∷ parts) h = absurd cc

either : (a b : Bool) → (a || b) ≡ true → (a ≡ true) ⊎ (b ≡ true)
either true b h = inl refl
either false b h = inr h

texts_or_lone : (p : Principal) → IsName p → AreTexts p.parts ⊎ IsLone p.parts
texts_or_lone p w =
    elim (either (are_texts p.parts) (is_enterprise p.kind && is_lone_joined p.parts) w.parts) [
      | inl texts ↦ inl (texts_are p.parts texts)
      | inr lone ↦ inr (lone_is p.parts (both (is_enterprise p.kind) (is_lone_joined p.parts) lone).1)
    ]

lone_text : (parts : List (List ℕ)) (l : IsLone parts) → join_with_byte 47 parts ≡ l.part
lone_text parts l = ap (join_with_byte 47) l.lone

mixed : (texts lone : List (List ℕ)) → AreTexts texts → IsLone lone → join_with_byte 47 texts ≡ join_with_byte 47 lone → ⊥
mixed texts lone t l e = l.has_at (ap round_last_at (sym (lone_text lone l)) ∙ ap round_last_at (sym e) ∙ t.free)

same_parts : (xs ys : List (List ℕ)) → AreTexts xs ⊎ IsLone xs → AreTexts ys ⊎ IsLone ys → join_with_byte 47 xs ≡ join_with_byte 47 ys → xs ≡ ys
same_parts xs ys (inl a) (inl b) e = sym a.split ∙ ap (slice_split (λ c. eqb c 47)) e ∙ b.split
same_parts xs ys (inl a) (inr b) e = absurd (mixed xs ys a b e)
same_parts xs ys (inr a) (inl b) e = absurd (mixed ys xs b a (sym e))
same_parts xs ys (inr a) (inr b) e =
    a.lone ∙ ap (λ (part : List ℕ). part ∷ []) (sym (lone_text xs a) ∙ e ∙ lone_text ys b) ∙ sym b.lone

-- ---- names

abbrev cut_of : Option (List ℕ × List ℕ) → List ℕ × List ℕ
cut_of None = ([], [])
cut_of (Some cut) = cut

and_true : (a b : Bool) → a ≡ true → b ≡ true → (a && b) ≡ true
and_true a b h k = rw (h, k) refl

same_again : (p : Principal) → same_principal p p ≡ true
same_again p = and_true _ _ ((lists_equiv nat_list_eq_equiv).refl p.parts) (nat_list_eq_equiv.refl p.realm)

same_where_equal : (a b : Principal) → a.parts ≡ b.parts → a.realm ≡ b.realm → same_principal a b ≡ true
same_where_equal a b parts realm = (λ i. pointwise same_text (parts i) b.parts && same_text (realm i) b.realm) ∙ same_again b

same_by_text : (a b : Principal) → IsName a → IsName b → name_text a ≡ name_text b → same_principal a b ≡ true
same_by_text a b wa wb e =
    let name : Principal → List ℕ = λ p. join_with_byte 47 p.parts in
    let cuts = sym (round_at (name a) a.realm (no_at a.realm wa.realm)) ∙ ap round_last_at e ∙ round_at (name b) b.realm (no_at b.realm wb.realm) in
    let names : name a ≡ name b = ap (λ (cut : Option (List ℕ × List ℕ)). (cut_of cut).0) cuts in
    let realms : a.realm ≡ b.realm = ap (λ (cut : Option (List ℕ × List ℕ)). (cut_of cut).1) cuts in
    same_where_equal a b (same_parts a.parts b.parts (texts_or_lone a wa) (texts_or_lone b wb) names) realms

pub names_differ : (a b : Principal) → IsName a → IsName b → same_principal a b ≡ false → name_text a ≢ name_text b
names_differ a b wa wb other e = let same = same_by_text a b wa wb e in absurd cc
