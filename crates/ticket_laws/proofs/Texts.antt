-- Texts that may stand in names: how long they are, and that they can be written.
use Rattle.std.proofs.Common.{◌≡◌, ℕ, suc, ◌+◌, ◌*◌, ◌≤◌, Bool, true, false, eqb, leb, ◌&&◌, ◌||◌, not, List, [], ◌∷◌, length, ℤ, Option, Some, None, refl, ap, ◌∙◌, length-append, arith, inl, inr, ◌⊎◌}
use Rattle.std.specs.Prelude.{is_none, is_ok, if◌then◌else◌}
use Rattle.std.specs.List.{flat_map, list_all, list_any, join_with_byte, AllByRecursion}
use Rattle.std.specs.Str.{is_utf8}
use Rattle.std.proofs.lemmas.Bool.{ltb-false, leb-true, le-leb}
use Rattle.std.proofs.lemmas.List.Concat.{flat_map-cons}
use Rattle.der_core.specs.Forms.{text}
use Rattle.der_core.specs.Steps.{neither}
use Rattle.der_forms.specs.Lists.{is_some}
use Rattle.der_forms.specs.Names.{kerberos_string}
use Rattle.kdc_prelude.proofs.Bools.{both}
use Rattle.kdc_prelude.specs.Results.{unless_refused}
use Rattle.krb_names.specs.declared.principal.Principal.{Principal}
use Rattle.krb_names.specs.declared.refusal.NameRefusal.{NameRefusal}
use Rattle.krb_names.specs.declared.refusal.NameRefusal.TheVariants.{Empty, TooLong, BadText}
use Rattle.krb_names.specs.Pieces.{is_name, is_empty, is_long, has_forbidden, fault_of}
use Rattle.krb_names.specs.Principals.{cut_at, round_last_at, name_of_parts, name_reading}
use Rattle.krb_tickets.specs.NameString.{plain_parts, is_joined, is_enterprise, name_string, FitsLone}
use Rattle.krb_tickets.specs.Transited.{is_realm, are_realms}
use Rattle.ticket_laws.specs.Writable.{are_texts, is_lone_joined, are_parts}
use Rattle.ticket_laws.proofs.Sizes.{element_within}

-- ---- the pieces of names have at most 255 bytes

not_long : (empty long bad : Bool) → is_none (if empty then Some Empty else (if long then Some TooLong else (if bad then Some BadText else None))) ≡ true → long ≡ false
not_long true long bad h = absurd cc
not_long false true bad h = absurd cc
not_long false false bad h = refl

none_long : (pieces : List (List ℕ)) → is_none (fault_of pieces true) ≡ true → list_any is_long pieces ≡ false
none_long pieces h = not_long (list_any is_empty pieces) (list_any is_long pieces) (list_any has_forbidden pieces) h

few_bytes : (piece : List ℕ) → is_long piece ≡ false → length piece ≤ 255
few_bytes piece h = ltb-false 255 (length piece) h

pub name_short : (name : List ℕ) → is_name name ≡ true → length name ≤ 255
name_short name h = few_bytes name (neither (is_long name) false (none_long (name ∷ []) h)).0

-- ---- a joined text has at most 511

-- a text is as long as the parts round its last `@`, and the `@`
round_length : (text : List ℕ) (parts : List ℕ × List ℕ) → round_last_at text ≡ Some parts → length text ≡ length parts.0 + suc (length parts.1)
round_length [] parts e = absurd cc
round_length (b ∷ rest) parts e = by_rest (round_last_at rest) (round_length rest) e
  where
    by_test : (t : Bool) → (if t then (let cut : Option (List ℕ × List ℕ) = Some ([], rest) in cut) else None) ≡ Some parts → suc (length rest) ≡ length parts.0 + suc (length parts.1)
    by_test true e = let is : (let cut : List ℕ × List ℕ = ([], rest) in cut) ≡ parts = cc in omega (arith, ap (λ (cut : List ℕ × List ℕ). length cut.0 + suc (length cut.1)) is)
    by_test false e = absurd cc

    by_rest : (cut : Option (List ℕ × List ℕ)) → ((q : List ℕ × List ℕ) → cut ≡ Some q → length rest ≡ length q.0 + suc (length q.1)) → cut_at b rest cut ≡ Some parts → suc (length rest) ≡ length parts.0 + suc (length parts.1)
    by_rest None long e = by_test (eqb b 64) e
    by_rest (Some q) long e =
        let is : (let cut : List ℕ × List ℕ = (b ∷ q.0, q.1) in cut) ≡ parts = cc in
        omega (arith, long q refl, ap (λ (cut : List ℕ × List ℕ). length cut.0 + suc (length cut.1)) is)

no_fault : (fault : Option NameRefusal) (name : Principal) → is_ok (unless_refused fault name) ≡ true → is_none fault ≡ true
no_fault None name h = refl
no_fault (Some fault) name h = absurd cc

joined_length : (text : List ℕ) (cut : Option (List ℕ × List ℕ)) → round_last_at text ≡ cut → is_ok (name_of_parts text cut) ≡ true → length text ≤ 511
joined_length text None e h = absurd cc
joined_length text (Some parts) e h =
    let none = none_long (parts.0 ∷ parts.1 ∷ []) (no_fault (fault_of (parts.0 ∷ parts.1 ∷ []) true) _ h) in
    let tests = neither (is_long parts.0) (is_long parts.1 || false) none in
    omega (arith, few_bytes parts.0 tests.0, few_bytes parts.1 (neither (is_long parts.1) false tests.1).0, round_length text parts e)

joined_short : (text : List ℕ) → is_joined text ≡ true → length text ≤ 511
joined_short text h = joined_length text (round_last_at text) refl (both (not (is_name text)) (is_ok (name_reading text)) h).1

-- ---- realms

pub realm_fits : (name : List ℕ) → is_realm name ≡ true → kerberos_string.Fits name
realm_fits name h = let tests = both (is_utf8 name) (is_name name) h in ((tt, tests.0), tests.1)

pub realm_short : (name : List ℕ) → is_realm name ≡ true → length name ≤ 255
realm_short name h = name_short name (both (is_utf8 name) (is_name name) h).1

all_fit : (names : List (List ℕ)) → list_all is_realm names ≡ true → AllByRecursion kerberos_string.Fits names
all_fit [] h = tt
all_fit (x ∷ xs) h = let tests = both (is_realm x) (list_all is_realm xs) h in (realm_fits x tests.0, all_fit xs tests.1)

joined_within : (names : List (List ℕ)) → list_all is_realm names ≡ true → length (join_with_byte 44 names) ≤ 256 * length names
joined_within [] h = omega arith
joined_within (x ∷ []) h = omega (arith, realm_short x (both (is_realm x) true h).0)
joined_within (x ∷ y ∷ ys) h =
    let tests = both (is_realm x) (list_all is_realm (y ∷ ys)) h in
    omega (arith, realm_short x tests.0, joined_within (y ∷ ys) tests.1, length-append x (44 ∷ join_with_byte 44 (y ∷ ys)))

pub realms_within : (names : List (List ℕ)) → are_realms names ≡ true → length (join_with_byte 44 names) ≤ 8192
realms_within names h =
    let tests = both (leb (length names) 32) (list_all is_realm names) h in
    omega (arith, leb-true _ _ tests.0, joined_within names tests.1)

-- ---- the parts of names

record AreTexts (parts : List (List ℕ)) : Type 0 where
  some : 1 ≤ length parts
  few : length parts ≤ 8
  all : list_all is_realm parts ≡ true

texts_are : (parts : List (List ℕ)) → are_texts parts ≡ true → AreTexts parts
texts_are parts h =
    let tests = both (leb 1 (length parts) && leb (length parts) 8) (list_all is_realm parts) h in
    let count = both (leb 1 (length parts)) (leb (length parts) 8) tests.0 in
    record { some = leb-true _ _ count.0; few = leb-true _ _ count.1; all = tests.1 }

either : (a b : Bool) → (a || b) ≡ true → (a ≡ true) ⊎ (b ≡ true)
either true b h = inl refl
either false b h = inr h

some_part : (parts : List (List ℕ)) → 1 ≤ length parts → is_some parts ≡ true
some_part [] h = absurd (omega arith)
some_part (x ∷ xs) h = refl

lone_fits : (parts : List (List ℕ)) → is_lone_joined parts ≡ true → FitsLone parts
lone_fits [] h = absurd cc
lone_fits (part ∷ []) h = let tests = both (is_utf8 part) (is_joined part) h in record { part = part; lone = refl; fits = ((tt, tests.0), tests.1) }
lone_fits (part ∷ other ∷ parts) h = absurd cc

pub parts_fit : (kind : ℤ) (parts : List (List ℕ)) → are_parts kind parts ≡ true → (name_string kind).Fits parts
parts_fit kind parts h =
    elim (either (are_texts parts) (is_enterprise kind && is_lone_joined parts) h) [
      | inl plain ↦ let texts = texts_are parts plain in inl ((all_fit parts texts.all, texts.few), some_part parts texts.some)
      | inr lone ↦ let tests = both (is_enterprise kind) (is_lone_joined parts) lone in inr (tests.0, lone_fits parts tests.1)
    ]

texts_within : (parts : List (List ℕ)) → list_all is_realm parts ≡ true → length (flat_map text.spelling parts) ≤ 261 * length parts
texts_within [] h = omega arith
texts_within (x ∷ xs) h =
    let tests = both (is_realm x) (list_all is_realm xs) h in
    omega (arith, element_within 27 255 x (realm_short x tests.0), texts_within xs tests.1, ap length (flat_map-cons text.spelling x xs), length-append (text.spelling x) (flat_map text.spelling xs))

lone_within : (parts : List (List ℕ)) → is_lone_joined parts ≡ true → length (flat_map text.spelling parts) ≤ 517
lone_within [] h = omega arith
lone_within (x ∷ []) h =
    let short = joined_short x (both (is_utf8 x) (is_joined x) h).1 in
    omega (arith, element_within 27 511 x short, ap length (flat_map-cons text.spelling x []), length-append (text.spelling x) [])
lone_within (x ∷ y ∷ ys) h = absurd cc

pub parts_within : (kind : ℤ) (parts : List (List ℕ)) → are_parts kind parts ≡ true → length (flat_map text.spelling parts) ≤ 2088
parts_within kind parts h =
    elim (either (are_texts parts) (is_enterprise kind && is_lone_joined parts) h) [
      | inl plain ↦ let texts = texts_are parts plain in omega (arith, texts.few, texts_within parts texts.all)
      | inr lone ↦ omega (arith, lone_within parts (both (is_enterprise kind) (is_lone_joined parts) lone).1)
    ]

-- ---- what can be written is such a text

and_true : (a b : Bool) → a ≡ true → b ≡ true → (a && b) ≡ true
and_true a b h k = rw (h, k) refl

pub realm_only : (name : List ℕ) → kerberos_string.Fits name → is_realm name ≡ true
realm_only name fits = and_true (is_utf8 name) (is_name name) fits.0.1 fits.1

all_only : (names : List (List ℕ)) → AllByRecursion kerberos_string.Fits names → list_all is_realm names ≡ true
all_only [] fits = refl
all_only (x ∷ xs) fits = and_true (is_realm x) (list_all is_realm xs) (realm_only x fits.0) (all_only xs fits.1)

some_only : (parts : List (List ℕ)) → is_some parts ≡ true → 1 ≤ length parts
some_only [] h = absurd cc
some_only (x ∷ xs) h = omega arith

texts_only : (parts : List (List ℕ)) → plain_parts.Fits parts → are_texts parts ≡ true
texts_only parts fits =
    let count = and_true (leb 1 (length parts)) (leb (length parts) 8) (le-leb _ _ (some_only parts fits.1)) (le-leb _ _ fits.0.1) in
    and_true (leb 1 (length parts) && leb (length parts) 8) (list_all is_realm parts) count (all_only parts fits.0.0)

lone_only : (parts : List (List ℕ)) → FitsLone parts → is_lone_joined parts ≡ true
lone_only parts fits = ap is_lone_joined fits.lone ∙ and_true (is_utf8 fits.part) (is_joined fits.part) fits.fits.0.1 fits.fits.1

or_true : (a b : Bool) → b ≡ true → (a || b) ≡ true
or_true true b h = refl
or_true false b h = h

pub parts_only : (kind : ℤ) (parts : List (List ℕ)) → (name_string kind).Fits parts → are_parts kind parts ≡ true
parts_only kind parts (inl plain) = rw (texts_only parts plain) refl
parts_only kind parts (inr lone) =
    or_true (are_texts parts) (is_enterprise kind && is_lone_joined parts) (and_true (is_enterprise kind) (is_lone_joined parts) lone.0 (lone_only parts lone.1))
