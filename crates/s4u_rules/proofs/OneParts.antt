-- No account of a directory has a name that is joined of none or several parts.
use Rattle.std.proofs.Common.{◌≡◌, ◌∙◌, ℕ, ◌+◌, ◌≤◌, ◌/◌, ◌%◌, ◌||◌, Bool, true, false, cond, List, [], ◌∷◌, refl, ap, sym, subst, arith}
use Rattle.std.specs.Prelude.{Option, None, Some, is_none, nat_eq, option_and_then, position, slice_get, if◌then◌else◌}
use Rattle.std.specs.List.{AllByRecursion, join_with_byte, list_any, position_from}
use Rattle.std.specs.Str.{chars, is_utf8}
use Rattle.std.specs.Cmp.Lexicographic.{same_text as equal_texts}
use Rattle.std.proofs.Math.Utf8.{encode, encodes}
use Rattle.std.proofs.Math.Dec.{ltb}
use Rattle.std.proofs.lemmas.Bool.{eqb-true}
use Rattle.std.proofs.lemmas.Iterator.Adapters.{position_from-zero}
use Rattle.std.proofs.lemmas.List.Folds.{list_any-append}
use Rattle.std.proofs.lemmas.Str.{encodes-chars, IsUtf8-from_is_utf8}
use Rattle.kdc_prelude.specs.Texts.{same_text}
use Rattle.kdc_prelude.proofs.Bools.{both}
use Rattle.krb_names.specs.declared.refusal.NameRefusal.{NameRefusal}
use Rattle.krb_names.specs.declared.refusal.NameRefusal.TheVariants.{Empty, TooLong, BadText}
use Rattle.krb_names.specs.Pieces.{has_forbidden, is_empty, is_forbidden, is_long, is_name}
use Rattle.dir_records.specs.declared.records.Account.{Account}
use Rattle.dir_records.specs.declared.records.RealmRec.{RealmRec}
use Rattle.dir_records.specs.DirectoryValue.{DirectoryValue}
use Rattle.dir_records.specs.IsDirectory.{IsAccount, IsAccountInRange, IsDirectory, IsRealm, IsRealmInRange}
use Rattle.dir_records.proofs.Tables.{each}
use Rattle.dir_core.specs.Lookups.{account_named, only_part}

-- ---- bytes that are slashes

abbrev is_slash : ℕ → Bool
is_slash b = nat_eq b 47

high : (b : ℕ) → 128 ≤ b → is_slash b ≡ false
high b h = by_test (is_slash b) refl
  where
    by_test : (t : Bool) → is_slash b ≡ t → is_slash b ≡ false
    by_test true e = let same = eqb-true b 47 e in absurd (omega (arith, h, same))
    by_test false e = e

neither : (a b : Bool) → a ≡ false → b ≡ false → (a || b) ≡ false
neither true b h k = absurd (cc)
neither false b h k = k

of_neither : (a b : Bool) → (a || b) ≡ false → (a ≡ false) × (b ≡ false)
of_neither true b h = absurd (cc)
of_neither false b h = (refl, h)

or_true : (a : Bool) → (a || true) ≡ true
or_true true = refl
or_true false = refl

-- a character that is none is spelt without one
none_in_char : (c : ℕ) → is_slash c ≡ false → list_any is_slash (encode c) ≡ false
unfolding encode
none_in_char c h = by_size (ltb c 128) (ltb c 2048) (ltb c 65536)
  where
    by_size : (one two three : Bool) → list_any is_slash (cond one (c ∷ []) (cond two ((192 + c / 64) ∷ (128 + c % 64) ∷ []) (cond three ((224 + c / 4096) ∷ (128 + (c / 64) % 64) ∷ (128 + c % 64) ∷ []) ((240 + c / 262144) ∷ (128 + (c / 4096) % 64) ∷ (128 + (c / 64) % 64) ∷ (128 + c % 64) ∷ [])))) ≡ false
    by_size true two three = neither (is_slash c) false h refl
    by_size false true three =
        neither (is_slash (192 + c / 64)) (is_slash (128 + c % 64) || false) (high (192 + c / 64) (omega arith))
        (neither (is_slash (128 + c % 64)) false (high (128 + c % 64) (omega arith)) refl)
    by_size false false true =
        neither (is_slash (224 + c / 4096)) (is_slash (128 + (c / 64) % 64) || (is_slash (128 + c % 64) || false)) (high (224 + c / 4096) (omega arith))
        (neither (is_slash (128 + (c / 64) % 64)) (is_slash (128 + c % 64) || false) (high (128 + (c / 64) % 64) (omega arith))
        (neither (is_slash (128 + c % 64)) false (high (128 + c % 64) (omega arith)) refl))
    by_size false false false =
        neither (is_slash (240 + c / 262144)) (is_slash (128 + (c / 4096) % 64) || (is_slash (128 + (c / 64) % 64) || (is_slash (128 + c % 64) || false))) (high (240 + c / 262144) (omega arith))
        (neither (is_slash (128 + (c / 4096) % 64)) (is_slash (128 + (c / 64) % 64) || (is_slash (128 + c % 64) || false)) (high (128 + (c / 4096) % 64) (omega arith))
        (neither (is_slash (128 + (c / 64) % 64)) (is_slash (128 + c % 64) || false) (high (128 + (c / 64) % 64) (omega arith))
        (neither (is_slash (128 + c % 64)) false (high (128 + c % 64) (omega arith)) refl)))

not_forbidden : (c : ℕ) → is_forbidden c ≡ false → is_slash c ≡ false
not_forbidden c h = by_test (is_slash c) refl
  where
    by_test : (t : Bool) → is_slash c ≡ t → is_slash c ≡ false
    by_test true e = let slash : is_forbidden 47 ≡ false = subst (λ (b : ℕ). is_forbidden b ≡ false) (eqb-true c 47 e) h in absurd (cc)
    by_test false e = e

none_in_chars : (cs : List ℕ) → list_any is_forbidden cs ≡ false → list_any is_slash (encodes cs) ≡ false
none_in_chars [] h = refl
none_in_chars (c ∷ cs) h =
    let parts = of_neither (is_forbidden c) (list_any is_forbidden cs) h in
    list_any-append is_slash (encode c) (encodes cs)
    ∙ neither (list_any is_slash (encode c)) (list_any is_slash (encodes cs)) (none_in_char c (not_forbidden c parts.0)) (none_in_chars cs parts.1)

-- ---- names

faultless : (empty long other : Bool) → is_none (let fault : Option NameRefusal = if empty then Some Empty else (if long then Some TooLong else (if other then Some BadText else None)) in fault) ≡ true
    → (empty ≡ false) × (other ≡ false)
faultless true long other h = absurd (cc)
faultless false true other h = absurd (cc)
faultless false false true h = absurd (cc)
faultless false false false h = (refl, refl)

-- a name has a byte, and none that is a slash
name_bytes : (text : List ℕ) → is_name text ≡ true → is_utf8 text ≡ true → (is_empty text ≡ false) × (list_any is_slash text ≡ false)
name_bytes text h utf8 =
    let parts = faultless (is_empty text || false) (is_long text || false) (has_forbidden text || false) h in
    let none = none_in_chars (chars text) (of_neither (has_forbidden text) false parts.1).0 in
    ((of_neither (is_empty text) false parts.0).0, sym (ap (list_any is_slash) (encodes-chars text (IsUtf8-from_is_utf8 text utf8))) ∙ none)

-- several parts that are joined have one
slash_joined : (first second : List ℕ) (more : List (List ℕ)) → list_any is_slash (join_with_byte 47 (first ∷ second ∷ more)) ≡ true
slash_joined first second more =
    list_any-append is_slash first (47 ∷ join_with_byte 47 (second ∷ more)) ∙ or_true (list_any is_slash first)

is_no_name : (parts : List (List ℕ)) → only_part parts ≡ None → (text : List ℕ) → text ≡ join_with_byte 47 parts → is_empty text ≡ false → list_any is_slash text ≡ false → ⊥
is_no_name [] one text e some none = let empty : is_empty [] ≡ false = subst (λ (t : List ℕ). is_empty t ≡ false) e some in absurd (cc)
is_no_name (part ∷ []) one text e some none = absurd (cc)
is_no_name (first ∷ second ∷ more) one text e some none =
    let slash = sym (slash_joined first second more) ∙ (sym (ap (list_any is_slash) e) ∙ none) in absurd (cc)

other_name : (parts : List (List ℕ)) → only_part parts ≡ None → (text : List ℕ) → is_name text ≡ true → is_utf8 text ≡ true → same_text text (join_with_byte 47 parts) ≡ false
other_name parts one text h utf8 = by_test (same_text text (join_with_byte 47 parts)) refl
  where
    by_test : (t : Bool) → same_text text (join_with_byte 47 parts) ≡ t → same_text text (join_with_byte 47 parts) ≡ false
    by_test true e =
        let bytes = name_bytes text h utf8 in
        absurd (is_no_name parts one text (equal_texts text (join_with_byte 47 parts) (sym e)) bytes.0 bytes.1)
    by_test false e = e

-- ---- accounts

found_later : (here : Bool) (first later : Option ℕ) → here ≡ false → later ≡ None → cond here first later ≡ None
found_later true first later h k = absurd (cc)
found_later false first later h k = k

no_account : (parts : List (List ℕ)) → only_part parts ≡ None → (accounts : List Account) → AllByRecursion IsAccount accounts → AllByRecursion IsAccountInRange accounts
    → (i : ℕ) → position_from (λ account. same_text account.name (join_with_byte 47 parts)) i accounts ≡ None
no_account parts one [] forms ranges i = refl
no_account parts one (account ∷ accounts) forms ranges i =
    let named = both (is_name account.name) _ forms.0.name in
    found_later (same_text account.name (join_with_byte 47 parts)) (Some i) (position_from (λ other. same_text other.name (join_with_byte 47 parts)) (i + 1) accounts)
    (other_name parts one account.name named.0 ranges.0.name) (no_account parts one accounts forms.1 ranges.1 (i + 1))

in_realm : (dir : DirectoryValue) → IsDirectory dir → (at : ℕ) (parts : List (List ℕ)) → only_part parts ≡ None → (found : Option RealmRec) → slice_get dir.realms at ≡ found
    → option_and_then (λ realm. position (λ account. same_text account.name (join_with_byte 47 parts)) realm.accounts) found ≡ None
in_realm dir h at parts one None e = refl
in_realm dir h at parts one (Some realm) e =
    let forms = each IsRealm dir.realms at realm h.consistent.forms.realms e in
    let ranges = each IsRealmInRange dir.realms at realm h.in_range.realms e in
    position_from-zero (λ account. same_text account.name (join_with_byte 47 parts)) realm.accounts ∙ no_account parts one realm.accounts forms.accounts ranges.accounts 0

pub no_joined_account : (dir : DirectoryValue) → IsDirectory dir → (at : ℕ) (parts : List (List ℕ)) → only_part parts ≡ None → account_named dir at (join_with_byte 47 parts) ≡ None
no_joined_account dir h at parts one = in_realm dir h at parts one (slice_get dir.realms at) refl
