-- A directory is well formed exactly where it is consistent.
use Rattle.std.proofs.Common.{◌≡◌, ℕ, ◌+◌, ◌++◌, ◌||◌, List, [], ◌∷◌, ◌&&◌, ◌∙◌, sym, ap, map, length, refl, nat_eq, Bool, true, false}
use Rattle.std.proofs.lemmas.Bool.{le-leb, leb-true}
use Rattle.std.proofs.lemmas.Cmp.{nat_eq_equiv, nat_list_eq_equiv}
use Rattle.std.proofs.lemmas.List.{map-append}
use Rattle.std.specs.List.{AllByRecursion, list_all, starts_with}
use Rattle.std.specs.Prelude.{Option, None, Some, filter, flat_map, if◌then◌else◌, is_none, nat_le}
use Rattle.kdc_prelude.proofs.Verdicts.{neither}
use Rattle.kdc_prelude.specs.Distinct.{all_distinct}
use Rattle.kdc_prelude.specs.Texts.{same_text}
use Rattle.kdc_prelude.specs.Verdicts.{first_failing, ◌or_else◌}
use Rattle.krb_names.specs.Keys.{key_bytes}
use Rattle.krb_names.specs.SidValue.{SidValue}
use Rattle.dir_records.specs.declared.records.Account.{Account}
use Rattle.dir_records.specs.declared.records.KeyRec.{KeyRec}
use Rattle.dir_records.specs.declared.records.RealmRec.{RealmRec}
use Rattle.dir_records.specs.declared.records.SpentNumber.{SpentNumber}
use Rattle.dir_records.specs.declared.records.Trust.{Trust}
use Rattle.dir_records.specs.declared.refusal.DirCause.{DirCause}
use Rattle.dir_records.specs.declared.refusal.DirCause.TheVariants.{Duplicate, SameKey, TooMany, UnknownRef}
use Rattle.dir_records.specs.declared.refusal.DirPlace.{DirPlace}
use Rattle.dir_records.specs.declared.refusal.DirPlace.TheVariants.{Whole}
use Rattle.dir_records.specs.declared.refusal.DirRefusal.{DirRefusal}
use Rattle.dir_records.specs.Clashes.{◌or_earlier◌, duplicate, entry_repeat, has_distinct_entries, has_references, in_realms, overlaps, realm_names, realm_sids, shared_key, unknown_in, unknown_reference}
use Rattle.dir_records.specs.DirectoryValue.{DirectoryValue}
use Rattle.dir_records.specs.IsDirectory.{HasDistinctMembers, HasForms, HasReferences, IsConsistent, IsDistinct, keys_of, numbers_spent}
use Rattle.dir_records.specs.Marks.{account_marks, key_marks, marks_of, name_marks, number_marks, partner_marks, spent_key_marks, spent_number_marks, spn_marks, trust_marks}
use Rattle.dir_records.specs.Members.{members_refusal, refused_at}
use Rattle.dir_records.specs.Repeats.{first_repeat}
use Rattle.dir_records.specs.WellFormed.{clash_refusal, first_refusal, has_few_spent, is_well_formed, kept_rows, refused_for}
use Rattle.dir_records.proofs.Apart.{marked, neither_earlier, of_accounts, of_names, of_realms, of_spns}
use Rattle.dir_records.proofs.Bounds.{from_none}
use Rattle.dir_records.proofs.Distinctness.{no_repeat}
use Rattle.dir_records.proofs.MemberForms.{are_realms, realms_are_passed}
use Rattle.dir_records.proofs.Tables.{accounts_hold, accounts_pass, both_none, no_fault, not_refused, realms_hold, realms_pass, rows_hold, rows_pass, trusts_hold, trusts_pass}

-- marks that stand once alone are distinct, and distinct ones stand once alone
distinct : {X : Type 0} (same : X → X → Bool) → ((x y : X) → same x y ≡ same y x) → (marks : List (DirPlace × X)) (values : List X) → marked marks ≡ values
    → first_repeat same marks ≡ None → all_distinct same values ≡ true
distinct same symm marks values e h = ap (all_distinct same) (sym e) ∙ sym (no_repeat same symm marks) ∙ ap is_none h

once : {X : Type 0} (same : X → X → Bool) → ((x y : X) → same x y ≡ same y x) → (marks : List (DirPlace × X)) (values : List X) → marked marks ≡ values
    → all_distinct same values ≡ true → first_repeat same marks ≡ None
once same symm marks values e h = from_none (first_repeat same marks) (no_repeat same symm marks ∙ ap (all_distinct same) e ∙ h)

both_earlier : (a b : Option DirPlace) → a ≡ None → b ≡ None → (a or_earlier b) ≡ None
both_earlier None b h k = k
both_earlier (Some place) b h k = absurd (cc)

-- what the marks are
of_trusts : {X : Type 0} (mark : Trust → X) (at number : ℕ) (trusts : List Trust) → marked (trust_marks mark at number trusts) ≡ map mark trusts
of_trusts mark at number [] = refl
of_trusts mark at number (trust ∷ trusts) = ap (λ rest. mark trust ∷ rest) (of_trusts mark at (number + 1) trusts)

of_sids : (at : ℕ) (realms : List RealmRec) → marked (realm_sids at realms) ≡ map (λ realm. realm.sid) realms
of_sids at [] = refl
of_sids at (realm ∷ realms) = ap (λ rest. realm.sid ∷ rest) (of_sids (at + 1) realms)

of_taken : (taken : List SpentNumber) → marked (map (λ (one : SpentNumber). (Whole, one.number)) taken) ≡ map (λ one. one.number) taken
of_taken [] = refl
of_taken (one ∷ taken) = ap (λ rest. one.number ∷ rest) (of_taken taken)

of_numbers : (spent : List SpentNumber) (at : ℕ) (realm : RealmRec)
    → marked (spent_number_marks spent realm ++ number_marks at realm) ≡ numbers_spent spent realm ++ map (λ account. account.number) realm.accounts
of_numbers spent at realm =
    map-append (λ mark. mark.1) (spent_number_marks spent realm) (number_marks at realm)
    ∙ rw (of_taken (filter (λ taken. same_text taken.realm realm.name) spent), of_accounts (λ account. account.number) at 1 realm.accounts) refl

of_spent_keys : (spent : List KeyRec) → marked (spent_key_marks spent) ≡ map (λ key. key_bytes key.key) spent
of_spent_keys [] = refl
of_spent_keys (key ∷ spent) = ap (λ rest. key_bytes key.key ∷ rest) (of_spent_keys spent)

abbrev account_key : Account → List ℕ
account_key account = key_bytes account.key.key

abbrev trust_key : Trust → List ℕ
trust_key trust = key_bytes trust.key.key

of_keys : (at : ℕ) (realm : RealmRec) → marked (key_marks at realm) ≡ keys_of realm
of_keys at realm =
    ap (λ rest. key_bytes realm.krbtgt.key ∷ rest)
    (map-append (λ mark. mark.1) (account_marks account_key at 1 realm.accounts) (trust_marks trust_key at 1 realm.trusts)
    ∙ rw (of_accounts account_key at 1 realm.accounts, of_trusts trust_key at 1 realm.trusts) refl)

of_all_keys : (dir : DirectoryValue) → marked (spent_key_marks dir.spent_keys ++ marks_of key_marks dir.realms) ≡ map (λ key. key_bytes key.key) dir.spent_keys ++ flat_map keys_of dir.realms
of_all_keys dir =
    map-append (λ mark. mark.1) (spent_key_marks dir.spent_keys) (marks_of key_marks dir.realms)
    ∙ rw (of_spent_keys dir.spent_keys, of_realms key_marks keys_of of_keys 0 dir.realms) refl

or_comm : (a b : Bool) → (a || b) ≡ (b || a)
or_comm true true = refl
or_comm true false = refl
or_comm false true = refl
or_comm false false = refl

overlaps_symm : (a b : SidValue) → overlaps a b ≡ overlaps b a
overlaps_symm a b = rw (nat_eq_equiv.symm a.authority b.authority, or_comm (starts_with nat_eq a.numbers b.numbers) (starts_with nat_eq b.numbers a.numbers)) refl

-- what is found twice, kind by kind
abbrev accounts_twice : ℕ → RealmRec → Option DirPlace
accounts_twice at realm = first_repeat same_text (name_marks at realm)

abbrev numbers_twice : List SpentNumber → ℕ → RealmRec → Option DirPlace
numbers_twice spent at realm = first_repeat nat_eq (spent_number_marks spent realm ++ number_marks at realm)

abbrev partners_twice : ℕ → RealmRec → Option DirPlace
partners_twice at realm = first_repeat same_text (partner_marks at realm)

-- no kind of a directory's parts has something twice
record StandOnce (dir : DirectoryValue) : Type 0 where
  names : first_repeat same_text (realm_names 0 dir.realms) ≡ None
  sids : first_repeat overlaps (realm_sids 0 dir.realms) ≡ None
  accounts : in_realms accounts_twice 0 dir.realms ≡ None
  numbers : in_realms (numbers_twice dir.spent_numbers) 0 dir.realms ≡ None
  partners : in_realms partners_twice 0 dir.realms ≡ None
  spns : first_repeat same_text (marks_of spn_marks dir.realms) ≡ None
  entries : in_realms entry_repeat 0 dir.realms ≡ None

stand_once : (dir : DirectoryValue) → duplicate dir.spent_numbers dir.realms ≡ None → StandOnce dir
stand_once dir h =
    let realms = dir.realms in
    let entries = in_realms entry_repeat 0 realms in
    let spns = first_repeat same_text (marks_of spn_marks realms) in
    let partners = in_realms partners_twice 0 realms in
    let numbers = in_realms (numbers_twice dir.spent_numbers) 0 realms in
    let accounts = in_realms accounts_twice 0 realms in
    let sids = first_repeat overlaps (realm_sids 0 realms) in
    let names = first_repeat same_text (realm_names 0 realms) in
    let past_names = neither_earlier names (sids or_earlier accounts or_earlier numbers or_earlier partners or_earlier spns or_earlier entries) h in
    let past_sids = neither_earlier sids (accounts or_earlier numbers or_earlier partners or_earlier spns or_earlier entries) past_names.1 in
    let past_accounts = neither_earlier accounts (numbers or_earlier partners or_earlier spns or_earlier entries) past_sids.1 in
    let past_numbers = neither_earlier numbers (partners or_earlier spns or_earlier entries) past_accounts.1 in
    let past_partners = neither_earlier partners (spns or_earlier entries) past_numbers.1 in
    let past_spns = neither_earlier spns entries past_partners.1 in
    record {
      names = past_names.0;
      sids = past_sids.0;
      accounts = past_accounts.0;
      numbers = past_numbers.0;
      partners = past_partners.0;
      spns = past_spns.0;
      entries = past_spns.1;
    }

no_duplicate : (dir : DirectoryValue) → StandOnce dir → duplicate dir.spent_numbers dir.realms ≡ None
no_duplicate dir h =
    both_earlier _ _ h.names (both_earlier _ _ h.sids (both_earlier _ _ h.accounts (both_earlier _ _ h.numbers (both_earlier _ _ h.partners (both_earlier _ _ h.spns h.entries)))))

-- each realm, kind by kind
record MembersOnce (spent : List SpentNumber) (realms : List RealmRec) : Type 0 where
  names : AllByRecursion (λ realm. all_distinct same_text (map (λ account. account.name) realm.accounts) ≡ true) realms
  numbers : AllByRecursion (λ realm. all_distinct nat_eq (numbers_spent spent realm ++ map (λ account. account.number) realm.accounts) ≡ true) realms
  partners : AllByRecursion (λ realm. all_distinct same_text (map (λ trust. trust.partner) realm.trusts) ≡ true) realms
  entries : AllByRecursion (λ realm. (list_all has_distinct_entries realm.accounts ≡ true) × (list_all (λ trust. all_distinct same_text trust.reach) realm.trusts ≡ true)) realms

members : (spent : List SpentNumber) (realms : List RealmRec) → MembersOnce spent realms → AllByRecursion (HasDistinctMembers spent) realms
members spent [] h = tt
members spent (realm ∷ realms) h = (
  record { names = h.names.0; numbers = h.numbers.0; partners = h.partners.0; entries = h.entries.0.0; reach = h.entries.0.1 },
  members spent realms (record { names = h.names.1; numbers = h.numbers.1; partners = h.partners.1; entries = h.entries.1 }),
)

by_kind : (spent : List SpentNumber) (realms : List RealmRec) → AllByRecursion (HasDistinctMembers spent) realms → MembersOnce spent realms
by_kind spent [] h = record { names = tt; numbers = tt; partners = tt; entries = tt }
by_kind spent (realm ∷ realms) h =
    let rest = by_kind spent realms h.1 in
    record {
      names = (h.0.names, rest.names);
      numbers = (h.0.numbers, rest.numbers);
      partners = (h.0.partners, rest.partners);
      entries = ((h.0.entries, h.0.reach), rest.entries);
    }

entries_hold : (at : ℕ) (realm : RealmRec) → entry_repeat at realm ≡ None
    → (list_all has_distinct_entries realm.accounts ≡ true) × (list_all (λ trust. all_distinct same_text trust.reach) realm.trusts ≡ true)
entries_hold at realm h =
    let reach = λ (trust : Trust). all_distinct same_text trust.reach in
    let parts = neither (first_failing (account_marks has_distinct_entries at 1 realm.accounts)) (first_failing (trust_marks reach at 1 realm.trusts)) h in
    (accounts_hold has_distinct_entries at 1 realm.accounts parts.0, trusts_hold reach at 1 realm.trusts parts.1)

entries_pass : (at : ℕ) (realm : RealmRec)
    → (list_all has_distinct_entries realm.accounts ≡ true) × (list_all (λ trust. all_distinct same_text trust.reach) realm.trusts ≡ true) → entry_repeat at realm ≡ None
entries_pass at realm h =
    let reach = λ (trust : Trust). all_distinct same_text trust.reach in
    both_none (first_failing (account_marks has_distinct_entries at 1 realm.accounts)) (first_failing (trust_marks reach at 1 realm.trusts))
    (accounts_pass has_distinct_entries at 1 realm.accounts h.0) (trusts_pass reach at 1 realm.trusts h.1)

abbrev spns_of : RealmRec → List (List ℕ)
spns_of realm = flat_map (λ account. account.spns) realm.accounts

pub is_distinct : (dir : DirectoryValue) → duplicate dir.spent_numbers dir.realms ≡ None → shared_key dir.spent_keys dir.realms ≡ None → IsDistinct dir
is_distinct dir h k =
    let found = stand_once dir h in
    let text_symm = nat_list_eq_equiv.symm in
    record {
      names = distinct same_text text_symm (realm_names 0 dir.realms) (map (λ realm. realm.name) dir.realms) (of_names 0 dir.realms) found.names;
      sids = distinct overlaps overlaps_symm (realm_sids 0 dir.realms) (map (λ realm. realm.sid) dir.realms) (of_sids 0 dir.realms) found.sids;
      members = members dir.spent_numbers dir.realms (record {
        names = realms_hold accounts_twice (λ realm. all_distinct same_text (map (λ account. account.name) realm.accounts) ≡ true) (λ at realm. distinct same_text text_symm (name_marks at realm) _ (of_accounts (λ account. account.name) at 1 realm.accounts)) 0 dir.realms found.accounts;
        numbers = realms_hold (numbers_twice dir.spent_numbers) (λ realm. all_distinct nat_eq (numbers_spent dir.spent_numbers realm ++ map (λ account. account.number) realm.accounts) ≡ true) (λ at realm. distinct nat_eq nat_eq_equiv.symm (spent_number_marks dir.spent_numbers realm ++ number_marks at realm) _ (of_numbers dir.spent_numbers at realm)) 0 dir.realms found.numbers;
        partners = realms_hold partners_twice (λ realm. all_distinct same_text (map (λ trust. trust.partner) realm.trusts) ≡ true) (λ at realm. distinct same_text text_symm (partner_marks at realm) _ (of_trusts (λ trust. trust.partner) at 1 realm.trusts)) 0 dir.realms found.partners;
        entries = realms_hold entry_repeat _ entries_hold 0 dir.realms found.entries;
      });
      spns = distinct same_text text_symm (marks_of spn_marks dir.realms) (flat_map spns_of dir.realms) (of_realms spn_marks spns_of (λ at realm. of_spns at 1 realm.accounts) 0 dir.realms) found.spns;
      keys = distinct same_text text_symm (spent_key_marks dir.spent_keys ++ marks_of key_marks dir.realms) _ (of_all_keys dir) k;
    }

pub distinct_once : (dir : DirectoryValue) → IsDistinct dir → (duplicate dir.spent_numbers dir.realms ≡ None) × (shared_key dir.spent_keys dir.realms ≡ None)
distinct_once dir h =
    let text_symm = nat_list_eq_equiv.symm in
    let each = by_kind dir.spent_numbers dir.realms h.members in (
      no_duplicate dir (record {
        names = once same_text text_symm (realm_names 0 dir.realms) _ (of_names 0 dir.realms) h.names;
        sids = once overlaps overlaps_symm (realm_sids 0 dir.realms) _ (of_sids 0 dir.realms) h.sids;
        accounts = realms_pass accounts_twice (λ realm. all_distinct same_text (map (λ account. account.name) realm.accounts) ≡ true) (λ at realm. once same_text text_symm (name_marks at realm) _ (of_accounts (λ account. account.name) at 1 realm.accounts)) 0 dir.realms each.names;
        numbers = realms_pass (numbers_twice dir.spent_numbers) (λ realm. all_distinct nat_eq (numbers_spent dir.spent_numbers realm ++ map (λ account. account.number) realm.accounts) ≡ true) (λ at realm. once nat_eq nat_eq_equiv.symm (spent_number_marks dir.spent_numbers realm ++ number_marks at realm) _ (of_numbers dir.spent_numbers at realm)) 0 dir.realms each.numbers;
        partners = realms_pass partners_twice (λ realm. all_distinct same_text (map (λ trust. trust.partner) realm.trusts) ≡ true) (λ at realm. once same_text text_symm (partner_marks at realm) _ (of_trusts (λ trust. trust.partner) at 1 realm.trusts)) 0 dir.realms each.partners;
        spns = once same_text text_symm (marks_of spn_marks dir.realms) _ (of_realms spn_marks spns_of (λ at realm. of_spns at 1 realm.accounts) 0 dir.realms) h.spns;
        entries = realms_pass entry_repeat _ entries_pass 0 dir.realms each.entries;
      }),
      once same_text text_symm (spent_key_marks dir.spent_keys ++ marks_of key_marks dir.realms) _ (of_all_keys dir) h.keys,
    )

refers : (realms : List RealmRec) (at : ℕ) (realm : RealmRec) → unknown_in realms at realm ≡ None → list_all (has_references realms realm) realm.trusts ≡ true
refers realms at realm h = trusts_hold (has_references realms realm) at 1 realm.trusts h

referred : (realms : List RealmRec) (at : ℕ) (realm : RealmRec) → list_all (has_references realms realm) realm.trusts ≡ true → unknown_in realms at realm ≡ None
referred realms at realm h = trusts_pass (has_references realms realm) at 1 realm.trusts h

pub has_all_references : (dir : DirectoryValue) → unknown_reference dir.realms ≡ None → HasReferences dir
has_all_references dir h = record { trusts = realms_hold (unknown_in dir.realms) _ (refers dir.realms) 0 dir.realms h }

pub none_unknown : (dir : DirectoryValue) → HasReferences dir → unknown_reference dir.realms ≡ None
none_unknown dir h = realms_pass (unknown_in dir.realms) _ (referred dir.realms) 0 dir.realms h.trusts

not_found : (cause : DirCause) (found : Option DirPlace) → refused_for cause found ≡ None → found ≡ None
not_found cause None h = refl
not_found cause (Some place) h = absurd (cc)

none_for : (cause : DirCause) (found : Option DirPlace) → found ≡ None → refused_for cause found ≡ None
none_for cause None h = refl
none_for cause (Some place) h = absurd (cc)

two : (a b : Bool) → (a && b) ≡ true → (a ≡ true) × (b ≡ true)
two true b h = (refl, h)
two false b h = absurd (cc)

together : (a b : Bool) → a ≡ true → b ≡ true → (a && b) ≡ true
together true b h k = k
together false b h k = absurd (cc)

abbrev spent_refusal : DirectoryValue → Option DirRefusal
spent_refusal dir = refused_at Whole (first_failing ((TooMany, has_few_spent dir) ∷ []))

has_all_forms : (dir : DirectoryValue) → members_refusal dir.realms ≡ None → spent_refusal dir ≡ None → HasForms dir
has_all_forms dir h k =
    let realms = are_realms dir.realms h in
    let row = (rows_hold ((TooMany, has_few_spent dir) ∷ []) (no_fault Whole (first_failing ((TooMany, has_few_spent dir) ∷ [])) k)).0 in
    let spent = two (nat_le (length dir.spent_keys) 100000) (nat_le (length dir.spent_numbers) 100000) row in
    record {
      some_realms = realms.some;
      few_realms = realms.few;
      realms = realms.each;
      few_accounts = realms.accounts;
      few_spent_keys = leb-true (length dir.spent_keys) 100000 spent.0;
      few_spent_numbers = leb-true (length dir.spent_numbers) 100000 spent.1;
    }

few_are_spent : (dir : DirectoryValue) → HasForms dir → spent_refusal dir ≡ None
few_are_spent dir h =
    let keys = le-leb (length dir.spent_keys) 100000 h.few_spent_keys in
    let numbers = le-leb (length dir.spent_numbers) 100000 h.few_spent_numbers in
    not_refused Whole (first_failing ((TooMany, has_few_spent dir) ∷ []))
    (rows_pass ((TooMany, has_few_spent dir) ∷ []) (together (nat_le (length dir.spent_keys) 100000) (nat_le (length dir.spent_numbers) 100000) keys numbers, tt))

pub is_consistent : (dir : DirectoryValue) → is_well_formed dir ≡ true → IsConsistent dir
unfolding is_well_formed
is_consistent dir h =
    let none = from_none (first_refusal dir) h in
    let members = neither (members_refusal dir.realms) (spent_refusal dir or_else clash_refusal dir) none in
    let spent = neither (spent_refusal dir) (clash_refusal dir) members.1 in
    let same = refused_for SameKey (shared_key dir.spent_keys dir.realms) in
    let unknown = refused_for UnknownRef (unknown_reference dir.realms) in
    let twice = neither (refused_for Duplicate (duplicate dir.spent_numbers dir.realms)) (same or_else unknown) spent.1 in
    let keys = neither same unknown twice.1 in
    record {
      forms = has_all_forms dir members.0 spent.0;
      distinct = is_distinct dir (not_found Duplicate (duplicate dir.spent_numbers dir.realms) twice.0) (not_found SameKey (shared_key dir.spent_keys dir.realms) keys.0);
      references = has_all_references dir (not_found UnknownRef (unknown_reference dir.realms) keys.1);
    }

pub consistent_passes : (dir : DirectoryValue) → IsConsistent dir → is_well_formed dir ≡ true
unfolding is_well_formed
consistent_passes dir h =
    let once = distinct_once dir h.distinct in
    let forms = h.forms in
    let passed = realms_are_passed dir.realms (record { some = forms.some_realms; few = forms.few_realms; each = forms.realms; accounts = forms.few_accounts }) in
    let same = refused_for SameKey (shared_key dir.spent_keys dir.realms) in
    let unknown = refused_for UnknownRef (unknown_reference dir.realms) in
    ap is_none
    (both_none (members_refusal dir.realms) (spent_refusal dir or_else clash_refusal dir) passed
    (both_none (spent_refusal dir) (clash_refusal dir) (few_are_spent dir forms)
    (both_none (refused_for Duplicate (duplicate dir.spent_numbers dir.realms)) (same or_else unknown) (none_for Duplicate (duplicate dir.spent_numbers dir.realms) once.0)
    (both_none same unknown (none_for SameKey (shared_key dir.spent_keys dir.realms) once.1) (none_for UnknownRef (unknown_reference dir.realms) (none_unknown dir h.references))))))

-- what a change makes is consistent, where nothing that it may break fails
pub kept_consistent : (dir : DirectoryValue) → first_failing (kept_rows dir) ≡ None → IsConsistent dir
kept_consistent dir h =
    let rows = rows_hold (kept_rows dir) h in
    let limits = two (is_none (members_refusal dir.realms)) (has_few_spent dir) rows.1.1.1.0 in
    let spent = not_refused Whole (first_failing ((TooMany, has_few_spent dir) ∷ [])) (rows_pass ((TooMany, has_few_spent dir) ∷ []) (limits.1, tt)) in
    record {
      forms = has_all_forms dir (from_none (members_refusal dir.realms) limits.0) spent;
      distinct = is_distinct dir (from_none (duplicate dir.spent_numbers dir.realms) rows.1.0) (from_none (shared_key dir.spent_keys dir.realms) rows.1.1.0);
      references = has_all_references dir (from_none (unknown_reference dir.realms) rows.0);
    }
