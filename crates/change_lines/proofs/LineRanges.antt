-- The values of a change that a line says are in the ranges of their types.
use Rattle.std.proofs.Common.{◌≡◌, ℕ, suc, zero, ◌-◌, ◌<◌, ◌≤◌, ◌^◌, List, [], ◌∷◌, ◌++◌, Bool, true, false, eqb, length, replicate, arith, refl, length-append}
use Rattle.std.specs.Prelude.{IfOk, Result, Ok, Err, if◌then◌else◌, nat_le}
use Rattle.std.specs.List.{AllByRecursion}
use Rattle.std.specs.Str.{is_utf8}
use Rattle.std.proofs.lemmas.Bool.{eqb-true}
use Rattle.std.proofs.lemmas.List.{length-replicate}
use Rattle.std.proofs.lemmas.Str.{IsUtf8-from_is_utf8}
use Rattle.kdc_prelude.specs.Answers.{or_fault}
use Rattle.kdc_prelude.specs.Results.{◌>>=◌}
use Rattle.kdc_prelude.specs.Texts.{same_text}
use Rattle.hex.proofs.HexLemmas.{decode_of-ok}
use Rattle.hex.specs.Hex.{IsBytes, decode_of}
use Rattle.hex.specs.declared.error.FromHexError.{FromHexError}
use Rattle.krb_names.specs.Decimals.{decimal_reading}
use Rattle.krb_names.specs.Etypes.{key_length}
use Rattle.krb_names.specs.Keys.{key_of as key_with}
use Rattle.krb_names.specs.Pieces.{is_name}
use Rattle.krb_names.specs.SidTexts.{sid_reading}
use Rattle.krb_names.specs.SidValue.{SidValue}
use Rattle.krb_names.specs.declared.etype.Etype.{Etype}
use Rattle.krb_names.specs.declared.etype.Etype.TheVariants.{Aes128, Aes256}
use Rattle.dir_records.specs.declared.change.Change.{Change}
use Rattle.dir_records.specs.declared.change.Change.TheVariants.{AddAccount, RemoveAccount, SetMark, SetKey, AddSpn, RemoveSpn, AddClassic, RemoveClassic, AddResource, RemoveResource, AddGroup, RemoveGroup, SetLife, AddReach, RemoveReach}
use Rattle.dir_records.specs.declared.change.Mark.{Mark}
use Rattle.dir_records.specs.declared.records.KeyRec.{KeyRec}
use Rattle.dir_records.specs.declared.refusal.DirCause.{DirCause}
use Rattle.dir_records.specs.declared.refusal.DirCause.TheVariants.{BadField}
use Rattle.dir_records.specs.Changes.{IsChangeInRange}
use Rattle.dir_records.specs.Forms.{is_account_name, is_service_name}
use Rattle.dir_records.specs.IsDirectory.{IsKeyInRange, IsSidInRange, IsText}
use Rattle.dir_core.proofs.EditedRanges.{all_append}
use Rattle.change_lines.specs.ChangeLines.{add_account, by_rows, change_by_word, change_by_words, change_of, group_entry, key_in, line_rows, of_entry, reach_entry, remove_account, service_entry, set_key, set_life, set_mark, setting_in, sid_entry, text_of, words_of}
use Rattle.change_lines.specs.Fields.{account_name_of, account_fields, etype_of, key_of, number_of, octets_of, or_bad, passing, realm_of, service_of, sid_of, trust_of}
use Rattle.change_lines.proofs.SidRanges.{from_option, read_below, sid_in_range}
use Rattle.change_lines.proofs.Words.{words_are_texts}

-- one step after another
pub bind : {X Y E : Type 0} (P : X → Type 0) (Q : Y → Type 0) (r : Result X E) (f : X → Result Y E) → IfOk r P → ((x : X) → P x → IfOk (f x) Q) → IfOk (r >>= f) Q
bind P Q (Ok x) f h step = step x h
bind P Q (Err e) f h step = tt

abbrev Any : {X : Type 0} → X → Type 0
Any x = Unit {0}

any : {X E : Type 0} (r : Result X E) → IfOk r Any
any (Ok x) = tt
any (Err e) = tt

-- what passes a test is what it was, and passes it
tested : {X : Type 0} (P : X → Type 0) (b : Bool) (x : X) → (b ≡ true → P x) → IfOk (if b then Ok x else Err BadField) P
tested P true x h = h refl
tested P false x h = tt

realm_text : (text : List ℕ) → IsText text → IfOk (realm_of text) IsText
unfolding realm_of
realm_text text h = tested IsText (is_name text) text (λ e. h)

name_is_text : (text : List ℕ) → IsText text → IfOk (account_name_of text) IsText
unfolding account_name_of
name_is_text text h = tested IsText (is_account_name text) text (λ e. h)

spn_text : (text : List ℕ) → IsText text → IfOk (service_of text) IsText
unfolding service_of
spn_text text h = tested IsText (is_service_name text) text (λ e. h)

abbrev ArePair : List ℕ × List ℕ → Type 0
ArePair pair = IsText pair.0 × IsText pair.1

account_texts : (realm name : List ℕ) → IsText realm → IsText name → IfOk (account_fields realm name) ArePair
unfolding account_fields
account_texts realm name h k =
    bind IsText ArePair (realm_of realm) (λ r. account_name_of name >>= λ n. Ok (r, n)) (realm_text realm h)
    (λ r p. bind IsText ArePair (account_name_of name) (λ n. Ok (r, n)) (name_is_text name k) (λ n q. (p, q)))

trust_texts : (realm partner : List ℕ) → IsText realm → IsText partner → IfOk (trust_of realm partner) ArePair
unfolding trust_of
trust_texts realm partner h k =
    bind IsText ArePair (realm_of realm) (λ r. realm_of partner >>= λ p. Ok (r, p)) (realm_text realm h)
    (λ r p. bind IsText ArePair (realm_of partner) (λ o. Ok (r, o)) (realm_text partner k) (λ o q. (p, q)))

number_below : (low high : ℕ) (text : List ℕ) → IfOk (number_of low high text) (λ n. n ≤ high)
unfolding number_of
number_below low high text =
    bind (λ (n : ℕ). n ≤ high) (λ (n : ℕ). n ≤ high) (or_fault BadField (decimal_reading high text)) (passing (nat_le low))
    (from_option (λ (n : ℕ). n ≤ high) BadField (decimal_reading high text) (read_below high text))
    (λ n h. tested (λ (m : ℕ). m ≤ high) (nat_le low n) n (λ e. h))

whatever : {X E : Type 0} (P : X → Type 0) (r : Result X E) → IfOk r P → IfOk (or_bad r) P
whatever P (Ok x) h = h
whatever P (Err e) h = tt

sid_field : (text : List ℕ) → IfOk (sid_of text) IsSidInRange
unfolding sid_of
sid_field text = whatever IsSidInRange (sid_reading text) (sid_in_range text)

-- the octets of a key
decoded : (text : List ℕ) → IfOk (decode_of text) IsBytes
decoded text = by_case (decode_of text) refl
  where
    by_case : (r : Result (List ℕ) FromHexError) → decode_of text ≡ r → IfOk r IsBytes
    by_case (Ok bytes) e = (decode_of-ok text bytes e).3
    by_case (Err fault) e = tt

record AreOctets (type : Etype) (octets : List ℕ) : Type 0 where
  size : length octets ≡ key_length type
  each : IsBytes octets

octets_read : (type : Etype) (text : List ℕ) → IfOk (octets_of type text) (AreOctets type)
unfolding octets_of
octets_read type text =
    bind IsBytes (AreOctets type) (or_bad (decode_of text)) (passing (λ octets. eqb (length octets) (key_length type))) (whatever IsBytes (decode_of text) (decoded text))
    (λ octets h. tested (AreOctets type) (eqb (length octets) (key_length type)) octets (λ e. record { size = eqb-true (length octets) (key_length type) e; each = h }))

bytes_all : (xs : List ℕ) → IsBytes xs → AllByRecursion (λ (octet : ℕ). octet < 256) xs
bytes_all [] h = tt
bytes_all (x ∷ xs) h = (h zero, bytes_all xs (λ i. h (suc i)))

zeros_all : (n : ℕ) → AllByRecursion (λ (octet : ℕ). octet < 256) (replicate n 0)
zeros_all zero = tt
zeros_all (suc n) = (omega arith, zeros_all n)

fits : (type : Etype) → key_length type ≤ 32
fits Aes128 = omega arith
fits Aes256 = omega arith

below_32 : (n : ℕ) → n ≤ 4294967295 → n < 2 ^ 32
below_32 n h = omega (arith, h)

made_key : (type : Etype) (version : ℕ) (octets : List ℕ) → version ≤ 4294967295 → AreOctets type octets → IsKeyInRange (record { key = key_with type octets; version = version })
made_key type version octets v h =
    record {
      version = below_32 version v;
      size = omega (arith, length-append octets (replicate (32 - length octets) 0), length-replicate {A = ℕ} (32 - length octets) 0, h.size, fits type);
      octets = all_append (λ (octet : ℕ). octet < 256) octets (replicate (32 - length octets) 0) (bytes_all octets h.each) (zeros_all (32 - length octets));
    }

key_read : (etype kvno hex : List ℕ) → IfOk (key_of etype kvno hex) IsKeyInRange
unfolding key_of
key_read etype kvno hex =
    bind Any IsKeyInRange (etype_of etype) (λ type. number_of 1 4294967295 kvno >>= λ version. octets_of type hex >>= λ octets. Ok (record { key = key_with type octets; version = version })) (any (etype_of etype))
    (λ type t. bind (λ (n : ℕ). n ≤ 4294967295) IsKeyInRange (number_of 1 4294967295 kvno) (λ version. octets_of type hex >>= λ octets. Ok (record { key = key_with type octets; version = version })) (number_below 1 4294967295 kvno)
    (λ version v. bind (AreOctets type) IsKeyInRange (octets_of type hex) (λ octets. Ok (record { key = key_with type octets; version = version })) (octets_read type hex) (λ octets o. made_key type version octets v o)))

key_fields : (fields : List (List ℕ)) → IfOk (key_in fields) IsKeyInRange
unfolding key_in
key_fields [] = tt
key_fields (etype ∷ []) = tt
key_fields (etype ∷ kvno ∷ []) = tt
key_fields (etype ∷ kvno ∷ hex ∷ []) = key_read etype kvno hex
key_fields (etype ∷ kvno ∷ hex ∷ more ∷ fields) = tt

abbrev AreTexts : List (List ℕ) → Type 0
AreTexts fields = AllByRecursion IsText fields

in_add_account : (fields : List (List ℕ)) → AreTexts fields → IfOk (add_account fields) IsChangeInRange
unfolding add_account
in_add_account [] h = tt
in_add_account (realm ∷ []) h = tt
in_add_account (realm ∷ name ∷ []) h = tt
in_add_account (realm ∷ name ∷ number ∷ key) h =
    bind ArePair IsChangeInRange (account_fields realm name) (λ a. number_of 1 4294967295 number >>= λ i. key_in key >>= λ k. Ok (AddAccount a.0 a.1 i k)) (account_texts realm name h.0 h.1.0)
    (λ a p. bind (λ (n : ℕ). n ≤ 4294967295) IsChangeInRange (number_of 1 4294967295 number) (λ i. key_in key >>= λ k. Ok (AddAccount a.0 a.1 i k)) (number_below 1 4294967295 number)
    (λ i l. bind IsKeyInRange IsChangeInRange (key_in key) (λ k. Ok (AddAccount a.0 a.1 i k)) (key_fields key) (λ k q. (p.0, p.1, below_32 i l, q))))

in_remove_account : (fields : List (List ℕ)) → AreTexts fields → IfOk (remove_account fields) IsChangeInRange
unfolding remove_account
in_remove_account [] h = tt
in_remove_account (realm ∷ []) h = tt
in_remove_account (realm ∷ name ∷ []) h =
    bind ArePair IsChangeInRange (account_fields realm name) (λ a. Ok (RemoveAccount a.0 a.1)) (account_texts realm name h.0 h.1.0) (λ a p. p)
in_remove_account (realm ∷ name ∷ more ∷ fields) h = tt

in_set_mark : (fields : List (List ℕ)) → AreTexts fields → IfOk (set_mark fields) IsChangeInRange
unfolding set_mark
in_set_mark [] h = tt
in_set_mark (realm ∷ []) h = tt
in_set_mark (realm ∷ name ∷ setting) h =
    bind ArePair IsChangeInRange (account_fields realm name) (λ a. setting_in setting >>= λ s. Ok (SetMark a.0 a.1 s.0 s.1)) (account_texts realm name h.0 h.1.0)
    (λ a p. bind Any IsChangeInRange (setting_in setting) (λ s. Ok (SetMark a.0 a.1 s.0 s.1)) (any (setting_in setting)) (λ s t. p))

in_set_key : (fields : List (List ℕ)) → AreTexts fields → IfOk (set_key fields) IsChangeInRange
unfolding set_key
in_set_key [] h = tt
in_set_key (realm ∷ []) h = tt
in_set_key (realm ∷ name ∷ key) h =
    bind ArePair IsChangeInRange (account_fields realm name) (λ a. key_in key >>= λ k. Ok (SetKey a.0 a.1 k)) (account_texts realm name h.0 h.1.0)
    (λ a p. bind IsKeyInRange IsChangeInRange (key_in key) (λ k. Ok (SetKey a.0 a.1 k)) (key_fields key) (λ k q. (p.0, p.1, q)))

below_64 : (n : ℕ) → n ≤ 31536000 → n < 2 ^ 64
below_64 n h = omega (arith, h)

in_set_life : (fields : List (List ℕ)) → AreTexts fields → IfOk (set_life fields) IsChangeInRange
unfolding set_life
in_set_life [] h = tt
in_set_life (realm ∷ []) h = tt
in_set_life (realm ∷ seconds ∷ []) h =
    bind IsText IsChangeInRange (realm_of realm) (λ r. number_of 1 31536000 seconds >>= λ s. Ok (SetLife r s)) (realm_text realm h.0)
    (λ r p. bind (λ (n : ℕ). n ≤ 31536000) IsChangeInRange (number_of 1 31536000 seconds) (λ s. Ok (SetLife r s)) (number_below 1 31536000 seconds) (λ s l. (p, below_64 s l)))
in_set_life (realm ∷ seconds ∷ more ∷ fields) h = tt

-- a realm, a name and what is added or removed
abbrev IsEntry : {X : Type 0} → (X → Type 0) → List ℕ × List ℕ × X → Type 0
IsEntry Q entry = IsText entry.0 × IsText entry.1 × Q entry.2

entry_of : {X : Type 0} (Q : X → Type 0) (pair : Result (List ℕ × List ℕ) DirCause) (reading : Result X DirCause) → IfOk pair ArePair → IfOk reading Q
    → IfOk (pair >>= λ a. reading >>= λ x. Ok (a.0, a.1, x)) (IsEntry Q)
entry_of Q pair reading h k =
    bind ArePair (IsEntry Q) pair (λ a. reading >>= λ x. Ok (a.0, a.1, x)) h (λ a p. bind Q (IsEntry Q) reading (λ x. Ok (a.0, a.1, x)) k (λ x q. (p.0, p.1, q)))

in_service_entry : (fields : List (List ℕ)) → AreTexts fields → IfOk (service_entry fields) (IsEntry IsText)
unfolding service_entry
in_service_entry [] h = tt
in_service_entry (realm ∷ []) h = tt
in_service_entry (realm ∷ name ∷ []) h = tt
in_service_entry (realm ∷ name ∷ spn ∷ []) h = entry_of IsText (account_fields realm name) (service_of spn) (account_texts realm name h.0 h.1.0) (spn_text spn h.1.1.0)
in_service_entry (realm ∷ name ∷ spn ∷ more ∷ fields) h = tt

in_sid_entry : (fields : List (List ℕ)) → AreTexts fields → IfOk (sid_entry fields) (IsEntry IsSidInRange)
unfolding sid_entry
in_sid_entry [] h = tt
in_sid_entry (realm ∷ []) h = tt
in_sid_entry (realm ∷ name ∷ []) h = tt
in_sid_entry (realm ∷ name ∷ sid ∷ []) h = entry_of IsSidInRange (account_fields realm name) (sid_of sid) (account_texts realm name h.0 h.1.0) (sid_field sid)
in_sid_entry (realm ∷ name ∷ sid ∷ more ∷ fields) h = tt

in_group_entry : (fields : List (List ℕ)) → AreTexts fields → IfOk (group_entry fields) (IsEntry (λ (n : ℕ). n ≤ 4294967295))
unfolding group_entry
in_group_entry [] h = tt
in_group_entry (realm ∷ []) h = tt
in_group_entry (realm ∷ name ∷ []) h = tt
in_group_entry (realm ∷ name ∷ number ∷ []) h =
    entry_of (λ (n : ℕ). n ≤ 4294967295) (account_fields realm name) (number_of 0 4294967295 number) (account_texts realm name h.0 h.1.0) (number_below 0 4294967295 number)
in_group_entry (realm ∷ name ∷ number ∷ more ∷ fields) h = tt

in_reach_entry : (fields : List (List ℕ)) → AreTexts fields → IfOk (reach_entry fields) (IsEntry IsText)
unfolding reach_entry
in_reach_entry [] h = tt
in_reach_entry (realm ∷ []) h = tt
in_reach_entry (realm ∷ partner ∷ []) h = tt
in_reach_entry (realm ∷ partner ∷ reached ∷ []) h = entry_of IsText (trust_of realm partner) (realm_of reached) (trust_texts realm partner h.0 h.1.0) (realm_text reached h.1.1.0)
in_reach_entry (realm ∷ partner ∷ reached ∷ more ∷ fields) h = tt

of_entries : {X : Type 0} (Q : X → Type 0) (change : List ℕ → List ℕ → X → Change) (entry : Result (List ℕ × List ℕ × X) DirCause) → IfOk entry (IsEntry Q)
    → ((realm name : List ℕ) (x : X) → IsText realm → IsText name → Q x → IsChangeInRange (change realm name x)) → IfOk (of_entry change entry) IsChangeInRange
of_entries Q change entry h made = bind (IsEntry Q) IsChangeInRange entry (λ e. Ok (change e.0 e.1 e.2)) h (λ e p. made e.0 e.1 e.2 p.0 p.1 p.2)

-- what the row of a word reads
abbrev IsRow : List ℕ × (List (List ℕ) → Result Change DirCause) → Type 0
IsRow row = (fields : List (List ℕ)) → AreTexts fields → IfOk (row.1 fields) IsChangeInRange

all_rows : AllByRecursion IsRow line_rows
all_rows = (
  in_add_account,
  (
    in_remove_account,
    (
      in_set_mark,
      (
        in_set_key,
        (
          (λ fields h. of_entries IsText AddSpn (service_entry fields) (in_service_entry fields h) (λ r n x p q k. (p, q, k))),
          (
            (λ fields h. of_entries IsText RemoveSpn (service_entry fields) (in_service_entry fields h) (λ r n x p q k. (p, q, k))),
            (
              (λ fields h. of_entries IsText AddClassic (service_entry fields) (in_service_entry fields h) (λ r n x p q k. (p, q, k))),
              (
                (λ fields h. of_entries IsText RemoveClassic (service_entry fields) (in_service_entry fields h) (λ r n x p q k. (p, q, k))),
                (
                  (λ fields h. of_entries IsSidInRange AddResource (sid_entry fields) (in_sid_entry fields h) (λ r n x p q k. (p, q, k))),
                  (
                    (λ fields h. of_entries IsSidInRange RemoveResource (sid_entry fields) (in_sid_entry fields h) (λ r n x p q k. (p, q, k))),
                    (
                      (λ fields h. of_entries (λ (n : ℕ). n ≤ 4294967295) AddGroup (group_entry fields) (in_group_entry fields h) (λ r n x p q k. (p, q, below_32 x k))),
                      (
                        (λ fields h. of_entries (λ (n : ℕ). n ≤ 4294967295) RemoveGroup (group_entry fields) (in_group_entry fields h) (λ r n x p q k. (p, q, below_32 x k))),
                        (
                          in_set_life,
                          (
                            (λ fields h. of_entries IsText AddReach (reach_entry fields) (in_reach_entry fields h) (λ r n x p q k. (p, q, k))),
                            (
                              (λ fields h. of_entries IsText RemoveReach (reach_entry fields) (in_reach_entry fields h) (λ r n x p q k. (p, q, k))),
                              tt,
                            ),
                          ),
                        ),
                      ),
                    ),
                  ),
                ),
              ),
            ),
          ),
        ),
      ),
    ),
  ),
)

by_word : (rows : List (List ℕ × (List (List ℕ) → Result Change DirCause))) → AllByRecursion IsRow rows → (word : List ℕ) (fields : List (List ℕ)) → AreTexts fields
    → IfOk (by_rows rows word fields) IsChangeInRange
by_word [] h word fields t = tt
by_word (row ∷ rows) h word fields t = by_test (same_text word row.0) (h.0 fields t) (by_word rows h.1 word fields t)
  where
    by_test : (b : Bool) → IfOk (row.1 fields) IsChangeInRange → IfOk (by_rows rows word fields) IsChangeInRange → IfOk (if b then row.1 fields else by_rows rows word fields) IsChangeInRange
    by_test true this others = this
    by_test false this others = others

by_words : (words : List (List ℕ)) → AreTexts words → IfOk (change_by_words words) IsChangeInRange
unfolding change_by_words change_by_word
by_words [] h = tt
by_words (word ∷ fields) h = by_word line_rows all_rows word fields h.1

-- the change that a line says
pub change_in_range : (line : List ℕ) → IfOk (change_of line) IsChangeInRange
unfolding change_of text_of
change_in_range line =
    bind IsText IsChangeInRange (passing is_utf8 line) (λ text. change_by_words (words_of text)) (tested IsText (is_utf8 line) line (λ e. e))
    (λ text h. by_words (words_of text) (words_are_texts text (IsUtf8-from_is_utf8 text h)))
