-- The change that a line says (own choice): a word and its fields, with exactly one space between.
use Rattle.std.specs.Prelude.{ℕ, ◌==◌, Bool, List, [], ◌∷◌, codes, if◌then◌else◌, Result, Ok, Err}
use Rattle.std.specs.List.{slice_split}
use Rattle.std.specs.Str.{is_utf8}
use Rattle.kdc_prelude.specs.Results.{◌>>=◌}
use Rattle.kdc_prelude.specs.Texts.{same_text}
use Rattle.krb_names.specs.SidValue.{SidValue}
use Rattle.dir_records.specs.declared.change.Change.{Change}
use Rattle.dir_records.specs.declared.change.Change.TheVariants.{AddAccount, RemoveAccount, SetMark, SetKey, AddSpn, RemoveSpn, AddClassic, RemoveClassic, AddResource, RemoveResource, AddGroup, RemoveGroup, SetLife, AddReach, RemoveReach}
use Rattle.dir_records.specs.declared.change.Mark.{Mark}
use Rattle.dir_records.specs.declared.records.KeyRec.{KeyRec}
use Rattle.dir_records.specs.declared.refusal.DirCause.{DirCause}
use Rattle.dir_records.specs.declared.refusal.DirCause.TheVariants.{BadField}
use Rattle.change_lines.specs.Fields.{account_fields, key_of, mark_of, number_of, passing, realm_of, service_of, sid_of, switch_of, trust_of}

-- ETYPE KVNO HEX
unfoldable pub key_in : List (List ℕ) → Result KeyRec DirCause
key_in (etype ∷ kvno ∷ hex ∷ []) = key_of etype kvno hex
key_in _ = Err BadField

-- REALM NAME NUMBER ETYPE KVNO HEX
unfoldable pub add_account : List (List ℕ) → Result Change DirCause
add_account (realm ∷ name ∷ number ∷ key) = do
  a ← account_fields realm name
  i ← number_of 1 4294967295 number
  k ← key_in key
  Ok (AddAccount a.0 a.1 i k)
add_account _ = Err BadField

-- REALM NAME
unfoldable pub remove_account : List (List ℕ) → Result Change DirCause
remove_account (realm ∷ name ∷ []) = do
  a ← account_fields realm name
  Ok (RemoveAccount a.0 a.1)
remove_account _ = Err BadField

-- MARK on|off
unfoldable pub setting_in : List (List ℕ) → Result (Mark × Bool) DirCause
setting_in (mark ∷ switch ∷ []) = do
  m ← mark_of mark
  s ← switch_of switch
  Ok (m, s)
setting_in _ = Err BadField

-- REALM NAME MARK on|off
unfoldable pub set_mark : List (List ℕ) → Result Change DirCause
set_mark (realm ∷ name ∷ setting) = do
  a ← account_fields realm name
  s ← setting_in setting
  Ok (SetMark a.0 a.1 s.0 s.1)
set_mark _ = Err BadField

-- REALM NAME ETYPE KVNO HEX
unfoldable pub set_key : List (List ℕ) → Result Change DirCause
set_key (realm ∷ name ∷ key) = do
  a ← account_fields realm name
  k ← key_in key
  Ok (SetKey a.0 a.1 k)
set_key _ = Err BadField

-- REALM SECONDS, a second to a year
unfoldable pub set_life : List (List ℕ) → Result Change DirCause
set_life (realm ∷ seconds ∷ []) = do
  r ← realm_of realm
  s ← number_of 1 31536000 seconds
  Ok (SetLife r s)
set_life _ = Err BadField

-- REALM NAME SPN
unfoldable pub service_entry : List (List ℕ) → Result (List ℕ × List ℕ × List ℕ) DirCause
service_entry (realm ∷ name ∷ spn ∷ []) = do
  a ← account_fields realm name
  s ← service_of spn
  Ok (a.0, a.1, s)
service_entry _ = Err BadField

-- REALM NAME SID
unfoldable pub sid_entry : List (List ℕ) → Result (List ℕ × List ℕ × SidValue) DirCause
sid_entry (realm ∷ name ∷ sid ∷ []) = do
  a ← account_fields realm name
  s ← sid_of sid
  Ok (a.0, a.1, s)
sid_entry _ = Err BadField

-- REALM NAME NUMBER, of a group
unfoldable pub group_entry : List (List ℕ) → Result (List ℕ × List ℕ × ℕ) DirCause
group_entry (realm ∷ name ∷ number ∷ []) = do
  a ← account_fields realm name
  g ← number_of 0 4294967295 number
  Ok (a.0, a.1, g)
group_entry _ = Err BadField

-- REALM PARTNER REALM
unfoldable pub reach_entry : List (List ℕ) → Result (List ℕ × List ℕ × List ℕ) DirCause
reach_entry (realm ∷ partner ∷ reached ∷ []) = do
  t ← trust_of realm partner
  o ← realm_of reached
  Ok (t.0, t.1, o)
reach_entry _ = Err BadField

-- a change of an entry of a list
abbrev pub of_entry : {X : Type 0} → (List ℕ → List ℕ → X → Change) → Result (List ℕ × List ℕ × X) DirCause → Result Change DirCause
of_entry change entry = entry >>= λ e. Ok (change e.0 e.1 e.2)

-- the lines by their words, each with the reading of its fields
abbrev pub line_rows : List (List ℕ × (List (List ℕ) → Result Change DirCause))
line_rows =
    (codes "add-account", add_account)
    ∷ (codes "remove-account", remove_account)
    ∷ (codes "set", set_mark)
    ∷ (codes "set-key", set_key)
    ∷ (codes "add-spn", λ fields. of_entry AddSpn (service_entry fields))
    ∷ (codes "remove-spn", λ fields. of_entry RemoveSpn (service_entry fields))
    ∷ (codes "add-classic", λ fields. of_entry AddClassic (service_entry fields))
    ∷ (codes "remove-classic", λ fields. of_entry RemoveClassic (service_entry fields))
    ∷ (codes "add-resource", λ fields. of_entry AddResource (sid_entry fields))
    ∷ (codes "remove-resource", λ fields. of_entry RemoveResource (sid_entry fields))
    ∷ (codes "add-group", λ fields. of_entry AddGroup (group_entry fields))
    ∷ (codes "remove-group", λ fields. of_entry RemoveGroup (group_entry fields))
    ∷ (codes "set-life", set_life)
    ∷ (codes "add-reach", λ fields. of_entry AddReach (reach_entry fields))
    ∷ (codes "remove-reach", λ fields. of_entry RemoveReach (reach_entry fields))
    ∷ []

-- what the row with this word reads
abbrev pub by_rows : List (List ℕ × (List (List ℕ) → Result Change DirCause)) → List ℕ → List (List ℕ) → Result Change DirCause
by_rows [] word fields = Err BadField
by_rows (row ∷ rows) word fields = if same_text word row.0 then row.1 fields else by_rows rows word fields

-- the change that a word and its fields say
unfoldable pub change_by_word : List ℕ → List (List ℕ) → Result Change DirCause
change_by_word word fields = by_rows line_rows word fields

unfoldable pub change_by_words : List (List ℕ) → Result Change DirCause
change_by_words [] = Err BadField
change_by_words (word ∷ fields) = change_by_word word fields

-- a line's words, with one space between
abbrev pub words_of : List ℕ → List (List ℕ)
words_of line = slice_split (λ b. b == 32) line

-- a line that is UTF-8
unfoldable pub text_of : List ℕ → Result (List ℕ) DirCause
text_of line = passing is_utf8 line

-- the change that a line says, or BadField
unfoldable pub change_of : List ℕ → Result Change DirCause
change_of line = text_of line >>= λ text. change_by_words (words_of text)
