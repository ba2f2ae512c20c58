-- Lemmas on texts that are JSON.
use Rattle.std.proofs.Common.{◌≡◌, ℕ, List}
use Rattle.std.specs.Prelude.{None}
use Rattle.std.specs.Str.{IsUtf8}
use Rattle.std.proofs.lemmas.Str.{is_utf8-from_IsUtf8}
use Rattle.kdc_prelude.proofs.Texts.{is_utf8-false}
use Rattle.serde_json.specs.Read.{read}
use Rattle.dir_text.specs.DirectoryText.{json_of}

pub json_yes : (text : List ℕ) → IsUtf8 text → json_of text ≡ read text
json_yes text h = rw (is_utf8-from_IsUtf8 text h)

pub json_no : (text : List ℕ) → (IsUtf8 text → ⊥) → json_of text ≡ None
json_no text h = rw (is_utf8-false text h)
