-- Whether bytes are UTF-8, as a test.
use Rattle.std.proofs.Common.{◌≡◌, List, ℕ, true, false}
use Rattle.std.specs.Str.{IsUtf8, is_utf8}
use Rattle.std.proofs.lemmas.Str.{is_utf8-from_IsUtf8}
use Rattle.kdc_prelude.proofs.Texts.{is_utf8-false}

pub is_text : (text : List ℕ) → IsUtf8 text → is_utf8 text ≡ true
is_text text h = is_utf8-from_IsUtf8 text h

pub no_text : (text : List ℕ) → (IsUtf8 text → ⊥) → is_utf8 text ≡ false
no_text text h = is_utf8-false text h
