-- Lemmas on lines that are text.
use Rattle.std.proofs.Common.{◌≡◌, ◌≤◌, ℕ, List, Bool, true, false, cond, ◌||◌, length, refl, arith}
use Rattle.std.specs.Prelude.{Option, None, Some, nat_lt}
use Rattle.std.specs.Str.{IsUtf8}
use Rattle.std.proofs.lemmas.Str.{is_utf8-from_IsUtf8}
use Rattle.std.proofs.lemmas.Bool.Decides.{nat_tests}
use Rattle.kdc_prelude.proofs.Texts.{is_utf8-false}
use Rattle.kdc_commands.specs.Questions.{readable}

none_by : {X : Type 0} (b : Bool) (x : Option X) → cond (b || true) None x ≡ None
none_by true x = refl
none_by false x = refl

pub not_readable : (line : List ℕ) → (IsUtf8 line → ⊥) → readable line ≡ None
not_readable line h = rw (is_utf8-false line h) (none_by (nat_lt 4096 (length line)) (Some line))

pub is_readable : (line : List ℕ) → length line ≤ 4096 → IsUtf8 line → readable line ≡ Some line
is_readable line few h = let e = is_utf8-from_IsUtf8 line h in grind (arith, nat_tests)
