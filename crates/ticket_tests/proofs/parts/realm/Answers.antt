use Rattle.std.proofs.Common.{◌≡◌, ℕ, List, [], ◌∷◌, Ok}
use Rattle.std.specs.Str.{chars}
use Rattle.krb_names.specs.Realms.{realm_reading}
use Rattle.ticket_tests.proofs.parts.realm.Goals as goal

read_again : (realm : List ℕ) → realm_reading (82 ∷ []) ≡ Ok realm → realm ≡ 82 ∷ []
unfolding chars
read_again realm e = cc

pub returns : goal.returns
returns c = read_again c.in_ok-parse_realm.field-0 c.in_ok-parse_realm.ensures
