use Rattle.std.proofs.Common.{◌≡◌, ℕ, ◌<◌, ◌^◌, List, [], ◌∷◌, length, refl, sym, ap, subst, arith, lit<}
use Rattle.std.specs.Prelude.{All}
use Rattle.std.specs.Str.{chars, is_utf8}
use Rattle.std.proofs.lemmas.List.Elements.{All-cons}
use Rattle.std.proofs.lemmas.Str.{IsUtf8-from_is_utf8}
use Rattle.krb_names.specs.SidValue.{SidValue}
use Rattle.ticket_parts.specs.Sound.{IsNameText, IsSoundSubject, IsUserSid}
use Rattle.ticket_tests.proofs.parts.user.Goals as goal

user_name : IsNameText (117 ∷ 115 ∷ 101 ∷ 114 ∷ [])
unfolding chars is_utf8 lib.Utf8.encode
user_name = record { utf8 = IsUtf8-from_is_utf8 _ refl; name = refl }

realm_name : IsNameText (82 ∷ [])
unfolding chars is_utf8 lib.Utf8.encode
realm_name = record { utf8 = IsUtf8-from_is_utf8 _ refl; name = refl }

none_large : All (λ n. n < 2 ^ 32) []
none_large k d lt = absurd (omega arith)

user_sid : IsUserSid (record { authority = 5; numbers = 21 ∷ 1105 ∷ [] })
user_sid = record {
  low = lit< tt;
  some = omega arith;
  few = omega arith;
  fits = All-cons (λ n. n < 2 ^ 32) 21 (1105 ∷ []) (lit< tt) (All-cons (λ n. n < 2 ^ 32) 1105 [] (lit< tt) none_large);
}

made_sound : (name realm groups : List ℕ) (sid : SidValue) → name ≡ 117 ∷ 115 ∷ 101 ∷ 114 ∷ [] → realm ≡ 82 ∷ [] → sid ≡ record { authority = 5; numbers = 21 ∷ 1105 ∷ [] } → groups ≡ 513 ∷ []
    → IsSoundSubject (record { name = name; realm = realm; sid = sid; control = 16; groups = groups })
made_sound name realm groups sid one two three four = record {
  name = subst IsNameText (sym one) user_name;
  realm = subst IsNameText (sym two) realm_name;
  sid = subst IsUserSid (sym three) user_sid;
  control = lit< tt;
  few = omega (arith, ap length four);
  groups = subst (λ (numbers : List ℕ). All (λ n. n < 2 ^ 32) numbers) (sym four) (All-cons (λ n. n < 2 ^ 32) 513 [] (lit< tt) none_large);
}

pub returns : goal.returns
returns c = made_sound c.in_ok-copy.field-0 c.in_ok-realm.field-0 c.in_ok-one_number.field-0 c.new.result c.in_ok-copy.ensures c.in_ok-realm.ensures c.new.ensures c.in_ok-one_number.ensures
