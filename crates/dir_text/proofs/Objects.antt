-- Lemmas on the members of an object.
use Rattle.std.proofs.Common.{◌≡◌, ℕ, List, [], ◌∷◌, ◌&&◌, Bool, String, Global, string_bytes, map, false, Bor, sym, ◌∙◌, refl, ap}
use Rattle.std.specs.Prelude.{None, Some}
use Rattle.std.specs.List.{list_all}
use Rattle.kdc_prelude.specs.Texts.{is_one_of}
use Rattle.kdc_prelude.proofs.Lists.{all-map}
use Rattle.serde_json.specs.Data.{Data, null, boolean, number, string, array, object, Members}
use Rattle.serde_json.specs.Find.{as_object}
use Rattle.serde_json.specs.View.{members_view}
use Rattle.serde_json.specs.declared.value.Value.{Value}
use Rattle.dir_text.specs.Members.{has_only, is_object_of}

-- the members of an object, by their names
only_keys : (known : List (List ℕ)) (es : List (String Global × Value)) → list_all (λ e. is_one_of known (string_bytes e.0)) es ≡ has_only known (members_view es)
only_keys known [] = refl
only_keys known (e ∷ es) = ap (λ b. is_one_of known (string_bytes e.0) && b) (only_keys known es)

pub known_names : (known : List (List ℕ)) (names : List (Bor (String Global))) (es : List (String Global × Value)) → map (λ name. name.now) names ≡ map (λ e. e.0) es
    → list_all (is_one_of known) (map (λ name. string_bytes name.now) names) ≡ has_only known (members_view es)
known_names known names es h =
    sym (all-map (is_one_of known) (λ (name : Bor (String Global)). string_bytes name.now) names)
    ∙ all-map (λ (name : String Global). is_one_of known (string_bytes name)) (λ (name : Bor (String Global)). name.now) names
    ∙ ap (list_all (λ (name : String Global). is_one_of known (string_bytes name))) h
    ∙ sym (all-map (λ (name : String Global). is_one_of known (string_bytes name)) (λ (e : String Global × Value). e.0) es)
    ∙ only_keys known es

pub object_none : (known : List (List ℕ)) (d : Data) → as_object d ≡ None → false ≡ is_object_of known d
object_none known null h = refl
object_none known (boolean b) h = refl
object_none known (number n) h = refl
object_none known (string s) h = refl
object_none known (array ds) h = refl
object_none known (object ms) h = absurd (cc)

pub object_some : (known : List (List ℕ)) (d : Data) (ms : Members) → as_object d ≡ Some ms → has_only known ms ≡ is_object_of known d
object_some known null ms h = absurd (cc)
object_some known (boolean b) ms h = absurd (cc)
object_some known (number n) ms h = absurd (cc)
object_some known (string s) ms h = absurd (cc)
object_some known (array ds) ms h = absurd (cc)
object_some known (object others) ms h = let same : others ≡ ms = cc in ap (has_only known) (sym same)
