-- Lemmas on the entries of a list.
use Rattle.std.proofs.Common.{◌≡◌, ℕ, ◌+◌, ◌-◌, ◌<◌, List, [], ◌∷◌, ◌++◌, ◌∙◌, suc, add-one, length, get_or, drop, drop-cons, refl, ap, sym, append_assoc}
use Rattle.std.specs.Prelude.{Result, Ok, Err}
use Rattle.kdc_prelude.specs.Results.{◌>>=◌, with_front}
use Rattle.serde_json.specs.View.{items_view, view}
use Rattle.serde_json.specs.declared.value.Value.{Value}
use Rattle.dir_records.specs.declared.records.RealmRec.{RealmRec}
use Rattle.dir_text.specs.DirectoryText.{some_of}
use Rattle.dir_text.specs.Lists.{count_of}
use Rattle.dir_text.specs.RealmText.{realm_of, realms_of}

pub entry_count : (values : List Value) → count_of (items_view values) ≡ length values
entry_count [] = refl
entry_count (value ∷ values) = ap suc (entry_count values)

pub some_of_values : (values : List Value) → (values ≡ [] → ⊥) → some_of (items_view values) ≡ Ok (items_view values)
some_of_values [] h = absurd (h refl)
some_of_values (value ∷ values) h = refl

-- what was read before, and one more before what is read after it
pub after_one : {X E : Type 0} (front : List X) (x : X) (rest : Result (List X) E) → with_front (front ++ x ∷ []) rest ≡ with_front front (rest >>= λ xs. Ok (x ∷ xs))
after_one front x (Ok rest) = ap Ok (append_assoc front (x ∷ []) rest)
after_one front x (Err fault) = refl

-- the realms from a place on, by the first of them
pub next_realm : (i room k : ℕ) (values : List Value) (value : Value) (realm : RealmRec) (front : List RealmRec)
    → k < length values → value ≡ get_or values k value → realm_of i room (view value) ≡ Ok realm
    → with_front (front ++ realm ∷ []) (realms_of (i + 1) (room - length realm.accounts) (items_view (drop (k + 1) values)))
    ≡ with_front front (realms_of i room (items_view (drop k values)))
next_realm i room k values value realm front few at read =
    let cut : drop k values ≡ value ∷ drop (k + 1) values = rw add-one (drop-cons values k value few ∙ ap (λ y. y ∷ drop (suc k) values) (sym at)) in
    after_one front realm (realms_of (i + 1) (room - length realm.accounts) (items_view (drop (k + 1) values)))
    ∙ ap (λ first. with_front front (first >>= λ r. realms_of (i + 1) (room - length r.accounts) (items_view (drop (k + 1) values)) >>= λ rs. Ok (r ∷ rs))) (sym read)
    ∙ ap (λ vs. with_front front (realms_of i room (items_view vs))) (sym cut)
