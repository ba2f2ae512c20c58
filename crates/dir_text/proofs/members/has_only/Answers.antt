use Rattle.std.proofs.Common.{◌≡◌, sym, ◌∙◌, ap, map, List, ℕ, Bor, String, Global}
use Rattle.serde_json.specs.View.{view, members_view}
use Rattle.dir_text.proofs.Objects.{known_names, object_none, object_some}
use Rattle.dir_text.proofs.members.has_only.Goals as goal

pub returns-in_ok-names-in-Some : goal.returns-in_ok-names-in-Some
returns-in_ok-names-in-Some c =
    let known : List (List ℕ) = map (λ name. name.now) c.args.known.now in
    let es = c.in-Some.members.now.entries in
    c.are_known.ensures
    ∙ known_names known c.as_slice.result.now es (ap (map (λ (name : Bor (String Global)). name.now)) c.as_slice.ensures.value ∙ c.in_ok-names-in-Some.ensures)
    ∙ object_some known (view c.args.value.now) (members_view es) (sym c.in-Some.ensures)

pub returns-in-None : goal.returns-in-None
returns-in-None c =
    let known : List (List ℕ) = map (λ name. name.now) c.args.known.now in
    object_none known (view c.args.value.now) (sym c.in-None.ensures)
