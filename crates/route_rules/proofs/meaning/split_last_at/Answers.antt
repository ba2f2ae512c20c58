use Rattle.std.proofs.Common.{◌≡◌, ◌∷◌, ◌++◌, ℕ, take, drop, List, sym, ◌∙◌, ap, lit<, Bor}
use Rattle.std.specs.Prelude.{Option, None, Some, MatchOption, option_map}
use Rattle.std.specs.Str.Pattern.{RFindsChar, SplitsAroundMatch}
use Rattle.std.proofs.lemmas.Str.Pattern.{NoCharPasses-char, drop_at_char}
use Rattle.std.proofs.lemmas.List.{take-append-drop}
use Rattle.krb_names.specs.Principals.{round_last_at}
use Rattle.krb_names.proofs.Ats.{IsFree, round_none, round_at}
use Rattle.route_rules.proofs.meaning.split_last_at.Goals as goal

by_cases : (text : List ℕ) (r : Option (Bor (List ℕ) × Bor (List ℕ)))
    → MatchOption r (RFindsChar 64 text None) (λ x. SplitsAroundMatch (RFindsChar 64) text x.0.now x.1.now)
    → option_map (λ parts. (parts.0.now, parts.1.now)) r ≡ round_last_at text
by_cases text None h = sym (round_none text (record { at = λ i l. NoCharPasses-char 64 text i h (lit< tt) l }))
by_cases text (Some x) h =
    let whole : text ≡ take h.0 text ++ (64 ∷ drop h.1 text) =
    sym (take-append-drop h.0 text) ∙ ap (λ back. take h.0 text ++ back) (drop_at_char 64 text h.0 h.1 h.2.1 (lit< tt)) in
    let free : IsFree (drop h.1 text) = record { at = λ i l. NoCharPasses-char 64 (drop h.1 text) i h.2.0 (lit< tt) l } in
    rw (h.3, h.4) (sym (ap round_last_at whole ∙ round_at (take h.0 text) (drop h.1 text) free))

pub returns : goal.returns
returns c = by_cases c.args.text.now c.rsplit_once.result c.rsplit_once.ensures.cases
