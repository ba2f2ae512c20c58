use Rattle.std.proofs.Common.{◌≡◌, List, ℕ, [], ◌∷◌, ◌++◌, OnOk, string_bytes, decimal, ap, sym, subst, ◌∙◌, append_assoc}
use Rattle.krb_names.specs.SidValue.{followed_by}
use Rattle.krb_names.specs.SidValue.{sid_text}
use Rattle.ticket_explain.proofs.Sids.{sid_followed}
use Rattle.ticket_explain.proofs.holders.push_account_sid.Goals as goal

pub returns : goal.returns
returns c =
    let old = string_bytes c.args.text.now in
    let sid = c.args.realm.now in
    let number = c.from.result in
    let front : string_bytes c.push_str.new.self ≡ (old ++ sid_text sid) ++ 45 ∷ [] =
    c.in_ok-push_str.ensures.bytes ∙ ap (λ (v : List ℕ). v ++ 45 ∷ []) c.in_ok-push_sid.ensures in
    let whole : string_bytes c.push_str.new.self ++ decimal number ≡ old ++ sid_text (followed_by sid c.args.number) =
    ap (λ (v : List ℕ). v ++ decimal number) front
    ∙ append_assoc (old ++ sid_text sid) (45 ∷ []) (decimal number)
    ∙ append_assoc old (sid_text sid) (45 ∷ decimal number)
    ∙ ap (λ (v : List ℕ). old ++ v) (sym (sid_followed sid number))
    ∙ ap (λ (n : ℕ). old ++ sid_text (followed_by sid n)) c.from.ensures in
    let P : List ℕ → Type 0 = λ v. OnOk c.push_number.result (string_bytes c.push_number.new.text ≡ v) in
    subst P whole c.push_number.ensures
