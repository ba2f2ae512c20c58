use Rattle.std.proofs.Common.{◌≡◌, ◌∙◌, ℕ, ap, take, drop, length-drop, nat_eq, replicate, List, arith}
use Rattle.std.proofs.lemmas.List.{take_all}
use lib.Pointwise.{pointwise}
use Rattle.dir_records.proofs.forms.is_padded.Goals as goal

pub returns-in-Aes128 : goal.returns-in-Aes128
returns-in-Aes128 c =
    let raw = c.args.key.now.raw in
    let rest : take 16 (drop 16 raw) ≡ drop 16 raw = take_all 16 (drop 16 raw) (omega (arith, length-drop 16 raw)) in
    rw c.in-Aes128.is (c.eq.ensures ∙ ap (λ (l : List ℕ). pointwise nat_eq l (replicate 16 0)) rest)
