use Rattle.std.proofs.Common.{◌≡◌, ℕ, ◌+◌, ◌-◌, ◌*◌, ◌/◌, ◌%◌, ◌<◌, ◌≤◌, ◌⊎◌, inl, inr, [], List, false, refl, sym, ap, ◌∙◌, arith}
use Rattle.std.proofs.lemmas.Bool.{cases_lt}
use Rattle.pac_buffers.specs.SharedBytes.{is_shared}
use Rattle.pac_buffers.proofs.Shared.{none_overlap}
use Rattle.pac_buffers.proofs.overlap.two_share_in_windows.Goals as goal

-- one more window
window_more : (window : ℕ) (list : List (List ℕ)) → ((place : ℕ) → place < window * 131072 → place % 8 ≡ 0 → is_shared place [] list ≡ false)
    → ((k : ℕ) → k < 16384 → is_shared (window * 131072 + 8 * k) [] list ≡ false) → (place : ℕ) → place < (window + 1) * 131072 → place % 8 ≡ 0 → is_shared place [] list ≡ false
window_more window list before here place lt eighth =
    elim (cases_lt place (window * 131072)) [
      | inl less ↦ before place less eighth
      | inr more ↦
          let k : ℕ = (place - window * 131072) / 8 in
          let is : place ≡ window * 131072 + 8 * k = omega arith in
          ap (λ (p : ℕ). is_shared p [] list) is ∙ here k (omega arith)
    ]

pub loop-window-preserved : goal.loop-window-preserved
loop-window-preserved c = window_more c.loop-window.window c.args.list.now c.loop-window.invariant c.if-two_share_from.ensures.apart

pub returns : goal.returns
returns c = sym (none_overlap c.args.len [] c.args.list.now c.requires.within refl c.requires.aligned (λ place lt eighth. c.loop-window.invariant place (omega arith) eighth))
