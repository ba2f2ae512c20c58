use Rattle.std.proofs.Common.{◌≡◌, ◌%◌, ◌∙◌, refl, arith, nat_eq, nat_lt, true, false}
use Rattle.aes_core.specs.Aes.{add}
use Rattle.aes_core.specs.KeyExpansion.{word_mask}
use Rattle.aes_core.proofs.Words.{xor_bytes}
use Rattle.aes_core.proofs.key_expansion.word_mask.Goals as goal
use Rattle.aes_core.proofs.key_expansion.word_mask.Goals.{else-nk-gt6-via-then-nk-gt6+else-i-nk-eq4, else-nk-gt6-via-else-nk-gt6}
use Rattle.std.proofs.lemmas.Bool.Decides.{nat_tests}

pub returns-then-i-nk-eq0 : goal.returns-then-i-nk-eq0
unfolding word_mask
returns-then-i-nk-eq0 c =
    let first : nat_eq (c.args.i % c.args.nk) 0 ≡ true = grind (arith, nat_tests, c.if-i-nk-eq0.true) in
    rw first (xor_bytes c.sub_rot_word.result c.round_constant.result ∙ (λ i. add (c.sub_rot_word.ensures i) (c.round_constant.ensures i)))

pub returns-then-i-nk-eq4 : goal.returns-then-i-nk-eq4
unfolding word_mask
returns-then-i-nk-eq4 c =
    let first : nat_eq (c.args.i % c.args.nk) 0 ≡ false = grind (arith, nat_tests, c.if-i-nk-eq0.false) in
    let long : nat_lt 6 c.args.nk ≡ true = grind (arith, nat_tests, c.if-nk-gt6.true) in
    let fourth : nat_eq (c.args.i % c.args.nk) 4 ≡ true = grind (arith, nat_tests, c.if-i-nk-eq4.true) in
    rw (first, long, fourth) c.sub_word.ensures

pub returns-else-nk-gt6 : goal.returns-else-nk-gt6
unfolding word_mask
returns-else-nk-gt6 c =
    let first : nat_eq (c.args.i % c.args.nk) 0 ≡ false = grind (arith, nat_tests, c.if-i-nk-eq0.false) in
    elim c.else-nk-gt6.branch [
      | else-nk-gt6-via-then-nk-gt6+else-i-nk-eq4 w ↦
          let long : nat_lt 6 c.args.nk ≡ true = grind (arith, nat_tests, w.if-nk-gt6.true) in
          let fourth : nat_eq (c.args.i % c.args.nk) 4 ≡ false = grind (arith, nat_tests, w.if-i-nk-eq4.false) in
          rw (first, long, fourth) refl
      | else-nk-gt6-via-else-nk-gt6 w ↦
          let long : nat_lt 6 c.args.nk ≡ false = grind (arith, nat_tests, w.if-nk-gt6.false) in
          rw (first, long) refl
    ]
