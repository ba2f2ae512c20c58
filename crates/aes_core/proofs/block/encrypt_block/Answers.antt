use Rattle.std.proofs.Common.{◌≡◌, ℕ, ◌+◌, ◌-◌, ◌*◌, List, ◌∙◌, ap, arith}
use Rattle.aes_core.specs.Aes.{after_rounds, add}
use Rattle.aes_core.specs.StateOf.{key_at}
use Rattle.aes_core.proofs.Rounds.{after_more, cipher_is, cipher_words}
use Rattle.aes_core.proofs.block.encrypt_block.Goals as goal

pub pairs-init : goal.pairs-init
unfolding after_rounds
pairs-init c = c.add_key-s.ensures ∙ ap (λ s. add s (key_at c.k.inside.forward 0)) c.load-start.ensures

pub pairs-preserved : goal.pairs-preserved
pairs-preserved c =
    let key : ℕ → List ℕ = key_at c.k.inside.forward in
    let n : ℕ = c.pairs.pair in
    let same : 2 * n ≡ 2 * (n + 1) - 2 = omega arith in
    let once = after_more key c.args.block.now _ _ (2 * n - 2) (2 * n - 1) c.pairs.invariant c.full_round-s.ensures (omega arith) in
    after_more key c.args.block.now _ _ (2 * n - 1) (2 * n) once c.full_round-s-in-pairs.ensures (omega arith)
    ∙ (λ i. after_rounds key c.args.block.now (same i))

pub returns : goal.returns
returns c =
    let key : ℕ → List ℕ = key_at c.k.inside.forward in
    let n : ℕ = c.k.inside.rounds in
    let once = after_more key c.args.block.now _ _ (2 * c.pairs.pair - 2) (n - 1) c.pairs.invariant c.full_round-s-2.ensures (omega arith) in
    cipher_words c.k.inside.forward c.args.block.now c.store-end.result c.args.k.now n (omega arith) (omega arith) c.k.view_is
    (c.store-end.ensures ∙ cipher_is key c.args.block.now _ _ (n - 1) n once c.last_round.ensures (omega arith))
