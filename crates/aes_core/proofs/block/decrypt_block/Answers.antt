use Rattle.std.proofs.Common.{◌≡◌, ℕ, ◌+◌, ◌-◌, ◌*◌, List, ◌∙◌, arith}
use Rattle.aes_core.specs.Aes.{after_inv_rounds, add}
use Rattle.aes_core.specs.StateOf.{key_at}
use Rattle.aes_core.proofs.Rounds.{after_inv_rounds_more, inv_cipher_is, inv_cipher_words}
use Rattle.aes_core.proofs.block.decrypt_block.Goals as goal

pub pairs-init : goal.pairs-init
unfolding after_inv_rounds
pairs-init c = c.add_key-s.ensures ∙ (λ i. add (c.load-start.ensures i) (c.k.invariant.paired 0 (omega arith) i))

pub pairs-preserved : goal.pairs-preserved
pairs-preserved c =
    let f : List ℕ = c.k.inside.forward in
    let b : List ℕ = c.k.inside.backward in
    let r : ℕ = c.k.inside.rounds in
    let n : ℕ = c.pairs.pair in
    let same : 2 * n ≡ 2 * (n + 1) - 2 = omega arith in
    let once = after_inv_rounds_more r (2 * n - 2) (2 * n - 1) f b c.args.block.now _ _ c.k.invariant.paired c.pairs.invariant c.inv_round-s.ensures (omega arith) (omega arith) in
    after_inv_rounds_more r (2 * n - 1) (2 * n) f b c.args.block.now _ _ c.k.invariant.paired once c.inv_round-s-in-pairs.ensures (omega arith) (omega arith)
    ∙ (λ i. after_inv_rounds r (key_at f) c.args.block.now (same i))

pub returns : goal.returns
returns c =
    let f : List ℕ = c.k.inside.forward in
    let b : List ℕ = c.k.inside.backward in
    let n : ℕ = c.k.inside.rounds in
    let once = after_inv_rounds_more n (2 * c.pairs.pair - 2) (n - 1) f b c.args.block.now _ _ c.k.invariant.paired c.pairs.invariant c.inv_round-s-2.ensures (omega arith) (omega arith) in
    inv_cipher_words c.k.inside.forward c.args.block.now c.store-end.result c.args.k.now n (omega arith) (omega arith) c.k.view_is
    (c.store-end.ensures ∙ inv_cipher_is n (n - 1) f b c.args.block.now _ _ c.k.invariant.paired once c.inv_last_round.ensures (omega arith))
