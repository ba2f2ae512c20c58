use Rattle.std.proofs.Common.{◌≡◌, ◌∙◌, refl, arith}
use Rattle.std.proofs.lemmas.List.{length-set}
use Rattle.aes_core.proofs.Expansion.{key_more, expanded_none, expanded_more}
use Rattle.aes_core.proofs.key_expansion.expand.Goals as goal

pub key-preserved : goal.key-preserved
key-preserved c = (
  length-set c.key.keys c.key.i c.key_word.result ∙ c.key.invariant.0,
  key_more c.args.raw.now c.key.keys c.key.i c.key_word.result (omega arith) c.key.invariant.1 c.key_word.ensures,
)

pub more-init : goal.more-init
more-init c =
    let all : c.key.i ≡ c.args.nk = omega arith in
    (c.key.invariant.0, expanded_none c.args.nk c.args.raw.now c.key.keys (rw all at c.key.invariant.1))

pub more-preserved : goal.more-preserved
more-preserved c = (
  length-set c.more.keys c.more.i _ ∙ c.more.invariant.0,
  expanded_more c.args.nk c.args.raw.now c.more.keys c.more.i _ _ (omega arith) (omega arith) (omega arith) c.more.invariant.1 c.word_mask.ensures refl,
)
