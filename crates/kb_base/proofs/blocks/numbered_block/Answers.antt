use Rattle.std.proofs.Common.{◌%◌, ◌∙◌, get_or, ap, arith}
use Rattle.std.specs.Int.{to_be_bytes, w64}
use Rattle.std.proofs.lemmas.List.FromFn.{fill_by_all}
use Rattle.kb_base.specs.Blocks.{numbered_block}
use Rattle.kb_base.proofs.blocks.numbered_block.Goals as goal

pub returns : goal.returns
unfolding numbered_block
returns c =
    fill_by_all (λ k. get_or (to_be_bytes w64 c.args.number) (k % 8) 0) c.loop-i.block 64 0 c.loop-i.invariant.all
    (λ k below. c.loop-i.invariant.written k (omega (arith, below)) ∙ ap (λ octets. get_or octets (k % 8) 0) c.to_be_bytes-octets.ensures)
