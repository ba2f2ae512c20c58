use Rattle.std.proofs.Common.{◌≡◌, ℕ, ◌<◌, ◌%◌, length, get_or}
use Rattle.kb_base.proofs.blocks.numbered_block.Given as goal

abbrev pub invariant-loop-i : goal.invariant-loop-i
invariant-loop-i l =
    record {
      all : length l.block ≡ 64;
      written : (k : ℕ) → k < l.i → get_or l.block k 0 ≡ get_or l.octets (k % 8) 0;
    }
