use Rattle.std.proofs.Common.{◌≡◌, drop}
use Rattle.ndr_core.specs.Arrays.{each_at}
use Rattle.ndr_core.proofs.Loops.{with_front}
use Rattle.ndr_values.specs.Texts.{text_of}
use Rattle.pac_buffers.proofs.delegation_info.read_texts.Given as goal

abbrev pub invariant-loop-head : goal.invariant-loop-head
invariant-loop-head l = with_front l.texts (each_at text_of (drop l.head-index l.heads) l.from) ≡ each_at text_of l.heads l.fn.from
