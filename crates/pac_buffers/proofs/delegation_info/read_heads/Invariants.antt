use Rattle.std.proofs.Common.{◌≡◌}
use Rattle.ndr_core.specs.Arrays.{repeated}
use Rattle.ndr_core.proofs.Loops.{with_front, left}
use Rattle.ndr_values.specs.Texts.{string_head}
use Rattle.pac_buffers.proofs.delegation_info.read_heads.Given as goal

abbrev pub invariant-loop : goal.invariant-loop
invariant-loop l = with_front l.heads.items (left string_head l.fn.count l.counter l.from) ≡ (repeated l.fn.count string_head).reading l.fn.from
