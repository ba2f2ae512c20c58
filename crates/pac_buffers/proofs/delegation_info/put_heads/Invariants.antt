use Rattle.std.proofs.Common.{◌≡◌, ◌-◌, length, drop, map, replicate}
use Rattle.ndr_core.specs.Arrays.{repeated, put_each}
use Rattle.ndr_values.specs.Texts.{string_head, head_of}
use Rattle.pac_buffers.proofs.delegation_info.put_heads.Given as goal

abbrev pub invariant-loop-text : goal.invariant-loop-text
invariant-loop-text l = put_each (λ (_ : Unit {0}). string_head) (replicate (length l.texts - l.text-index) tt) l.to (map head_of (drop l.text-index l.texts)) ≡ (repeated (length l.texts) string_head).written l.fn.to (map head_of l.texts)
