use Rattle.std.proofs.Common.{◌≡◌, take, drop, map}
use Rattle.std.specs.List.{All}
use Rattle.ndr_core.specs.Arrays.{each, put_each}
use Rattle.ndr_values.specs.Texts.{text_of, head_of}
use Rattle.pac_buffers.proofs.delegation_info.put_texts.Given as goal

abbrev pub invariant-loop-text : goal.invariant-loop-text
invariant-loop-text l = record {
  put : put_each text_of (map head_of (drop l.text-index l.texts)) l.to (drop l.text-index l.texts) ≡ (each text_of (map head_of l.texts)).written l.fn.to l.texts;
  fit : All (λ t. (text_of (head_of t)).Fits t) (take l.text-index l.texts);
}
