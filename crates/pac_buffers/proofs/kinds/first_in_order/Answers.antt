use Rattle.std.proofs.Common.{ℕ, ◌+◌, ◌<◌, ◌^◌, List, subst, arith}
use Rattle.std.specs.List.Sorted.{IsPermutation}
use Rattle.std.proofs.lemmas.List.Elements.{All-same}
use Rattle.pac_buffers.specs.Kinds.{numbered}
use Rattle.pac_buffers.proofs.Ascending.{numbered_small}
use Rattle.pac_buffers.proofs.kinds.first_in_order.Goals as goal

pub sort_kinds-requires : goal.sort_kinds-requires
sort_kinds-requires c = All-same (λ (x : ℕ × ℕ). x.1 < 2 ^ 32) c.write_kinds.new.kinds (numbered 0 c.args.list.now) c.write_kinds.ensures (numbered_small 0 (2 ^ 32) c.args.list.now (omega arith))

pub first_of_ascending-requires-clause-same : goal.first_of_ascending-requires-clause-same
first_of_ascending-requires-clause-same c = subst (λ (l : List (ℕ × ℕ)). IsPermutation l c.sort_kinds.new.kinds) c.write_kinds.ensures c.sort_kinds.ensures.ok
