use Rattle.std.proofs.Common.{ℕ, ◌<◌, ◌^◌}
use Rattle.std.proofs.lemmas.List.Sorted.{All-permutation}
use Rattle.pac_buffers.proofs.Ascending.{ascending_from_sort}
use Rattle.pac_buffers.proofs.kinds.sort_kinds.Goals as goal

pub returns-clause-ascending : goal.returns-clause-ascending
returns-clause-ascending c =
    ascending_from_sort c.sort_unstable.new.self (All-permutation (λ (x : ℕ × ℕ). x.1 < 2 ^ 32) _ _ c.sort_unstable.ensures.permutation c.requires) c.sort_unstable.ensures.sorted
