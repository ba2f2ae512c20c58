use Rattle.std.proofs.Common.{◌≡◌, ℕ, ◌*◌, ◌%◌, ◌<◌, [], false}
use Rattle.pac_buffers.specs.SharedBytes.{is_shared}
use Rattle.pac_buffers.proofs.overlap.two_share_in_windows.Given as goal

abbrev pub invariant-loop-window : goal.invariant-loop-window
invariant-loop-window l = (place : ℕ) → place < l.window * 131072 → place % 8 ≡ 0 → is_shared place [] l.list ≡ false
