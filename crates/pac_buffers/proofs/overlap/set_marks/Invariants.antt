use Rattle.std.proofs.Common.{◌≡◌, ℕ, ◌+◌, ◌-◌, ◌<◌, ◌≤◌, ◌&&◌, ◌||◌, false, length, get_or}
use Rattle.std.specs.Prelude.{nat_le, nat_lt}
use Rattle.pac_buffers.proofs.overlap.set_marks.Given as goal

abbrev pub invariant-loop-k : goal.invariant-loop-k
invariant-loop-k l = record {
  range : l.k ≤ l.from + (l.to - l.from);
  apart : (j : ℕ) → l.from ≤ j → j < l.k → get_or l.initial.marks j false ≡ false;
  set : (j : ℕ) → j < length l.marks → get_or l.marks j false ≡ (get_or l.initial.marks j false || (nat_le l.from j && nat_lt j l.k));
}
