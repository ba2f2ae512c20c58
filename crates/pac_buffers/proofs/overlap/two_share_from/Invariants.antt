use Rattle.std.proofs.Common.{◌≡◌, ℕ, ◌+◌, ◌*◌, ◌<◌, [], take, drop, true, false, length, get_or}
use Rattle.pac_buffers.specs.Container.{any_entry, overlap}
use Rattle.pac_buffers.specs.SharedBytes.{has_byte, is_shared}
use Rattle.pac_buffers.proofs.overlap.two_share_from.Given as goal

abbrev pub invariant-loop-raw : goal.invariant-loop-raw
invariant-loop-raw l = record {
  many : length l.marks ≡ 16384;
  marked : (k : ℕ) → k < 16384 → get_or l.marks k false ≡ any_entry (has_byte (l.start + 8 * k)) (take l.raw-index l.list);
  pairs : overlap (take l.raw-index l.list) (drop l.raw-index l.list) ≡ true → overlap [] l.list ≡ true;
  shared : (k : ℕ) → k < 16384 → is_shared (l.start + 8 * k) (take l.raw-index l.list) (drop l.raw-index l.list) ≡ is_shared (l.start + 8 * k) [] l.list;
}
