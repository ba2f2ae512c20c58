use Rattle.std.proofs.Common.{ℕ, ◌/◌, ◌<◌, ◌≤◌, length, drop, ◌∙◌, ap, arith}
use Rattle.std.specs.Simd.{first_chunks}
use Rattle.pac_buffers.specs.Container.{list_of}
use Rattle.pac_buffers.proofs.Lists.{first_of_chunks, first_chunks_length, listed_is, unlisted_is}
use Rattle.pac_buffers.proofs.list.list_in.Goals as goal

pub returns : goal.returns
unfolding list_of
returns c =
    let bytes = c.args.bytes.now in
    let count = c.from_le_bytes-count.result in
    let many = length (drop 8 bytes) / 16 in
    let le : count ≤ many = omega (arith, rw (c.chunks-entries.ensures, c.split_at.ensures.back) at c.if-entries-count.false, first_chunks_length 16 many (drop 8 bytes)) in
    (listed_is bytes count (omega arith) c.from_le_bytes-count.ensures le, rw (c.chunks-entries.ensures, c.split_at.ensures.back) (first_of_chunks 16 count many (drop 8 bytes) le ∙ ap (λ (k : ℕ). first_chunks 16 k (drop 8 bytes)) c.from_le_bytes-count.ensures))

pub returns-then-entries-count : goal.returns-then-entries-count
returns-then-entries-count c =
    let bytes = c.args.bytes.now in
    let count = c.from_le_bytes-count.result in
    let many = length (drop 8 bytes) / 16 in
    let lt : many < count = omega (arith, rw (c.chunks-entries.ensures, c.split_at.ensures.back) at c.if-entries-count.true, first_chunks_length 16 many (drop 8 bytes)) in
    unlisted_is bytes count (omega arith) c.from_le_bytes-count.ensures lt
