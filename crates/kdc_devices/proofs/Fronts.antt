-- Lemmas on the front that is read of known bytes.
use Rattle.std.proofs.Common.{◌≡◌, ◌<◌, ◌≤◌, ◌++◌, ◌∙◌, ℕ, List, [], length, take, sym, ap, append-nil}
use Rattle.std.specs.Prelude.{Option, None, Some, IfSome}
use Rattle.std.specs.Io.KnownBytes.{Consumes, IsAtEnd}
use Rattle.std.proofs.Math.Seq.{take-append_seam}
use Rattle.std.proofs.lemmas.List.{take_all}
use Rattle.kdc_devices.specs.Batches.{IsBatchOf}

-- a read gave nothing: all was read before, and is within the limit
pub all_read : (limit : ℕ) (old cur new : Option (List ℕ)) (front : List ℕ) (count : ℕ) (buf : List ℕ) → count ≡ 0 → 0 < length buf → length front ≤ limit → Consumes old cur front → Consumes cur new (take count buf) × (count ≡ 0 → 0 < length buf → IsAtEnd new) → IfSome old (λ left. front ≡ take limit left)
all_read limit None cur new front count buf none room few p q = tt
all_read limit (Some left) None new front count buf none room few p q = absurd p
all_read limit (Some left) (Some rest) None front count buf none room few p q = absurd q.0
all_read limit (Some left) (Some rest) (Some more) front count buf none room few p q =
    let ended : rest ≡ [] = q.0 ∙ ap (λ n. take n buf ++ more) none ∙ q.1 none room in
    let same : left ≡ front = p ∙ ap (λ l. front ++ l) ended ∙ append-nil front in
    rw same (sym (take_all limit front few))

-- as much was read as the limit allows
pub limit_read : (limit : ℕ) (old cur : Option (List ℕ)) (front : List ℕ) → length front ≡ limit → Consumes old cur front → IfSome old (λ left. front ≡ take limit left)
limit_read limit None cur front full p = tt
limit_read limit (Some left) None front full p = absurd p
limit_read limit (Some left) (Some rest) front full p =
    rw p (sym (ap (λ n. take n (front ++ rest)) (sym full) ∙ take-append_seam front rest))

-- the batch of the bytes that were read is that of what was left
pub batch_of_front : (old : Option (List ℕ)) (next batch : List ℕ) → IfSome old (λ left. next ≡ take 1048576 left) → IsBatchOf next (Some batch) → IfSome old (λ left. IsBatchOf (take 1048576 left) (Some batch))
batch_of_front None next batch same h = tt
batch_of_front (Some left) next batch same h = rw (sym same) h
