use Rattle.std.proofs.Common.{◌≡◌, ◌+◌, ◌-◌, ◌*◌, ◌^◌, ◌≤◌, length, take, drop}
use Rattle.aes_core.specs.Inverses.{AreBytes}
use Rattle.krb_crypto.specs.BytesValue.{bytes_value}
use Rattle.krb_crypto.proofs.n_fold.add_bytes.Given as goal

abbrev pub invariant-loop-k : goal.invariant-loop-k
invariant-loop-k l = (length l.sum ≡ l.n) × (l.carry ≤ 1) × (take (l.n - l.k) l.sum ≡ take (l.n - l.k) l.fn.sum)
    × (bytes_value (drop (l.n - l.k) l.sum) + l.carry * 256 ^ l.k ≡ bytes_value (drop (l.n - l.k) l.fn.sum) + bytes_value (drop (l.n - l.k) (take l.n l.addend)) + l.fn.carry)
    × AreBytes (drop (l.n - l.k) l.sum)
