use Rattle.std.proofs.Common.{◌≡◌, ℕ, ◌<◌, List, arith, get_or, Fits, w8}
use Rattle.krb_crypto.proofs.Copies.{byte_is_bits}
use Rattle.krb_crypto.proofs.n_fold.byte_of_copies.Goals as goal

below : (text : List ℕ) (k x : ℕ) → ((i : ℕ) → Fits w8 (get_or text i 0)) → x ≡ get_or text k 0 → x < 256
below text k x fits e = omega (arith, fits k)

pub returns : goal.returns
returns c = λ count h.
    byte_is_bits c.args.text.now c.args.at count c.from-high.result c.from-low.result c.requires.some h
    (below c.args.text.now _ c.from-high.result c.type_inv.text c.from-high.ensures) (below c.args.text.now _ c.from-low.result c.type_inv.text c.from-low.ensures) c.from-high.ensures c.from-low.ensures
