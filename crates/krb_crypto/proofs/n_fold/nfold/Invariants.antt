use Rattle.std.proofs.Common.{◌≡◌, ◌*◌, ◌/◌, length}
use Rattle.aes_core.specs.Inverses.{AreBytes}
use Rattle.krb_crypto.specs.BytesValue.{bytes_value}
use Rattle.krb_crypto.specs.Folding.{bits, copies, sum_of_pieces}
use Rattle.krb_crypto.proofs.n_fold.nfold.Given as goal

abbrev pub invariant-loop-j : goal.invariant-loop-j
invariant-loop-j l = AreBytes l.out × (bytes_value l.out ≡ sum_of_pieces (8 * l.n) l.j (copies (l.whole / length l.text) (bits l.text)))
