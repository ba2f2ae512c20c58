use Rattle.krb_crypto.proofs.CtsBack.{cts_redo}
use Rattle.krb_crypto.proofs.CtsInverse.{cts_undo, length_cts}
use Rattle.krb_crypto.proofs.KeyBlocks.{undoes_key, redoes_key}
use Rattle.krb_crypto.specs.BlockCipher.{encrypt, decrypt}
use Rattle.krb_crypto.proofs.law.cts_law.Goals as goal

pub returns : goal.returns
returns c = record {
  undoes = λ key p k h l. cts_undo (encrypt key) (decrypt key) p (undoes_key key k) h l;
  redoes = λ key q k h l. cts_redo (encrypt key) (decrypt key) q (redoes_key key k) h l;
  unchanged = λ key p k h l. length_cts (encrypt key) (decrypt key) p (undoes_key key k) h l;
}
