use Rattle.std.proofs.Common.{subst, sym}
use Rattle.krb_crypto.specs.BlockCipher.{IsKey}
use Rattle.krb_crypto.proofs.ByteSums.{bytes_below}
use Rattle.krb_crypto.proofs.DerivedKeys.{IsKey-short}
use Rattle.krb_crypto.proofs.key_derivation.short_key.Goals as goal

pub returns-clause-padded : goal.returns-clause-padded
returns-clause-padded c = subst IsKey (sym c.new.ensures) (IsKey-short c.args.block.now c.told-block (bytes_below c.args.block.now c.fits-block))
