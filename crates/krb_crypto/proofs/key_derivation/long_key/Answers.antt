use Rattle.std.proofs.Common.{subst, sym, ap, ◌∙◌}
use Rattle.krb_names.specs.declared.etype.Etype.TheVariants.{Aes256}
use Rattle.krb_names.specs.Keys.{key_of}
use Rattle.krb_crypto.specs.BlockCipher.{IsKey}
use Rattle.krb_crypto.proofs.ByteSums.{bytes_below}
use Rattle.krb_crypto.proofs.DerivedKeys.{IsKey-long}
use Rattle.krb_crypto.proofs.key_derivation.long_key.Goals as goal

pub returns-clause-padded : goal.returns-clause-padded
returns-clause-padded c =
    subst IsKey (sym (c.new.ensures ∙ ap (key_of Aes256) c.joined.ensures))
    (IsKey-long c.args.first.now c.args.second.now c.told-first c.told-second (bytes_below c.args.first.now c.fits-first) (bytes_below c.args.second.now c.fits-second))
