use Rattle.krb_crypto.proofs.DerivedKeys.{IsKey-dk}
use Rattle.krb_crypto.proofs.Opened.{opened_opens}
use Rattle.krb_crypto.proofs.Opening.{opens_once}
use Rattle.krb_crypto.proofs.law.open_law.Goals as goal

pub returns : goal.returns
returns c = record {
  only = λ key usage bytes m n hk. opens_once key usage bytes m n (IsKey-dk key _ hk);
  exact = λ key usage bytes message hk hb. opened_opens key usage bytes message (IsKey-dk key _ hk) hb;
}
