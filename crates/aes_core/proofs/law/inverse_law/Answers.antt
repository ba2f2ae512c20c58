use Rattle.std.proofs.Common.{ℕ, List}
use Rattle.aes_core.specs.Cipher.{round_count}
use Rattle.aes_core.specs.KeyExpansion.{key_expansion, round_key}
use Rattle.aes_core.proofs.Inverse.{AreKeys, inv_cipher-cipher, IsBlock-cipher}
use Rattle.aes_core.proofs.InverseBack.{cipher-inv_cipher, IsBlock-inv_cipher}
use Rattle.aes_core.proofs.ScheduleWords.{keys-expansion, rounds-some}
use Rattle.aes_core.proofs.law.inverse_law.Goals as goal

pub returns : goal.returns
returns c = λ nk key hk long h.
    let w : List (List ℕ) = key_expansion nk key in
    let n : ℕ = round_count w in
    let keys : AreKeys n (round_key w) = keys-expansion nk key hk long h in
    let pos = rounds-some nk key hk long h in (
      record { block = λ b hb. IsBlock-cipher n (round_key w) b keys hb; undo = λ b hb. inv_cipher-cipher n (round_key w) b pos keys hb },
      record { block = λ b hb. IsBlock-inv_cipher n (round_key w) b keys hb; undo = λ b hb. cipher-inv_cipher n (round_key w) b pos keys hb },
    )
