-- A derived key is a key: 32 bytes.
use Rattle.std.proofs.Common.{◌≡◌, ℕ, zero, suc, ◌-◌, ◌*◌, ◌/◌, ◌≤◌, List, [], ◌++◌, length, take, replicate, refl, ap, ◌∙◌, arith}
use Rattle.std.proofs.lemmas.List.{length-append, length-take-le, length-replicate}
use Rattle.krb_names.specs.declared.etype.Etype.{Etype}
use Rattle.krb_names.specs.declared.etype.Etype.TheVariants.{Aes128, Aes256}
use Rattle.krb_names.specs.declared.key.Key.{Key}
use Rattle.krb_names.specs.Etypes.{key_length}
use Rattle.krb_names.specs.Keys.{key_of}
use Rattle.aes_core.specs.Inverses.{IsBlock, AreBytes, Undoes}
use Rattle.aes_core.proofs.Inverse.{bytes-append}
use Rattle.krb_crypto.specs.BlockCipher.{encrypt, decrypt, IsKey}
use Rattle.krb_crypto.specs.Derivation.{dk, results}
use Rattle.krb_crypto.specs.Folding.{nfold, big_endian, common_multiple, sum_of_pieces, copies, bits}
use Rattle.krb_crypto.proofs.CtsInverse.{bytes-take, bytes-zeros}
use Rattle.krb_crypto.proofs.KeyBlocks.{undoes_key}

pub length-big_endian : (n x : ℕ) → length (big_endian n x) ≡ n
unfolding big_endian
length-big_endian zero x = refl
length-big_endian (suc n) x = ap suc (length-big_endian n x)

pub bytes-big_endian : (n x : ℕ) → AreBytes (big_endian n x)
unfolding big_endian
bytes-big_endian zero x = tt
bytes-big_endian (suc n) x = (omega arith, bytes-big_endian n x)

pub IsBlock-nfold : (text : List ℕ) → IsBlock (nfold 16 text)
unfolding nfold
IsBlock-nfold text =
    let whole : ℕ = common_multiple (length text) 16 in
    let x : ℕ = sum_of_pieces (8 * 16) (whole / 16) (copies (whole / length text) (bits text)) in
    (length-big_endian 16 x, bytes-big_endian 16 x)

at_most : (etype : Etype) → key_length etype ≤ 32
at_most Aes128 = omega arith
at_most Aes256 = omega arith

IsKey-of : (etype : Etype) (bytes : List ℕ) → length bytes ≡ 32 → AreBytes bytes → IsKey (key_of etype (take (key_length etype) bytes))
IsKey-of etype bytes l h =
    let front : List ℕ = take (key_length etype) bytes in
    let len : length front ≡ key_length etype = length-take-le (key_length etype) bytes (omega (arith, at_most etype)) in
    let zeros : List ℕ = replicate (32 - length front) 0 in (
      length-append front zeros ∙ omega (arith, length-replicate {A = ℕ} (32 - length front) 0, at_most etype),
      bytes-append front zeros (bytes-take (key_length etype) bytes h) (bytes-zeros (32 - length front)),
    )

pub IsKey-dk : (base : Key) (constant : List ℕ) → IsKey base → IsKey (dk base constant)
IsKey-dk base constant h =
    let e : List ℕ → List ℕ = encrypt base in
    let undoes : Undoes e (decrypt base) = undoes_key base h in
    let one : IsBlock (e (nfold 16 constant)) = undoes.block (nfold 16 constant) (IsBlock-nfold constant) in
    let two : IsBlock (e (e (nfold 16 constant))) = undoes.block (e (nfold 16 constant)) one in
    let l1 : length (e (nfold 16 constant)) ≡ 16 = one.0 in
    let l2 : length (e (e (nfold 16 constant))) ≡ 16 = two.0 in
    let rest : List ℕ = e (e (nfold 16 constant)) ++ [] in
    IsKey-of base.etype (results e 2 (nfold 16 constant))
    (length-append (e (nfold 16 constant)) rest ∙ omega (arith, length-append (e (e (nfold 16 constant))) []))
    (bytes-append (e (nfold 16 constant)) rest one.1 (bytes-append (e (e (nfold 16 constant))) [] two.1 tt))

pub IsKey-short : (block : List ℕ) → length block ≡ 16 → AreBytes block → IsKey (key_of Aes128 block)
IsKey-short block l h =
    let zeros : List ℕ = replicate (32 - length block) 0 in
    (length-append block zeros ∙ omega (arith, length-replicate {A = ℕ} (32 - length block) 0), bytes-append block zeros h (bytes-zeros (32 - length block)))

pub IsKey-long : (a b : List ℕ) → length a ≡ 16 → length b ≡ 16 → AreBytes a → AreBytes b → IsKey (key_of Aes256 (a ++ b))
IsKey-long a b la lb ha hb =
    let whole : length (a ++ b) ≡ 32 = length-append a b ∙ omega arith in
    let zeros : List ℕ = replicate (32 - length (a ++ b)) 0 in
    (length-append (a ++ b) zeros ∙ omega (arith, length-replicate {A = ℕ} (32 - length (a ++ b)) 0), bytes-append (a ++ b) zeros (bytes-append a b ha hb) (bytes-zeros (32 - length (a ++ b))))
