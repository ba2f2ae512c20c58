-- CBC with ciphertext stealing (RFC 3962, section 5): CBC with a zero initial vector, the last two blocks exchanged and the
-- last one cut to what is left of the text. e is the encryption of one block, d its decryption.
use Rattle.std.specs.Prelude.{ℕ, zero, suc, ◌-◌, ◌/◌, ◌==◌, List, ◌++◌, length, take, drop, replicate, if◌then◌else◌}
use Rattle.aes_core.specs.Aes.{add}

-- a text of at most 16 bytes, with zeros up to a block
abbrev pub padded : List ℕ → List ℕ
padded p = p ++ replicate (16 - length p) 0

-- a text of 17 to 32 bytes, after the cipher block `before`
unfoldable pub encrypt_last : (List ℕ → List ℕ) → List ℕ → List ℕ → List ℕ
encrypt_last e before p =
    let c = e (add (take 16 p) before) in
    e (add (padded (drop 16 p)) c) ++ take (length (drop 16 p)) c

-- n blocks by CBC, and then the last two
unfoldable pub encrypt_chain : (List ℕ → List ℕ) → ℕ → List ℕ → List ℕ → List ℕ
encrypt_chain e zero before p = encrypt_last e before p
encrypt_chain e (suc n) before p =
    let c = e (add (take 16 p) before) in
    c ++ encrypt_chain e n c (drop 16 p)

-- how many blocks stand before the last two, of a text of more than 16 bytes
abbrev pub front_blocks : ℕ → ℕ
front_blocks len = (len - 17) / 16

-- a text of at least 16 bytes
unfoldable pub cts_encrypt : (List ℕ → List ℕ) → List ℕ → List ℕ
cts_encrypt e p = if length p == 16 then e p else encrypt_chain e (front_blocks (length p)) (replicate 16 0) p

unfoldable pub decrypt_last : (List ℕ → List ℕ) → List ℕ → List ℕ → List ℕ
decrypt_last d before q =
    let y = d (take 16 q) in
    add (d (drop 16 q ++ drop (length (drop 16 q)) y)) before ++ add y (drop 16 q)

unfoldable pub decrypt_chain : (List ℕ → List ℕ) → ℕ → List ℕ → List ℕ → List ℕ
decrypt_chain d zero before q = decrypt_last d before q
decrypt_chain d (suc n) before q = add (d (take 16 q)) before ++ decrypt_chain d n (take 16 q) (drop 16 q)

unfoldable pub cts_decrypt : (List ℕ → List ℕ) → List ℕ → List ℕ
cts_decrypt d q = if length q == 16 then d q else decrypt_chain d (front_blocks (length q)) (replicate 16 0) q
