-- The checksums of a PAC's signatures (MS-PAC, section 2.8).
use Rattle.std.specs.Prelude.{ℕ, ◌+◌, List, min, Option, None, Some, option_map}
use Rattle.std.specs.declared.ops.Range.{Range}
use Rattle.krb_names.specs.declared.etype.Etype.{Etype}
use Rattle.krb_names.specs.declared.etype.Etype.TheVariants.{Aes128, Aes256}
use Rattle.krb_names.specs.declared.key.Key.{Key}
use Rattle.krb_crypto.specs.Checksums.{mac, zeroed}
use Rattle.pac_buffers.specs.Container.{entry_of}
use Rattle.pac_buffers.specs.Places.{place_of}

-- the type of a key's checksums: hmac-sha1-96-aes128, hmac-sha1-96-aes256 (RFC 3962, section 7)
abbrev pub sum_type : Etype → ℕ
sum_type Aes128 = 15
sum_type Aes256 = 16

-- under key usage 17 (KERB_NON_KERB_CKSUM_SALT)
abbrev pub sum_of : Key → List ℕ → List ℕ
sum_of key text = mac key 17 text

-- where the value of a signature lies in its buffer: 12 bytes behind the 4 of the type, or as many of them as there are
abbrev pub value_place : Option (Range ℕ) → Range ℕ
value_place None = record { start = 0; end = 0 }
value_place (Some p) = record { start = min (p.start + 4) p.end; end = min (p.start + 16) p.end }

abbrev pub value_place_in : ℕ → List ℕ → Range ℕ
value_place_in kind bytes = value_place (option_map place_of (entry_of kind bytes))

-- what the server signature covers: the PAC with the values of the server and of the KDC signature zero
unfoldable pub covered : List ℕ → List ℕ
covered bytes =
    let server = value_place_in 6 bytes in
    let kdc = value_place_in 7 bytes in
    zeroed kdc.start kdc.end (zeroed server.start server.end bytes)
