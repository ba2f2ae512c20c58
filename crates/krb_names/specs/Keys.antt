-- Keys and their octets (RFC 4120, section 5.2.9).
use Rattle.std.specs.Prelude.{ℕ, ◌-◌, Bool, List, ◌++◌, take, drop, length, replicate}
use Rattle.krb_names.specs.declared.etype.Etype.{Etype}
use Rattle.krb_names.specs.declared.key.Key.{Key}
use Rattle.krb_names.specs.Etypes.{key_length}
use Rattle.kdc_prelude.specs.Texts.{same_text}

-- the octets of a key, as many as its type has
abbrev pub key_bytes : Key → List ℕ
key_bytes key = take (key_length key.etype) key.raw

-- the key of these octets, with zeros behind them up to 32
abbrev pub key_of : Etype → List ℕ → Key
key_of etype bytes = record { etype = etype; raw = bytes ++ replicate (32 - length bytes) 0 }

-- zeros stand behind the octets
abbrev pub is_padded : Key → Bool
is_padded key = same_text (drop (key_length key.etype) key.raw) (replicate (32 - key_length key.etype) 0)
