-- The encrypted timestamp of an AS-REQ (RFC 4120, section 5.2.7.2), as the rules see it.
use Rattle.std.specs.Prelude.{ℕ, pos, ◌+◌, ◌*◌, Bool, nat_abs, List, [], Option, None, Some, unwrap_or, Result, Ok, Err, if◌then◌else◌}
use Rattle.std.specs.List.{find}
use Rattle.krb_names.specs.declared.key.Key.{Key}
use Rattle.krb_names.specs.Etypes.{etype_number}
use Rattle.krb_names.specs.Moments.{in_micros}
use Rattle.krb_crypto.specs.Encryption.{opened}
use Rattle.der_core.specs.declared.refusal.DerRefusal.{DerRefusal}
use Rattle.der_core.specs.Codec.{whole}
use Rattle.krb_tickets.specs.declared.encrypted_data.EncryptedData.{EncryptedData}
use Rattle.krb_tickets.specs.EncryptedData.{encrypted_data}
use Rattle.krb_tickets.specs.Pac.{is_number}
use Rattle.krb_messages.specs.declared.pa_data.PaData.{PaData}
use Rattle.krb_messages.specs.declared.pa_enc_ts_enc.PaEncTsEnc.{PaEncTsEnc}
use Rattle.krb_messages.specs.PaEncTsEnc.{pa_enc_ts_enc}
use Rattle.dir_records.specs.declared.records.Account.{Account as AccountRec}
use Rattle.as_core.specs.declared.stamp.StampView.{StampView}
use Rattle.as_core.specs.declared.stamp.StampView.TheVariants as views

pub data Stamp : Type 0 where
  Absent : Stamp  -- there is none
  Unread : Stamp  -- it is not of the key's type, does not open with it, or does not read
  At : ℕ → Stamp  -- it was made so many microseconds after 1970

-- as a call is lent it
abbrev pub stamp_seen : StampView → Stamp
stamp_seen views.Absent = Absent
stamp_seen views.Unread = Unread
stamp_seen (views.At moment) = At (in_micros moment)

-- PA-ENC-TIMESTAMP
abbrev pub is_timestamp : PaData → Bool
is_timestamp item = is_number 2 item.padata_type

-- the first of a list
abbrev pub first_timestamp : List PaData → Option PaData
first_timestamp items = find is_timestamp items

-- the microseconds after 1970; an absent pausec is 0
abbrev pub made_at : PaEncTsEnc → ℕ
made_at stamp = stamp.patimestamp * 1000000 + nat_abs (unwrap_or stamp.pausec (pos 0))

abbrev pub stamp_told : Result PaEncTsEnc DerRefusal → Stamp
stamp_told (Ok stamp) = At (made_at stamp)
stamp_told (Err refusal) = Unread

-- the stamp that a text says, if there is one
abbrev pub stamp_of_text : Option (List ℕ) → Stamp
stamp_of_text None = Unread
stamp_of_text (Some text) = stamp_told (whole pa_enc_ts_enc text)

-- sealed with a key: it is of the key's type, and opens with usage 1 (RFC 4120, section 7.5.1)
abbrev pub stamp_of_sealed : Key → Result EncryptedData DerRefusal → Stamp
stamp_of_sealed key (Ok sealed) = if is_number (etype_number key.etype) sealed.etype then stamp_of_text (opened key 1 sealed.cipher) else Unread
stamp_of_sealed key (Err refusal) = Unread

abbrev pub stamp_of_item : Key → Option PaData → Stamp
stamp_of_item key None = Absent
stamp_of_item key (Some item) = stamp_of_sealed key (whole encrypted_data item.padata_value)

-- the padata, if there is some
abbrev pub items_of : Option (List PaData) → List PaData
items_of None = []
items_of (Some items) = items

-- the first timestamp of a request, as the key of the account opens it that asks; of no account none is looked for
unfoldable pub stamp_of : Option AccountRec → Option (List PaData) → Stamp
stamp_of None padata = Absent
stamp_of (Some account) padata = stamp_of_item account.key.key (first_timestamp (items_of padata))
