-- What a JSON value is read as, with BadField where it is of another kind or range (own choice).
use Rattle.std.specs.Prelude.{ℕ, ◌&&◌, Bool, nat_le, List, length, Option, None, Some, Result, Ok, Err}
use Rattle.std.specs.Result.{result_ok}
use Rattle.kdc_prelude.specs.Results.{◌>>=◌}
use Rattle.serde_json.specs.Data.{Data, Num}
use Rattle.serde_json.specs.Find.{as_str, as_bool, as_number, as_u64}
use Rattle.krb_names.specs.Pieces.{is_name}
use Rattle.krb_names.specs.SidTexts.{sid_reading}
use Rattle.krb_names.specs.SidValue.{SidValue}
use Rattle.krb_names.specs.declared.refusal.NameRefusal.{NameRefusal}
use Rattle.dir_records.specs.Forms.{is_account_name, is_service_name}
use Rattle.dir_records.specs.declared.refusal.DirPlace.{DirPlace}
use Rattle.dir_records.specs.declared.refusal.DirRefusal.{DirRefusal}
use Rattle.dir_text.specs.Members.{or_bad, passing, required}

abbrev pub text_of : DirPlace → Data → Result (List ℕ) DirRefusal
text_of place d = or_bad place (as_str d)

abbrev pub flag_of : DirPlace → Data → Result Bool DirRefusal
flag_of place d = or_bad place (as_bool d)

abbrev pub integer_of : Option Num → Option ℕ
integer_of None = None
integer_of (Some n) = as_u64 n

-- an integer written without sign, fraction and exponent, from low to high
unfoldable pub number_of : DirPlace → ℕ → ℕ → Data → Result ℕ DirRefusal
number_of place low high d = or_bad place (integer_of (as_number d)) >>= passing place (λ n. nat_le low n && nat_le n high)

unfoldable pub account_name_of : DirPlace → Data → Result (List ℕ) DirRefusal
account_name_of place d = text_of place d >>= passing place is_account_name

unfoldable pub realm_name_of : DirPlace → Data → Result (List ℕ) DirRefusal
realm_name_of place d = text_of place d >>= passing place is_name

unfoldable pub spn_of : DirPlace → Data → Result (List ℕ) DirRefusal
spn_of place d = text_of place d >>= passing place is_service_name

-- at most 1,024 bytes
unfoldable pub salt_of : DirPlace → Data → Result (List ℕ) DirRefusal
salt_of place d = text_of place d >>= passing place (λ salt. nat_le (length salt) 1024)

unfoldable pub sid_of : DirPlace → Data → Result SidValue DirRefusal
sid_of place d = text_of place d >>= λ text. or_bad place (result_ok (sid_reading text))

-- the SID of a realm leaves room for the number of an account
unfoldable pub realm_sid_of : DirPlace → Data → Result SidValue DirRefusal
realm_sid_of place d = sid_of place d >>= passing place (λ sid. nat_le (length sid.numbers) 14)
