-- PAC_SIGNATURE_DATA (MS-PAC, section 2.8): ULONG SignatureType; UCHAR Signature[12]. The types are those of RFC 3962, section 7.
use Rattle.std.specs.Prelude.{◌≡◌, ℕ, ℤ, pos, negsuc, List, ◌++◌, Result, Ok}
use Rattle.std.specs.Int.{w32}
use Rattle.ndr_core.specs.declared.refusal.NdrCause.TheVariants.{BadHeader}
use Rattle.ndr_core.specs.declared.fault.LogonFault.{LogonFault}
use Rattle.ndr_core.specs.Place.{start_of, ◌>>=◌}
use Rattle.ndr_core.specs.Layout.{Layout, field, mapped}
use Rattle.ndr_core.specs.Fields.{within, raw}
use Rattle.pac_buffers.specs.declared.signature_data.SignatureData.{SignatureData}

abbrev pub natural : ℤ → ℕ
natural (pos n) = n
natural (negsuc n) = 0

abbrev pub signature : Layout SignatureData
signature = mapped (field (within w32 15 16 BadHeader) (raw 12)) (λ p. record { sum_type = pos p.0; sum = p.1 }) (λ x. (natural x.sum_type, x.sum))

-- the value that bytes begin with
abbrev pub front_of : {X : Type 0} → Layout X → List ℕ → Result X LogonFault
front_of c bytes = c.reading (start_of bytes) >>= λ x. Ok x.0

-- the bytes begin with the value
pub record BeginsWith {X : Type 0} (c : Layout X) (bytes : List ℕ) (x : X) : Type 0 where
  pub front : List ℕ
  pub rest : List ℕ
  pub whole : bytes ≡ front ++ rest
  pub is_ndr : c.IsNdr 0 front x
