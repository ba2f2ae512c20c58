-- A request that was read can be written, and its body is of bytes.
use Rattle.std.proofs.Common.{◌≡◌, ◌*◌, ◌≤◌, Bool, true, false, List, [], ◌∷◌, ◌++◌, ℕ, length, Option, Some, None, Result, Ok, Err, sym, ap, subst}
use Rattle.std.specs.Prelude.{if◌then◌else◌}
use Rattle.std.specs.List.{AllByRecursion}
use Rattle.der_core.specs.declared.refusal.DerRefusal.{DerRefusal}
use Rattle.der_core.specs.Codec.{Codec, whole}
use Rattle.der_core.specs.CodecLaws.{IsBytes-content, alone_lawful}
use Rattle.der_core.specs.Forms.{int32, number_is, octets}
use Rattle.der_core.specs.Laws.{IsBytes}
use Rattle.der_core.specs.Steps.{IsBytes-front, IsBytes-rest}
use Rattle.der_forms.specs.Choices.{tag_in}
use Rattle.der_forms.specs.Fields.{Are, Fields, IsOptional, optional}
use Rattle.der_forms.specs.Kept.{kept}
use Rattle.der_forms.specs.Lists.{AreItems, sequence_of}
use Rattle.ticket_laws.proofs.Bytes.{Keeps, end_keeps, field_keeps, field_passed, octets_keep}
use Rattle.krb_messages.specs.declared.kdc_req.KdcReq.{KdcReq}
use Rattle.krb_messages.specs.declared.kdc_req_body.KdcReqBody.{KdcReqBody}
use Rattle.krb_messages.specs.declared.pa_data.PaData.{PaData}
use Rattle.krb_messages.specs.KdcReq.{is_as_req, kdc_req, msg_type_of}
use Rattle.krb_messages.specs.KdcReq as request_form
use Rattle.krb_messages.specs.KdcReqBody.{kdc_req_body}
use Rattle.krb_messages.specs.Laws.{kdc_req_lawful}
use Rattle.krb_messages.specs.PaData.{pa_data}
use Rattle.as_core.specs.Stamps.{items_of}
use Rattle.tgs_core.specs.Requests.{is_within_limit, message_in, message_told}

some_is : {X : Type 0} (x y : X) → Some x ≡ Some y → x ≡ y
some_is x y e = cc

pub told_some : (r : Result KdcReq DerRefusal) (req : KdcReq) → message_told r ≡ Some req → r ≡ Ok req
told_some (Ok read) req e = ap (λ (x : KdcReq). let made : Result KdcReq DerRefusal = Ok x in made) (some_is read req e)
told_some (Err refusal) req e = absurd cc

pub within_some : (b : Bool) (found : Option KdcReq) (req : KdcReq) → (if b then found else None) ≡ Some req → found ≡ Some req
within_some true found req e = e
within_some false found req e = absurd cc

-- the body's bytes are those that were read
kept_keeps : (bytes : List ℕ) (x : KdcReqBody × List ℕ) → IsBytes bytes → (kept kdc_req_body).IsDer bytes x → IsBytes x.1
kept_keeps bytes x h d = subst IsBytes (sym d.1) h

-- ---- padata

abbrev pub AreOfBytes : List PaData → Type 0
AreOfBytes items = AllByRecursion (λ item. IsBytes item.padata_value) items

-- both parts of bytes are bytes
pub halves : {Front Rest : List ℕ → Type 0} (bytes : List ℕ) (d : Are Front Rest bytes) → IsBytes bytes → IsBytes d.front × IsBytes d.rest
halves bytes d h =
    let all : IsBytes (d.front ++ d.rest) = subst IsBytes d.whole h in
    (IsBytes-front d.front d.rest all, IsBytes-rest d.front d.rest all)

item_keeps : (bytes : List ℕ) (x : PaData) → IsBytes bytes → pa_data.IsDer bytes x → IsBytes x.padata_value
item_keeps bytes x h d =
    let fields = field_passed 1 int32 _ _ (field_keeps 2 octets _ _ _ octets_keep end_keeps) in
    let own = fields.keeps d.content d.inside.parts (IsBytes-content 48 bytes d.content h d.outside) d.inside.spelt in
    subst (λ (x : PaData). IsBytes x.padata_value) d.inside.made own.0

items_keep : (bytes : List ℕ) (items : List PaData) → IsBytes bytes → AreItems pa_data.IsDer bytes items → AreOfBytes items
items_keep bytes [] h d = tt
items_keep bytes (x ∷ xs) h d = let parts = halves bytes d h in (item_keeps d.front x parts.0 d.first, items_keep d.rest xs parts.1 d.second)

padata_keep : (bytes : List ℕ) (padata : Option (List PaData)) → IsBytes bytes → IsOptional 3 (sequence_of pa_data) bytes padata → AreOfBytes (items_of padata)
padata_keep bytes None h d = tt
padata_keep bytes (Some items) h d =
    let element = IsBytes-content 163 bytes d.content h d.outside in
    items_keep d.inside.content items (IsBytes-content 48 d.content d.inside.content element d.inside.outside) d.inside.inside

pub optional_keeps : {X Y : Type 0} (k : ℕ) (c : Codec X) (more : Fields Y) (P : Option X → Type 0) (Q : Y → Type 0) → ((bytes : List ℕ) (x : Option X) → IsBytes bytes → IsOptional k c bytes x → P x)
    → Keeps more Q → Keeps (optional k c more) (λ x. P x.0 × Q x.1)
optional_keeps k c more P Q one rest = record {
  keeps = λ bytes x h d. let parts = halves bytes d h in (one d.front x.0 parts.0 d.first, rest.keeps d.rest x.1 parts.1 d.second);
}

-- ---- the message

message_keeps : (is_as : Bool) → Keeps (request_form.parts is_as) (λ x. AreOfBytes (items_of x.1.1.0) × (IsBytes x.1.1.1.0.1 × Unit {0}))
message_keeps is_as =
    field_passed 1 int32 _ _ (
    field_passed 2 (number_is (msg_type_of is_as)) _ _ (
    optional_keeps 3 (sequence_of pa_data) _ (λ padata. AreOfBytes (items_of padata)) _ padata_keep (
    field_keeps 4 (kept kdc_req_body) _ _ _ kept_keeps
    end_keeps)))

pub record IsRead (req : KdcReq) : Type 0 where
  pub fits : kdc_req.Fits req
  pub bytes : IsBytes req.body_bytes
  pub octets : AreOfBytes (items_of req.padata)

-- what was read of bytes
pub record IsTold (bytes : List ℕ) (req : KdcReq) : Type 0 where
  pub read : IsRead req
  pub no_longer : length (kdc_req.spelling req) ≤ 3 * length bytes

pub message_is_told : (bytes : List ℕ) (req : KdcReq) → IsBytes bytes → message_in bytes ≡ Some req → IsTold bytes req
unfolding message_in kdc_req
message_is_told bytes req h e =
    let read = told_some (whole kdc_req bytes) req (within_some (is_within_limit bytes) (message_told (whole kdc_req bytes)) req e) in
    let d = (alone_lawful kdc_req kdc_req_lawful).found (record { place = 0; bytes = bytes }) req h read in
    let sequence = IsBytes-content (tag_in 0x6a 0x6c (is_as_req req)) bytes d.content h d.outside in
    let fields = IsBytes-content 48 d.content d.inside.content sequence d.inside.outside in
    let made = d.inside.inside in
    let own = (message_keeps (is_as_req req)).keeps d.inside.content made.parts fields made.spelt in
    record {
      read = record {
        fits = kdc_req_lawful.fits bytes req h d;
        bytes = subst (λ (x : KdcReq). IsBytes x.body_bytes) made.made own.1.0;
        octets = subst (λ (x : KdcReq). AreOfBytes (items_of x.padata)) made.made own.0;
      };
      no_longer = kdc_req_lawful.no_longer bytes req h d;
    }
