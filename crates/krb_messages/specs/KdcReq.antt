-- AS-REQ ::= [APPLICATION 10] KDC-REQ, TGS-REQ ::= [APPLICATION 12] KDC-REQ (RFC 4120, section 5.4.1); msg-type is the tag's number.
use Rattle.std.specs.Prelude.{ℕ, ℤ, pos, negsuc, List, Option, Bool, false, nat_eq, if◌then◌else◌}
use Rattle.der_core.specs.Codec.{Codec}
use Rattle.der_core.specs.Forms.{int32, number_is}
use Rattle.der_forms.specs.Fields.{Fields, end, field, optional, made, sequence}
use Rattle.der_forms.specs.Lists.{sequence_of}
use Rattle.krb_messages.specs.declared.kdc_req.KdcReq.{KdcReq}
use Rattle.krb_messages.specs.declared.kdc_req_body.KdcReqBody.{KdcReqBody}
use Rattle.krb_messages.specs.declared.pa_data.PaData.{PaData}
use Rattle.der_forms.specs.Choices.{choice}
use Rattle.der_forms.specs.Kept.{kept}
use Rattle.krb_messages.specs.KdcReqBody.{kdc_req_body}
use Rattle.krb_messages.specs.PaData.{pa_data}

abbrev pub Parts : Type 0
Parts = ℤ × (Unit {0} × (Option (List PaData) × ((KdcReqBody × List ℕ) × Unit {0})))

-- of an AS-REQ, or of a TGS-REQ
abbrev pub msg_type_of : Bool → ℤ
msg_type_of is_as = if is_as then pos 10 else pos 12

abbrev pub parts : Bool → Fields Parts
parts is_as =
    field 1 int32 (
    field 2 (number_is (msg_type_of is_as)) (
    optional 3 (sequence_of pa_data) (
    field 4 (kept kdc_req_body)
    end)))

abbrev pub make : Bool → Parts → KdcReq
make is_as (pvno, (_, (padata, (body, _)))) = record { pvno = pvno; msg_type = msg_type_of is_as; padata = padata; req_body = body.0; body_bytes = body.1 }

abbrev pub parts_of : KdcReq → Parts
parts_of x = (x.pvno, (tt, (x.padata, ((x.req_body, x.body_bytes), tt))))

abbrev pub fields : Bool → Fields KdcReq
fields is_as = made (parts is_as) (make is_as) parts_of

abbrev pub is_ten : ℤ → Bool
is_ten (pos n) = nat_eq n 10
is_ten (negsuc n) = false

abbrev pub is_as_req : KdcReq → Bool
is_as_req x = is_ten x.msg_type

unfoldable pub kdc_req : Codec KdcReq
kdc_req = choice 0x6a 0x6c is_as_req (λ is_as. sequence (fields is_as))

-- with the body in the one spelling of its fields
abbrev pub respelt : KdcReq → KdcReq
respelt x = record { pvno = x.pvno; msg_type = x.msg_type; padata = x.padata; req_body = x.req_body; body_bytes = kdc_req_body.spelling x.req_body }
