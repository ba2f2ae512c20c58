-- A request whose body_bytes are the one spelling of its body.
use Rattle.std.proofs.Common.{◌≡◌, ℕ, ◌<◌, ◌^◌, Bool, true, false, List, length, refl, sym, ap, subst, arith}
use Rattle.std.specs.Prelude.{IfSome}
use Rattle.std.specs.List.{AllByRecursion}
use Rattle.krb_messages.specs.declared.kdc_req.KdcReq.{KdcReq}
use Rattle.der_forms.specs.KeptLaws.{spelt_fits}
use Rattle.krb_messages.specs.KdcReqBody.{kdc_req_body}
use Rattle.krb_messages.specs.KdcReq.{kdc_req, parts_of, make, respelt, msg_type_of, is_as_req}
use Rattle.krb_messages.specs.PaData.{pa_data}
use Rattle.krb_messages.specs.Laws.{kdc_req_body_lawful, kdc_req_lawful}
use Rattle.der_core.specs.Forms.{int32, number_is}

-- what a caller sees to before a request is written
pub record IsOwn (x : KdcReq) : Type 0 where
  pub kind : make (is_as_req x) (parts_of x) ≡ x  -- msg-type is 10 or 12
  pub pvno : int32.Fits x.pvno
  pub padata : IfSome x.padata (AllByRecursion pa_data.Fits)
  pub body : kdc_req_body.Fits x.req_body
  pub own : x.body_bytes ≡ kdc_req_body.spelling x.req_body
  pub short : length x.body_bytes < 2 ^ 32

type_fits : (is_as : Bool) → (number_is (msg_type_of is_as)).Fits tt
type_fits true = (refl, (record { sfits = omega arith }, refl))
type_fits false = (refl, (record { sfits = omega arith }, refl))

pub own_fits : (x : KdcReq) → IsOwn x → kdc_req.Fits x
unfolding kdc_req
own_fits x own =
    let body = spelt_fits kdc_req_body kdc_req_body_lawful x.req_body own.body (subst (λ (b : List ℕ). length b < 2 ^ 32) own.own own.short) in
    (own.kind, (own.pvno, (type_fits (is_as_req x), (own.padata, (subst (λ (b : List ℕ). kdc_req_body.IsDer b x.req_body) (sym own.own) body, tt)))))

pub own_respelt : (x : KdcReq) → IsOwn x → kdc_req.spelling x ≡ kdc_req.spelling (respelt x)
own_respelt x own = ap kdc_req.spelling (λ i. record { pvno = x.pvno; msg_type = x.msg_type; padata = x.padata; req_body = x.req_body; body_bytes = own.own i })

pub own_is : (x : KdcReq) → IsOwn x → length (kdc_req.spelling x) < 2 ^ 32 → kdc_req.IsDer (kdc_req.spelling x) x
own_is x own short = kdc_req_lawful.spelt x (own_fits x own) short
