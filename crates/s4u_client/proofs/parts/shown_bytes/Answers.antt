use Rattle.std.proofs.Common.{◌<◌, ◌≤◌, ◌+◌, ◌^◌, length, sym, subst, arith}
use Rattle.krb_messages.specs.declared.ap_req.ApReq.{ApReq}
use Rattle.krb_messages.specs.ApReq.{ap_req}
use Rattle.s4u_client.proofs.Forms.{shorter, shown_fits, shown_short}
use Rattle.s4u_client.proofs.parts.shown_bytes.Goals as goal

pub write-requires-clause-fits : goal.write-requires-clause-fits
write-requires-clause-fits c =
    subst ap_req.Fits (sym c.in_ok-shown.ensures.value) (shown_fits c.args.cred.now c.args.options c.args.usage c.args.random.now c.args.auth.now c.requires.cred c.ranges.options.fits)

pub write-requires-clause-short : goal.write-requires-clause-short
write-requires-clause-short c =
    let sealed = subst (λ (x : ApReq). length x.authenticator.cipher ≤ 4124) c.in_ok-shown.ensures.value c.in_ok-shown.ensures.size in
    let few = shown_short c.args.cred.now c.args.options c.args.usage c.args.random.now c.args.auth.now c.requires.cred sealed in
    subst (λ (x : ApReq). length (ap_req.spelling x) < 2 ^ 32) (sym c.in_ok-shown.ensures.value) (omega (arith, few))

pub returns-clause-short : goal.returns-clause-short
returns-clause-short c =
    let sealed = subst (λ (x : ApReq). length x.authenticator.cipher ≤ 4124) c.in_ok-shown.ensures.value c.in_ok-shown.ensures.size in
    let few = shown_short c.args.cred.now c.args.options c.args.usage c.args.random.now c.args.auth.now c.requires.cred sealed in
    shorter (2 ^ 27 + 4500) (ap_req.spelling c.in_ok-shown.shown) c.write.result c.write.ensures.ok (subst (λ (x : ApReq). length (ap_req.spelling x) ≤ 2 ^ 27 + 4500) (sym c.in_ok-shown.ensures.value) few)
