use Rattle.std.proofs.Common.{ℤ, sym, ap, ◌∙◌, subst}
use Rattle.std.proofs.lemmas.Int.{to_z-of_z}
use Rattle.std.specs.Int.{w64}
use Rattle.der_forms.specs.Values.{nonce as nonce_number}
use Rattle.tgs_core.specs.Grants.{Grant}
use Rattle.tgs_core.proofs.FoundGrants.{wish_nonce}
use Rattle.tgs_core.proofs.grant.GrantView.nonce.Goals as goal

pub returns : goal.returns
returns c =
    let message = c.self.inside.req.now in
    let fits = subst (λ (n : ℤ). nonce_number.Fits (record { 0 = n })) (wish_nonce message) c.self.invariant.nonce in
    to_z-of_z w64 message.req_body.nonce fits.1.0 ∙ sym (wish_nonce message) ∙ ap (λ (g : Grant). g.request.wish.nonce) c.self.view_is
