use Rattle.std.proofs.Common.{◌≡◌, ℕ, ◌<◌, ◌^◌, List, length, Option, sym, ap, subst, ◌∙◌, arith}
use Rattle.std.specs.Prelude.{IfOk, IfSome}
use Rattle.pac_buffers.specs.Buffers.{Buffer}
use Rattle.pac_buffers.proofs.Built.{few_together}
use Rattle.ticket_parts.proofs.Calls.{built_same, type_may_pass, type_passed}
use Rattle.ticket_parts.proofs.making.unsigned_pac.Goals as goal

pub build-requires-clause-few : goal.build-requires-clause-few
build-requires-clause-few c =
    few_together c.as_slice.result.now c.as_slice-2.result.now _
    (omega (arith, ap length c.as_slice.ensures, c.in_ok-logon.ensures.short))
    (omega (arith, ap length c.as_slice-2.ensures, c.in_ok-client.ensures.short))
    (subst (λ (o : Option (List ℕ)). IfSome o (λ x. length x < 2 ^ 30)) (sym c.lent.ensures) c.in_ok-delegation.ensures.short)

pub build-requires-clause-server : goal.build-requires-clause-server
build-requires-clause-server c = type_may_pass c.args.holder_key.now.etype c.sum_type.result c.sum_type.ensures

pub build-requires-clause-realm : goal.build-requires-clause-realm
build-requires-clause-realm c = type_may_pass c.args.realm_key.now.etype c.sum_type-2.result c.sum_type-2.ensures

pub returns : goal.returns
returns c =
    let is = built_same _ _ _ _ _ _ _ _ _ _ _ _
    (c.as_slice.ensures ∙ c.in_ok-logon.ensures.ok)
    (c.as_slice-2.ensures ∙ c.in_ok-client.ensures.ok)
    (c.lent.ensures ∙ c.in_ok-delegation.ensures.ok)
    c.is_service.ensures
    (type_passed c.args.holder_key.now.etype c.sum_type.result c.sum_type.ensures)
    (type_passed c.args.realm_key.now.etype c.sum_type-2.result c.sum_type-2.ensures) in
    subst (λ (bs : List Buffer). IfOk c.build.result (λ made. made ≡ bs)) is c.build.ensures.ok
