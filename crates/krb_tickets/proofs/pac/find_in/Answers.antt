use Rattle.std.proofs.Common.{[], ◌∷◌, ◌++◌, List, ℕ, length, sym, ap, subst, ◌∙◌, arith}
use Rattle.std.proofs.lemmas.Bool.{eqb-true, eqb-false}
use Rattle.std.proofs.lemmas.Result.{err_from_is_err_and}
use Rattle.der_forms.specs.declared.read_fault.ReadFault.TheVariants as faults
use Rattle.der_forms.specs.Lists.{items}
use Rattle.der_forms.proofs.Loops.{goes_on, ends, is_empty, is_done, is_over}
use Rattle.krb_tickets.specs.declared.auth_item.AuthItem.{AuthItem}
use Rattle.krb_tickets.specs.AuthItem.{auth_item}
use Rattle.krb_tickets.specs.Found.{AreFound}
use Rattle.krb_tickets.specs.Pac.{pacs_in}
use Rattle.krb_tickets.proofs.Pacs.{pacs_in_more}
use Rattle.krb_tickets.proofs.pac.find_in.Goals as goal

pub returns-then-is_empty : goal.returns-then-is_empty
returns-then-is_empty c =
    let inv = c.loop.invariant in
    let here = c.args.content in (
      inv.seen,
      is_empty auth_item inv.seen (length here.bytes) c.loop.counter here.place c.loop.from ((items auth_item).reading here)
          (omega (arith, c.loop-test.true, ap length c.rest-limit.ensures)) (eqb-true _ _ (sym c.is_empty.ensures ∙ c.if-is_empty.true)) inv.so_far,
      inv.found,
    )

pub returns-in_err-element : goal.returns-in_err-element
returns-in_err-element c =
    let inv = c.loop.invariant in
    let here = c.args.content in
    let p = err_from_is_err_and c.from_residual.result c.from_residual.ensures.1 in
    rw (p.1, p.2) (ends auth_item (faults.Refused c.in_err-element.field-0.0) inv.seen (length here.bytes) c.loop.counter here.place c.loop.from ((items auth_item).reading here)
    (omega (arith, c.loop-test.true, ap length c.rest-limit.ensures)) (eqb-false _ _ (sym c.is_empty.ensures ∙ c.if-is_empty.false)) c.in_err-element.ensures inv.so_far)

pub loop-preserved : goal.loop-preserved
loop-preserved c =
    let inv = c.loop.invariant in
    let here = c.args.content in
    let x : AuthItem = record { kind = c.in_ok-element.element.kind; content = c.in_ok-element.element.content.now } in
    record {
      seen = inv.seen ++ x ∷ [];
      so_far = goes_on auth_item inv.seen (length here.bytes) c.loop.counter here.place c.loop.from c.read_lent.new.from x ((items auth_item).reading here)
          (omega (arith, c.loop-test.true, ap length c.rest-limit.ensures)) (eqb-false _ _ (sym c.is_empty.ensures ∙ c.if-is_empty.false)) c.in_ok-element.ensures inv.so_far;
      found = subst (λ (pacs : List (List ℕ)). AreFound c.and-found.result pacs) (sym (pacs_in_more inv.seen x)) (c.and-found.ensures (pacs_in inv.seen) (pacs_in (x ∷ [])) inv.found c.pac.ensures);
    }

pub returns-then-not-is_empty : goal.returns-then-not-is_empty
returns-then-not-is_empty c =
    let inv = c.loop.invariant in
    let here = c.args.content in
    let fault = c.refusal-fault.ensures in
    rw fault (is_over auth_item inv.seen (length here.bytes) c.loop.counter here.place c.loop.from ((items auth_item).reading here)
    (omega (arith, c.loop-test.false, ap length c.rest-limit.ensures)) (eqb-false _ _ (sym c.is_empty-2.ensures ∙ c.if-not-is_empty.true)) inv.so_far)

pub returns : goal.returns
returns c =
    let inv = c.loop.invariant in
    let here = c.args.content in (
      inv.seen,
      is_done auth_item inv.seen (length here.bytes) c.loop.counter here.place c.loop.from ((items auth_item).reading here)
          (omega (arith, c.loop-test.false, ap length c.rest-limit.ensures)) (eqb-true _ _ (sym c.is_empty-2.ensures ∙ c.if-not-is_empty.false)) inv.so_far,
      inv.found,
    )
