use Rattle.std.proofs.Common.{◌∙◌, sym}
use Rattle.std.proofs.lemmas.Bool.{eqb-true, eqb-false}
use Rattle.std.proofs.lemmas.Result.{err_from_is_err_and}
use Rattle.der_forms.specs.Lists.{items_at}
use Rattle.der_forms.specs.Names.{kerberos_string}
use Rattle.der_forms.proofs.Loops.{goes_on, ends, is_empty, is_done, is_over}
use Rattle.krb_tickets.proofs.name_string.read_texts.Goals as goal

pub returns-then-is_empty : goal.returns-then-is_empty
returns-then-is_empty c = record {
  exact = is_empty kerberos_string c.loop.items 8 c.loop.counter c.args.content.place c.loop.from (items_at 8 c.args.content.place kerberos_string c.args.content)
      c.loop-test.true (eqb-true _ _ (sym c.is_empty.ensures ∙ c.if-is_empty.true)) c.loop.invariant;
}

pub returns-in_err-item : goal.returns-in_err-item
returns-in_err-item c =
    let p = err_from_is_err_and c.from_residual.result c.from_residual.ensures.1 in
    record {
      exact = rw (p.1, p.2) (ends kerberos_string c.in_err-item.field-0.0 c.loop.items 8 c.loop.counter c.args.content.place c.loop.from (items_at 8 c.args.content.place kerberos_string c.args.content)
          c.loop-test.true (eqb-false _ _ (sym c.is_empty.ensures ∙ c.if-is_empty.false)) c.in_err-item.ensures.exact c.loop.invariant);
    }

pub loop-preserved : goal.loop-preserved
loop-preserved c =
    rw c.in_ok-push.ensures.ok (goes_on kerberos_string c.loop.items 8 c.loop.counter c.args.content.place c.loop.from c.read_name_text.new.from c.in_ok-item.item (items_at 8 c.args.content.place kerberos_string c.args.content)
    c.loop-test.true (eqb-false _ _ (sym c.is_empty.ensures ∙ c.if-is_empty.false)) c.in_ok-item.ensures.exact c.loop.invariant)

pub returns-then-not-is_empty : goal.returns-then-not-is_empty
returns-then-not-is_empty c =
    let fault = c.refusal-fault.ensures in
    record {
      exact = rw fault (is_over kerberos_string c.loop.items 8 c.loop.counter c.args.content.place c.loop.from (items_at 8 c.args.content.place kerberos_string c.args.content)
          c.loop-test.false (eqb-false _ _ (sym c.is_empty-2.ensures ∙ c.if-not-is_empty.true)) c.loop.invariant);
    }

pub returns : goal.returns
returns c = record {
  exact = is_done kerberos_string c.loop.items 8 c.loop.counter c.args.content.place c.loop.from (items_at 8 c.args.content.place kerberos_string c.args.content)
      c.loop-test.false (eqb-true _ _ (sym c.is_empty-2.ensures ∙ c.if-not-is_empty.false)) c.loop.invariant;
}
