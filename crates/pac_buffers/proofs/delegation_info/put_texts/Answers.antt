use Rattle.std.proofs.Common.{List, ℕ, subst, sym, ◌∙◌}
use Rattle.std.proofs.lemmas.List.{take_all}
use Rattle.std.proofs.lemmas.List.Elements.{All-more, All-same}
use Rattle.ndr_values.specs.Texts.{text_of, head_of}
use Rattle.pac_buffers.proofs.Loops.{text_puts_on}
use Rattle.pac_buffers.proofs.delegation_info.put_texts.Goals as goal

pub loop-text-preserved : goal.loop-text-preserved
loop-text-preserved c = record {
  put = rw (c.in_ok-put_text.ensures.ok, c.as_str.ensures) (sym (text_puts_on c.args.texts.now c.loop-text.text-index c.text-item.result c.loop-text.to c.loop-text-test.true c.text-item.is) ∙ c.loop-text.invariant.put);
  fit = All-more (λ t. (text_of (head_of t)).Fits t) c.args.texts.now c.loop-text.text-index c.text-item.result c.loop-text-test.true c.loop-text.invariant.fit
      (subst (λ (t : List ℕ). (text_of (head_of t)).Fits t) (c.as_str.ensures ∙ c.text-item.is) c.in_ok-put_text.ensures.fits);
}

pub returns-clause-fits : goal.returns-clause-fits
returns-clause-fits c =
    All-same (λ t. (text_of (head_of t)).Fits t) _ _ (sym (take_all c.loop-text.text-index c.args.texts.now c.loop-text-test.false)) c.loop-text.invariant.fit
