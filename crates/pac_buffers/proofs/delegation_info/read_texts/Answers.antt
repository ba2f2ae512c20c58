use Rattle.std.proofs.lemmas.Result.{err_from_is_err_and}
use Rattle.ndr_core.specs.Arrays.{each_at}
use Rattle.ndr_values.specs.Texts.{text_of}
use Rattle.pac_buffers.proofs.Loops.{text_goes_on, text_ends, texts_done}
use Rattle.pac_buffers.proofs.delegation_info.read_texts.Goals as goal

pub returns-in_err-text : goal.returns-in_err-text
returns-in_err-text c =
    let p = err_from_is_err_and c.from_residual.result c.from_residual.ensures.1 in
    rw (p.1, p.2) (text_ends c.loop-head.texts c.args.heads.now c.loop-head.head-index _ c.loop-head.from c.in_err-text.field-0.0 (each_at text_of c.args.heads.now c.args.from.now) c.loop-head-test.true c.in_err-text.ensures.exact c.loop-head.invariant)

pub loop-head-preserved : goal.loop-head-preserved
loop-head-preserved c =
    rw c.in_ok-push.ensures.ok (text_goes_on c.loop-head.texts c.args.heads.now c.loop-head.head-index _ c.loop-head.from c.read_text.new.from c.in_ok-text.text (each_at text_of c.args.heads.now c.args.from.now) c.loop-head-test.true c.in_ok-text.ensures.exact c.loop-head.invariant)

pub returns : goal.returns
returns c = texts_done c.loop-head.texts c.args.heads.now c.loop-head.head-index c.loop-head.from (each_at text_of c.args.heads.now c.args.from.now) c.loop-head-test.false c.loop-head.invariant
