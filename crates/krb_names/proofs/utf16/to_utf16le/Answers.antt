use Rattle.std.proofs.Common.{◌∙◌, ap, length, arith}
use Rattle.std.specs.Str.{chars}
use Rattle.std.proofs.lemmas.Iterator.{YieldsList-from_chars}
use Rattle.std.proofs.lemmas.Iterator.Consumers.{YieldsList-turn, YieldsList-end}
use Rattle.std.proofs.lemmas.List.{length_push}
use Rattle.kdc_prelude.proofs.Lists.{finished}
use Rattle.krb_names.specs.Utf16.{utf16le_reading}
use Rattle.krb_names.proofs.Units.{char_octets, by_chars, push_more, text_back}
use Rattle.krb_names.proofs.utf16.to_utf16le.Goals as goal

pub loop-c-preserved : goal.loop-c-preserved
loop-c-preserved c =
    let e = c.into_iter-c-iterator.ensures.into_iter_gives in
    let all = YieldsList-from_chars {s = c.into_iter-c-iterator.result} c.args.text.now c.utf8.text (cc) in
    let turn = YieldsList-turn all c.loop-c.yielded _ c.loop-c.yielded_by _ _ c.in-Some.c c.in-Some.is c.next.ensures.steps in
    rw (length_push c.loop-c.yielded c.in-Some.c) (push_more (chars c.args.text.now) c.loop-c.octets c.push_char.new.octets _ (length c.loop-c.yielded) c.in-Some.c turn.0 turn.1 c.in_ok-push_char.ensures c.loop-c.invariant)

whole : goal.returns-clause-value
whole c =
    let e = c.into_iter-c-iterator.ensures.into_iter_gives in
    let all = YieldsList-from_chars {s = c.into_iter-c-iterator.result} c.args.text.now c.utf8.text (cc) in
    let end = YieldsList-end all c.loop-c.yielded _ c.loop-c.yielded_by _ _ c.in-None.is c.next.ensures.steps in
    finished char_octets c.loop-c.octets (chars c.args.text.now) (length c.loop-c.yielded) (omega (arith, end.1)) c.loop-c.invariant
    ∙ by_chars (chars c.args.text.now)

pub returns-clause-value : goal.returns-clause-value
returns-clause-value c = whole c

pub returns-clause-exact : goal.returns-clause-exact
returns-clause-exact c = ap utf16le_reading (whole c) ∙ text_back c.args.text.now c.utf8.text
