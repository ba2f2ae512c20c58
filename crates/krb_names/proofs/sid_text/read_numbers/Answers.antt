use Rattle.std.proofs.Common.{◌<◌, ◌≡◌, length, arith, lit<, sym}
use Rattle.std.proofs.lemmas.Iterator.Consumers.{YieldsList-turn, YieldsList-end}
use Rattle.std.proofs.lemmas.Iterator.Splits.{YieldsList-from_str_split}
use Rattle.std.proofs.lemmas.List.{length_push}
use Rattle.std.proofs.lemmas.List.Splits.{length-slice_split}
use Rattle.krb_names.specs.SidTexts.{hyphen_pieces}
use Rattle.krb_names.proofs.SidTexts.{hyphen, too_many, bad_number, good_number, all_read}
use Rattle.krb_names.proofs.sid_text.read_numbers.Goals as goal

pub returns-then-count-eq-MOST_NUMBERS-clause-value :
    goal.returns-then-count-eq-MOST_NUMBERS-clause-value
returns-then-count-eq-MOST_NUMBERS-clause-value c =
    let e = c.into_iter-piece-iterator.ensures.into_iter_gives in
    let pieces = YieldsList-from_str_split {s = c.into_iter-piece-iterator.result} 45 c.args.text.now (lit< tt) (cc) (cc) (cc) in
    let turn = YieldsList-turn pieces c.loop-piece.yielded _ c.loop-piece.yielded_by _ _ c.in-Some.piece c.in-Some.is c.next.ensures.steps in
    too_many (hyphen_pieces c.args.text.now) (omega (arith, turn.0, c.loop-piece.invariant.counted))

pub returns-in-None-parse_decimal-clause-value : goal.returns-in-None-parse_decimal-clause-value
returns-in-None-parse_decimal-clause-value c =
    let e = c.into_iter-piece-iterator.ensures.into_iter_gives in
    let pieces = YieldsList-from_str_split {s = c.into_iter-piece-iterator.result} 45 c.args.text.now (lit< tt) (cc) (cc) (cc) in
    let turn = YieldsList-turn pieces c.loop-piece.yielded _ c.loop-piece.yielded_by _ _ c.in-Some.piece c.in-Some.is c.next.ensures.steps in
    let at = rw (sym c.loop-piece.invariant.counted) at turn in
    bad_number (hyphen_pieces c.args.text.now) c.loop-piece.count c.loop-piece.numbers c.in-Some.piece.now c.loop-piece.invariant.read at.0 at.1 (cc)

pub loop-piece-preserved : goal.loop-piece-preserved
loop-piece-preserved c =
    let e = c.into_iter-piece-iterator.ensures.into_iter_gives in
    let pieces = YieldsList-from_str_split {s = c.into_iter-piece-iterator.result} 45 c.args.text.now (lit< tt) (cc) (cc) (cc) in
    let turn = YieldsList-turn pieces c.loop-piece.yielded _ c.loop-piece.yielded_by _ _ c.in-Some.piece c.in-Some.is c.next.ensures.steps in
    let at = rw (sym c.loop-piece.invariant.counted) at turn in
    let few : c.loop-piece.count < 15 = omega (arith, c.loop-piece.invariant.read.few) in
    record {
      counted = omega (arith, length_push c.loop-piece.yielded c.in-Some.piece, c.loop-piece.invariant.counted);
      read = good_number (hyphen_pieces c.args.text.now) c.loop-piece.count c.loop-piece.numbers c.in-Some.piece.now c.in-Some-parse_decimal.number c.loop-piece.invariant.read at.0 few at.1 (cc);
    }

pub returns-clause-value : goal.returns-clause-value
returns-clause-value c =
    let e = c.into_iter-piece-iterator.ensures.into_iter_gives in
    let pieces = YieldsList-from_str_split {s = c.into_iter-piece-iterator.result} 45 c.args.text.now (lit< tt) (cc) (cc) (cc) in
    let end = YieldsList-end pieces c.loop-piece.yielded _ c.loop-piece.yielded_by _ _ c.in-None.is c.next.ensures.steps in
    let count : c.loop-piece.count ≡ length (hyphen_pieces c.args.text.now) = omega (arith, end.1, c.loop-piece.invariant.counted) in
    all_read (hyphen_pieces c.args.text.now) c.loop-piece.count c.loop-piece.numbers c.loop-piece.invariant.read count (omega (arith, length-slice_split hyphen c.args.text.now))
