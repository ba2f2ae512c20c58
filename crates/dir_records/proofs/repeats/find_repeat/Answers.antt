use Rattle.std.proofs.Common.{◌≡◌, ◌∙◌, sym, Bool, true, false, not, refl}
use Rattle.std.specs.List.{list_any}
use Rattle.std.specs.Ordering.{eq_by_cmp}
use Rattle.std.proofs.lemmas.Cmp.{eq_by_cmp_equiv}
use Rattle.dir_records.proofs.Seen.{at_repeat, past_mark}
use Rattle.dir_records.proofs.repeats.find_repeat.Goals as goal

was_there : (added there : Bool) → added ≡ not there → added ≡ false → there ≡ true
was_there added true h e = refl
was_there added false h e = absurd (cc)

was_new : (added there : Bool) → added ≡ not there → added ≡ true → there ≡ false
was_new added true h e = absurd (cc)
was_new added false h e = refl

pub returns-then-not-branch : goal.returns-then-not-branch
returns-then-not-branch g c =
    let same = eq_by_cmp g.K.Ord.cmp in
    let mark = c.mark-item.result in
    let there = was_there _ (list_any (same mark.1) c.loop-mark.seen.keys) c.in_ok-insert.ensures.added c.if-not-branch.true in
    sym (at_repeat same c.loop-mark.seen.keys c.args.marks.now c.loop-mark.mark-index mark c.loop-mark-test.true c.mark-item.is there) ∙ c.loop-mark.invariant

pub loop-mark-preserved : goal.loop-mark-preserved
loop-mark-preserved g c =
    let same = eq_by_cmp g.K.Ord.cmp in
    let mark = c.mark-item.result in
    let new = was_new _ (list_any (same mark.1) c.loop-mark.seen.keys) c.in_ok-insert.ensures.added c.if-not-branch.false in
    past_mark same (eq_by_cmp_equiv g.met.K.Ord.total) c.loop-mark.seen.keys c.insert.new.self.keys c.args.marks.now c.loop-mark.mark-index mark c.loop-mark-test.true c.mark-item.is new c.in_ok-insert.ensures.updates.0
    ∙ c.loop-mark.invariant
