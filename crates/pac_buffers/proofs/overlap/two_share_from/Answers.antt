use Rattle.std.proofs.Common.{◌≡◌, ℕ, ◌+◌, ◌*◌, ◌<◌, ◌≤◌, ◌&&◌, List, Bool, true, false, [], length, take, get_or, refl, sym, ap, ◌∙◌, arith, rules}
use Rattle.std.specs.Prelude.{nat_le, nat_lt}
use Rattle.std.proofs.lemmas.Bool.{and_from, le-leb, lt-ltb}
use Rattle.std.proofs.lemmas.List.{get_or-replicate}
use Rattle.pac_buffers.specs.declared.info_buffer.InfoBuffer.{InfoBuffer}
use Rattle.pac_buffers.specs.InfoBuffers.{info_buffer, end_of}
use Rattle.pac_buffers.specs.Container.{any_entry}
use Rattle.pac_buffers.specs.SharedBytes.{has_byte}
use Rattle.pac_buffers.proofs.Marks.{marks_are, marked_more, shared_more, found_overlap, not_earlier, pairs_more}
use Rattle.pac_buffers.proofs.overlap.two_share_from.Goals as goal

pub loop-raw-init : goal.loop-raw-init
loop-raw-init c = record {
  many = omega (arith, ap length c.no_marks-marks.ensures);
  marked = λ k lt. ap (λ (l : List Bool). get_or l k false) c.no_marks-marks.ensures ∙ get_or-replicate 16384 k false false lt;
  pairs = λ some. some;
  shared = λ k lt. refl;
}

pub returns-then-not-set_marks-clause-shared : goal.returns-then-not-set_marks-clause-shared
returns-then-not-set_marks-clause-shared c =
    let k : ℕ = c.if-not-set_marks.ensures.shared.0 in
    let ge : c.marks_before-from.result ≤ k = c.if-not-set_marks.ensures.shared.1 in
    let lt : k < c.marks_before-to.result = c.if-not-set_marks.ensures.shared.2 in
    let set : get_or c.loop-raw.marks k false ≡ true = c.if-not-set_marks.ensures.shared.3 in
    let i : ℕ = c.loop-raw.raw-index in
    let list : List (List ℕ) = c.args.list.now in
    let place : ℕ = c.args.start + 8 * k in
    let few : k < 16384 = omega (arith, c.marks_before-to.ensures.within) in
    let first : nat_lt k c.marks_before-from.result ≡ nat_lt place c.read-buffer.result.offset = c.marks_before-from.ensures.exact k few in
    let second : nat_lt k c.marks_before-to.result ≡ nat_lt place (end_of c.read-buffer.result) = c.marks_before-to.ensures.exact k few ∙ ap (nat_lt place) c.end.ensures in
    let own : has_byte place (info_buffer (get_or list i [])) ≡ true =
    sym (ap (has_byte place) c.read-buffer.ensures) ∙ sym (marks_are c.read-buffer.result place c.marks_before-from.result c.marks_before-to.result k first second) ∙ and_from _ _ (le-leb _ _ ge) (lt-ltb _ _ lt) in
    c.loop-raw.invariant.pairs (found_overlap place i [] list c.loop-raw-test.true own (sym (c.loop-raw.invariant.marked k few) ∙ set))

pub loop-raw-preserved : goal.loop-raw-preserved
loop-raw-preserved c =
    let i : ℕ = c.loop-raw.raw-index in
    let list : List (List ℕ) = c.args.list.now in
    let lt : i < length list = c.loop-raw-test.true in
    let first : (k : ℕ) → k < 16384 → nat_lt k c.marks_before-from.result ≡ nat_lt (c.args.start + 8 * k) c.read-buffer.result.offset = c.marks_before-from.ensures.exact in
    let second : (k : ℕ) → k < 16384 → nat_lt k c.marks_before-to.result ≡ nat_lt (c.args.start + 8 * k) (end_of c.read-buffer.result) =
    λ k few. c.marks_before-to.ensures.exact k few ∙ ap (nat_lt (c.args.start + 8 * k)) c.end.ensures in
    record {
      many = c.set_marks.auto.marks ∙ c.loop-raw.invariant.many;
      marked = λ k few. marked_more (c.args.start + 8 * k) i [] list (get_or c.loop-raw.marks k false) (get_or c.set_marks.new.marks k false) (nat_le c.marks_before-from.result k && nat_lt k c.marks_before-to.result) lt
          (c.loop-raw.invariant.marked k few)
          (marks_are c.read-buffer.result (c.args.start + 8 * k) c.marks_before-from.result c.marks_before-to.result k (first k few) (second k few) ∙ ap (has_byte (c.args.start + 8 * k)) c.read-buffer.ensures)
          (c.if-not-set_marks.ensures.set k (omega (arith, c.loop-raw.invariant.many, few)));
      pairs = λ more. c.loop-raw.invariant.pairs (pairs_more i [] list lt more);
      shared = λ k few. sym (shared_more (c.args.start + 8 * k) i [] list lt
          (ap (λ (e : InfoBuffer). has_byte (c.args.start + 8 * k) e && any_entry (has_byte (c.args.start + 8 * k)) (take i list)) (sym c.read-buffer.ensures)
          ∙ not_earlier c.read-buffer.result (c.args.start + 8 * k) c.marks_before-from.result c.marks_before-to.result k (get_or c.loop-raw.marks k false) (any_entry (has_byte (c.args.start + 8 * k)) (take i list)) (first k few) (second k few) (c.if-not-set_marks.ensures.apart k) (c.loop-raw.invariant.marked k few)))
          ∙ c.loop-raw.invariant.shared k few;
    }
