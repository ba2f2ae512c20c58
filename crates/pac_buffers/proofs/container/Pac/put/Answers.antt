use Rattle.std.proofs.Common.{◌≡◌, Bool, true, false, ◌&&◌, List, length, take, drop, ◌++◌, refl, sym, ap, subst, ◌∙◌, rules}
use Rattle.std.proofs.lemmas.List.{take_at}
use Rattle.pac_buffers.specs.Buffers.{Buffer, pac, buffers_of, with_sum, is_signature, IsSound}
use Rattle.pac_buffers.proofs.Contents.{buffers_again}
use Rattle.pac_buffers.proofs.Sums.{put_writes, none_there, some_there, sum_sound, length-sum}
use Rattle.pac_buffers.proofs.container.Pac.put.Goals as goal

second_fails : (a b : Bool) → b ≡ false → false ≡ (a && b)
second_fails true b e = sym e
second_fails false b e = refl

both_hold : (a b : Bool) → a ≡ true → b ≡ true → true ≡ (a && b)
both_hold true b e f = sym f
both_hold false b e f = absurd cc

pub returns-in_default-clause-done : goal.returns-in_default-clause-done
returns-in_default-clause-done c =
    let sound : IsSound c.args.self.now = subst IsSound c.self.view_is c.self.invariant.sound in
    second_fails (is_signature c.args.kind) _ (none_there c.args.kind c.args.self.now sound (sym c.in_default.is ∙ c.place.ensures.exact))

pub returns-clause-done : goal.returns-clause-done
returns-clause-done c =
    let sound : IsSound c.args.self.now = subst IsSound c.self.view_is c.self.invariant.sound in
    let signature : is_signature c.args.kind ≡ true = sym c.is_signature.ensures ∙ c.if-not-is_signature.false in
    both_hold _ _ signature (some_there c.args.kind c.args.self.now c.in-Some.field-0 sound (sym c.in-Some.is ∙ c.place.ensures.exact))

pub invariant_of-self : goal.invariant_of-self
invariant_of-self c =
    let bs : List Buffer = c.args.self.now in
    let sound : IsSound bs = subst IsSound c.self.view_is c.self.invariant.sound in
    let signature : is_signature c.args.kind ≡ true = sym c.is_signature.ensures ∙ c.if-not-is_signature.false in
    let twelve : length c.args.sum.now ≡ 12 = search rules in
    let own : c.self.inside.bytes.items ≡ pac bs = sym c.self.invariant.spelt ∙ ap pac c.self.view_is in
    let new : c.write_sum.new.bytes ≡ pac (with_sum c.args.kind c.args.sum.now bs) =
    put_writes c.args.kind c.args.sum.now c.deref_mut.result.now c.write_sum.new.bytes bs c.in-Some.field-0 sound signature twelve (c.deref_mut.ensures.value ∙ own) (sym c.in-Some.is ∙ c.place.ensures.exact) c.write_sum.ensures in
    let sized : length c.write_sum.new.bytes ≡ c.self.inside.bytes.len = ap length new ∙ length-sum c.args.kind c.args.sum.now bs sound signature twelve ∙ sym (ap length own) ∙ sym c.self.inside.bytes.ok.0 in
    let whole : take c.self.inside.bytes.len (c.write_sum.new.bytes ++ drop (length c.write_sum.new.bytes) c.self.inside.bytes.items) ≡ pac (with_sum c.args.kind c.args.sum.now bs) = take_at c.write_sum.new.bytes _ _ sized ∙ new in
    let kept : IsSound (with_sum c.args.kind c.args.sum.now bs) = sum_sound c.args.kind c.args.sum.now bs sound signature twelve in
    let again = ap buffers_of whole ∙ buffers_again (with_sum c.args.kind c.args.sum.now bs) kept in
    record { spelt = ap pac again ∙ sym whole; sound = subst IsSound (sym again) kept }

pub returns-clause-value : goal.returns-clause-value
returns-clause-value c =
    let bs : List Buffer = c.args.self.now in
    let sound : IsSound bs = subst IsSound c.self.view_is c.self.invariant.sound in
    let signature : is_signature c.args.kind ≡ true = sym c.is_signature.ensures ∙ c.if-not-is_signature.false in
    let twelve : length c.args.sum.now ≡ 12 = search rules in
    let own : c.self.inside.bytes.items ≡ pac bs = sym c.self.invariant.spelt ∙ ap pac c.self.view_is in
    let new : c.write_sum.new.bytes ≡ pac (with_sum c.args.kind c.args.sum.now bs) =
    put_writes c.args.kind c.args.sum.now c.deref_mut.result.now c.write_sum.new.bytes bs c.in-Some.field-0 sound signature twelve (c.deref_mut.ensures.value ∙ own) (sym c.in-Some.is ∙ c.place.ensures.exact) c.write_sum.ensures in
    let sized : length c.write_sum.new.bytes ≡ c.self.inside.bytes.len = ap length new ∙ length-sum c.args.kind c.args.sum.now bs sound signature twelve ∙ sym (ap length own) ∙ sym c.self.inside.bytes.ok.0 in
    let whole : take c.self.inside.bytes.len (c.write_sum.new.bytes ++ drop (length c.write_sum.new.bytes) c.self.inside.bytes.items) ≡ pac (with_sum c.args.kind c.args.sum.now bs) = take_at c.write_sum.new.bytes _ _ sized ∙ new in
    let kept : IsSound (with_sum c.args.kind c.args.sum.now bs) = sum_sound c.args.kind c.args.sum.now bs sound signature twelve in
    ap buffers_of whole ∙ buffers_again (with_sum c.args.kind c.args.sum.now bs) kept
