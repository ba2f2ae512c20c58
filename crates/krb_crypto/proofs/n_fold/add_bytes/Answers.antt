use Rattle.std.proofs.Common.{◌≡◌, ℕ, ◌+◌, ◌-◌, ◌*◌, ◌/◌, ◌%◌, ◌^◌, ◌<◌, List, length, take, drop, get_or, set, arith, sym, ◌∙◌, subst, refl, []}
use Rattle.aes_core.specs.Inverses.{AreBytes}
use Rattle.std.proofs.lemmas.List.{length-set, length-take-le, get_or-take, drop_all}
use Rattle.krb_crypto.specs.BytesValue.{bytes_value}
use Rattle.krb_crypto.proofs.ByteSums.{sum_more, bytes_more}
use Rattle.krb_crypto.proofs.n_fold.add_bytes.Goals as goal

pub loop-k-preserved : goal.loop-k-preserved
loop-k-preserved c =
    let s0 : List ℕ = c.args.sum.now in
    let n : ℕ = length s0 in
    let k : ℕ = c.loop-k.k in
    let i : ℕ = n - 1 - k in
    let a : List ℕ = take n c.args.addend.now in
    let below : k < n = c.loop-k-test.true in
    let la : length a ≡ n = length-take-le n c.args.addend.now (omega arith) in
    let up : n - k ≡ i + 1 = omega arith in
    let down : n - (k + 1) ≡ i = omega arith in
    let t : ℕ = c.from.result + c.from-in-loop-k.result + c.from-in-loop-k-2.result in
    let power : n - (i + 1) ≡ k = omega arith in
    let wide : n - i ≡ k + 1 = omega arith in
    let read : get_or a i 0 ≡ get_or c.args.addend.now i 0 = get_or-take n c.args.addend.now i 0 (omega arith) in
    let total : t ≡ get_or c.loop-k.sum i 0 + get_or a i 0 + c.loop-k.carry = λ j. c.from.ensures j + (c.from-in-loop-k.ensures ∙ sym read) j + c.from-in-loop-k-2.ensures j in
    let step = sum_more c.loop-k.sum s0 a i c.loop-k.carry c.args.carry t c.loop-k.invariant.0 la (omega arith)
    ((λ j. take (sym up j) c.loop-k.sum) ∙ c.loop-k.invariant.2 ∙ (λ j. take (up j) s0))
    ((λ j. bytes_value (drop (sym up j) c.loop-k.sum) + c.loop-k.carry * 256 ^ power j) ∙ c.loop-k.invariant.3 ∙ (λ j. bytes_value (drop (up j) s0) + bytes_value (drop (up j) a) + c.args.carry))
    total in (
      length-set c.loop-k.sum i (t % 256) ∙ c.loop-k.invariant.0,
      omega arith,
      (λ j. take (down j) (set c.loop-k.sum i (t % 256))) ∙ step.0 ∙ (λ j. take (sym down j) s0),
      (λ j. bytes_value (drop (down j) (set c.loop-k.sum i (t % 256))) + t / 256 * 256 ^ sym wide j) ∙ step.1 ∙ (λ j. bytes_value (drop (sym down j) s0) + bytes_value (drop (sym down j) a) + c.args.carry),
      subst (λ p. AreBytes (drop p (set c.loop-k.sum i (t % 256)))) (sym down) (bytes_more c.loop-k.sum i t (omega arith) (subst (λ p. AreBytes (drop p c.loop-k.sum)) up c.loop-k.invariant.4)),
    )

pub returns-clause-bytes : goal.returns-clause-bytes
returns-clause-bytes c =
    let none : length c.args.sum.now - c.loop-k.k ≡ 0 = omega arith in
    subst (λ p. AreBytes (drop p c.loop-k.sum)) none c.loop-k.invariant.4

pub loop-k-init : goal.loop-k-init
loop-k-init c =
    let s0 : List ℕ = c.args.sum.now in
    let n : ℕ = length s0 in
    let a : List ℕ = take n c.args.addend.now in
    let la : length a ≡ n = length-take-le n c.args.addend.now (omega arith) in
    let at : n - 0 ≡ n = omega arith in
    let ends : drop (n - 0) s0 ≡ [] = (λ j. drop (at j) s0) ∙ drop_all n s0 (omega arith) in
    let ends_a : drop (n - 0) a ≡ [] = (λ j. drop (at j) a) ∙ drop_all n a (omega arith) in (
      refl,
      c.requires.low,
      refl,
      (λ j. bytes_value (ends j) + c.args.carry * 1) ∙ omega arith ∙ (λ j. bytes_value (sym ends j) + bytes_value (sym ends_a j) + c.args.carry),
      subst AreBytes (sym ends) tt,
    )
