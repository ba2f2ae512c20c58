use Rattle.std.proofs.Common.{◌≡◌, ℕ, ◌+◌, ◌-◌, ◌<◌, ◌≤◌, ◌⊎◌, inl, inr, ◌&&◌, ◌||◌, Bool, false, get_or, refl, ap, ◌∙◌, arith}
use Rattle.std.specs.Prelude.{nat_le, nat_lt}
use Rattle.std.proofs.lemmas.Bool.{cases_lt, lt-ltb, le-ltb, lt-leb}
use Rattle.pac_buffers.proofs.overlap.set_marks.Goals as goal

-- where the loop ends, all marks of the range are set
whole_range : (from to i k : ℕ) → from ≤ i → to ≤ i → i ≤ from + (to - from) → (nat_le from k && nat_lt k i) ≡ (nat_le from k && nat_lt k to)
whole_range from to i k first past range =
    elim (cases_lt k from) [
      | inl lt ↦ let a : nat_le from k ≡ false = lt-leb _ _ lt in rw a refl
      | inr ge ↦
          elim (cases_lt k to) [
            | inl lt ↦
                let a = lt-ltb k i (omega arith) in
                let b = lt-ltb k to lt in
                rw (a, b) refl
            | inr past ↦
                let a = le-ltb k i (omega arith) in
                let b = le-ltb k to past in
                rw (a, b) refl
          ]
    ]

pub returns-clause-set : goal.returns-clause-set
returns-clause-set c = λ k lt.
    c.loop-k.invariant.set k (omega arith) ∙ ap (λ (t : Bool). get_or c.args.marks.now k false || t) (whole_range c.args.from c.args.to c.loop-k.k k c.loop-k.auto.k c.loop-k-test.false c.loop-k.invariant.range)
