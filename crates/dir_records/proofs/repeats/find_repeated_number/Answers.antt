use Rattle.std.proofs.Common.{◌≡◌, [], ℕ, nat_eq, arith}
use Rattle.std.specs.Ordering.{eq_by_cmp, is_eq, nat_cmp}
use Rattle.std.proofs.lemmas.Bool.Decides.{nat_tests}
use Rattle.dir_records.proofs.Distinctness.{repeat_same}
use Rattle.dir_records.proofs.repeats.find_repeated_number.Goals as goal

ties : (x y : ℕ) → is_eq (nat_cmp x y) ≡ nat_eq x y
ties x y = grind (arith, nat_tests)

pub returns : goal.returns
returns c =
    let same = repeat_same (eq_by_cmp nat_cmp) nat_eq ties [] c.args.marks.now in
    rw same at c.find_repeat.ensures
