use Rattle.std.proofs.Common.{[], ℕ, List, Bor}
use Rattle.std.specs.Cmp.Lexicographic.{slice_cmp}
use Rattle.std.specs.Ordering.{is_eq, nat_cmp}
use Rattle.std.proofs.lemmas.Map.Text.{is_eq-slice_cmp}
use Rattle.kdc_prelude.specs.Texts.{same_text}
use Rattle.dir_records.proofs.Distinctness.{repeat_by}
use Rattle.dir_records.proofs.repeats.find_repeated_octets.Goals as goal

pub returns : goal.returns
returns c =
    let same = repeat_by (λ (x y : Bor (List ℕ)). is_eq (slice_cmp nat_cmp x.now y.now)) same_text (λ octets. octets.now) (λ x y. is_eq-slice_cmp x.now y.now) [] c.args.marks.now in
    rw same at c.find_repeat.ensures
