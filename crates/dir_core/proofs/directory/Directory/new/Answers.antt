use Rattle.std.proofs.Common.{◌≡◌, refl, subst}
use Rattle.kdc_prelude.specs.Answers.{Answers}
use Rattle.kdc_prelude.specs.Results.{unless_refused}
use Rattle.dir_records.specs.DirectoryValue.{DirectoryValue}
use Rattle.dir_records.specs.WellFormed.{first_refusal, no_memory, unchanged}
use Rattle.dir_core.proofs.directory.Directory.new.Goals as goal

pub returns : goal.returns
returns c =
    let contents : DirectoryValue = record { realms = c.from_vec.result; spent_keys = c.new.result; spent_numbers = c.new-2.result } in
    let same : contents ≡ unchanged c.args.realms.items = rw (c.from_vec.ensures, c.new.ensures, c.new-2.ensures) refl in
    subst (λ (made : DirectoryValue). Answers no_memory c.of_contents.result (unless_refused (first_refusal made) made)) same c.of_contents.ensures
