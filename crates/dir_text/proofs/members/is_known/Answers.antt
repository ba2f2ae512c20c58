use Rattle.std.proofs.Common.{rules, tests, ◌∙◌}
use Rattle.std.proofs.lemmas.Iterator.{YieldsList-from_slice}
use Rattle.std.proofs.lemmas.Iterator.Search.{any_from_yields_List}
use Rattle.kdc_prelude.specs.Texts.{same_text}
use Rattle.kdc_prelude.proofs.Lists.{any-map}
use Rattle.dir_text.proofs.members.is_known.Goals as goal

pub returns : goal.returns
returns c =
    any_from_yields_List (λ other. same_text c.args.name.now other.now) _ _ _ c.any.ensures.ran (YieldsList-from_slice c.args.known.now cc) (λ x b q k. search (rules, tests))
    ∙ any-map (same_text c.args.name.now) (λ other. other.now) c.args.known.now
