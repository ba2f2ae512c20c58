use Rattle.std.proofs.Common.{rules, tests}
use Rattle.std.proofs.lemmas.Iterator.{YieldsList-from_slice}
use Rattle.std.proofs.lemmas.Iterator.Search.{any_from_yields_List}
use Rattle.kdc_prelude.specs.Texts.{same_text}
use Rattle.dir_core.proofs.lookups.has_text.Goals as goal

pub returns : goal.returns
returns c =
    any_from_yields_List (same_text c.args.wanted.now) _ _ _ c.any.ensures.ran (YieldsList-from_slice c.args.texts.now cc) (λ x b q k. search (rules, tests))
