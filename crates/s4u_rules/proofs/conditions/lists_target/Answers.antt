use Rattle.std.proofs.Common.{rules, tests}
use Rattle.std.proofs.lemmas.Iterator.{YieldsList-from_slice}
use Rattle.std.proofs.lemmas.Iterator.Search.{any_from_yields_List}
use Rattle.kdc_prelude.specs.Texts.{is_one_of}
use Rattle.s4u_rules.proofs.conditions.lists_target.Goals as goal

pub returns : goal.returns
returns c =
    any_from_yields_List (λ spn. is_one_of c.args.target.now.spns spn) _ _ _ c.any.ensures.ran (YieldsList-from_slice c.args.classic.now cc) (λ x b q k. search (rules, tests))
