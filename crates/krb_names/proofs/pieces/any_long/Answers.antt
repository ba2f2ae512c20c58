use Rattle.std.proofs.Common.{rules, tests, ◌∙◌}
use Rattle.std.proofs.lemmas.Iterator.{YieldsList-from_slice}
use Rattle.std.proofs.lemmas.Iterator.Search.{any_from_yields_List}
use Rattle.kdc_prelude.proofs.Lists.{any-map}
use Rattle.krb_names.specs.Pieces.{is_long}
use Rattle.krb_names.proofs.pieces.any_long.Goals as goal

pub returns : goal.returns
returns c =
    any_from_yields_List (λ piece. is_long piece.now) _ _ _ c.any.ensures.ran (YieldsList-from_slice c.args.pieces.now cc) (λ x b q k. search (rules, tests))
    ∙ any-map is_long (λ piece. piece.now) c.args.pieces.now
