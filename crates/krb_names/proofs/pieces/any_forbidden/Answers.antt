use Rattle.std.proofs.Common.{rules, tests, ◌∙◌}
use Rattle.std.proofs.lemmas.Iterator.{YieldsList-from_slice}
use Rattle.std.proofs.lemmas.Iterator.Search.{any_from_yields_List}
use Rattle.kdc_prelude.proofs.Lists.{any-map}
use Rattle.krb_names.specs.Pieces.{has_forbidden}
use Rattle.krb_names.proofs.pieces.any_forbidden.Goals as goal

pub returns : goal.returns
returns c =
    any_from_yields_List (λ piece. has_forbidden piece.now) _ _ _ c.any.ensures.ran (YieldsList-from_slice c.args.pieces.now cc) (λ x b q k. search (rules, tests))
    ∙ any-map has_forbidden (λ piece. piece.now) c.args.pieces.now
