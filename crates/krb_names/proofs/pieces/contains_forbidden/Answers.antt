use Rattle.std.proofs.Common.{rules, tests}
use Rattle.std.proofs.lemmas.Iterator.{YieldsList-from_chars}
use Rattle.std.proofs.lemmas.Iterator.Search.{any_from_yields_List}
use Rattle.krb_names.specs.Pieces.{is_forbidden}
use Rattle.krb_names.proofs.pieces.contains_forbidden.Goals as goal

pub returns : goal.returns
returns c =
    any_from_yields_List is_forbidden _ _ _ c.any.ensures.ran (YieldsList-from_chars c.args.piece.now c.utf8.piece cc) (λ x b q k. search (rules, tests))
