use Rattle.std.proofs.Common.{[], ◌∷◌, ◌++◌, ap, ◌∙◌}
use Rattle.krb_tickets.proofs.Realms.{one_fails, one_passes, one_more}
use Rattle.krb_tickets.proofs.transited.realms.Goals as goal

pub returns-in_default : goal.returns-in_default
returns-in_default c = rw (one_fails (λ piece. piece.now) c.args.pieces.now c.loop-piece.piece-index _ c.loop-piece-test.true c.in_default.ensures)

pub loop-piece-preserved : goal.loop-piece-preserved
loop-piece-preserved c =
    let found = c.in-Some.ensures in
    let more = one_more (λ piece. piece.now) c.args.pieces.now c.loop-piece.piece-index _ c.in_ok-copy.field-0 c.loop-piece-test.true (c.in_ok-copy.ensures ∙ found.1) in
    record {
      names = c.in_ok-push.ensures.ok ∙ ap (λ names. names ++ c.in_ok-copy.field-0 ∷ []) c.loop-piece.invariant.names ∙ more;
      all = one_passes (λ piece. piece.now) c.args.pieces.now c.loop-piece.piece-index _ c.loop-piece-test.true found.0 c.loop-piece.invariant.all;
    }
