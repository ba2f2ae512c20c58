use Rattle.std.proofs.Common.{◌≡◌, true, map, take}
use Rattle.std.specs.List.{list_all}
use Rattle.krb_tickets.specs.Transited.{is_realm}
use Rattle.krb_tickets.proofs.transited.realms.Given as goal

abbrev pub invariant-loop-piece : goal.invariant-loop-piece
invariant-loop-piece l = record {
  names : l.names ≡ take l.piece-index (map (λ piece. piece.now) l.pieces);
  all : list_all is_realm (take l.piece-index (map (λ piece. piece.now) l.pieces)) ≡ true;
}
