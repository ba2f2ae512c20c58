use Rattle.std.proofs.Common.{Some, string_bytes, refl}
use Rattle.std.proofs.lemmas.Map.Text.{btree_map_updates_text}
use Rattle.std.proofs.lemmas.Result.{err_from_is_err_and}
use Rattle.dir_indexes.specs.Places.{pair_of_text}
use Rattle.dir_indexes.proofs.pair_index.PairIndex.insert.Goals as goal

pub returns-in_err-insert-clause-err : goal.returns-in_err-insert-clause-err
unfolding pair_of_text
returns-in_err-insert-clause-err c = let p = err_from_is_err_and c.from_residual-in_err-insert.result c.from_residual-in_err-insert.ensures.1 in rw (p.1) (λ text. rw c.in_err-insert.ensures.err refl)

pub returns-clause-ok : goal.returns-clause-ok
unfolding pair_of_text
returns-clause-ok c = λ text.
    let e = btree_map_updates_text (string_bytes c.in_ok-key.key) c.args.self.now.places c.insert.new.self (Some c.args.place) c.in_ok-insert.ensures.updates text in
    rw c.in_ok-key.ensures.ok at e
