use Rattle.std.proofs.Common.{◌≡◌, ◌<◌, ◌∙◌, ap, arith, get_or, length}
use Rattle.dir_indexes.specs.Places.{pair_of_text}
use Rattle.dir_core.proofs.Indexing.{spn_next}
use Rattle.dir_core.proofs.spn_index.add_account.Goals as goal

pub loop-spn-preserved : goal.loop-spn-preserved
loop-spn-preserved c =
    let spns = c.args.account.now.spns in
    let i = c.loop-spn.spn-index in
    let within : i < length spns = omega (arith, ap length c.as_slice-spn-items.ensures) in
    let is : c.spn-item.result ≡ get_or spns i c.spn-item.result = c.spn-item.is ∙ ap (λ l. get_or l i c.spn-item.result) c.as_slice-spn-items.ensures in
    let adds = rw c.as_str.ensures at c.in_ok-add.ensures.ok in
    spn_next c.args.place (pair_of_text c.args.index.now) (pair_of_text c.loop-spn.index) (pair_of_text c.add.new.self) spns i c.spn-item.result within is c.loop-spn.invariant adds
