use Rattle.std.proofs.Common.{◌<◌, ◌^◌, List, length, sym, subst}
use Rattle.std.specs.Prelude.{IfSome, Option}
use Rattle.std.specs.List.{AllByRecursion}
use Rattle.krb_messages.specs.declared.pa_data.PaData.{PaData}
use Rattle.as_core.proofs.Timestamps.{first_of_all}
use Rattle.as_core.proofs.timestamp.stamp_of.Goals as goal

pub read_item-requires : goal.read_item-requires
read_item-requires c =
    let all = subst (λ (items : List PaData). AllByRecursion (λ item. length item.padata_value < 2 ^ 32) items) (sym c.items_of.ensures) c.requires.short in
    let first = first_of_all (λ item. length item.padata_value < 2 ^ 32) c.items_of.result.now all in
    subst (λ (found : Option PaData). IfSome found (λ item. length item.padata_value < 2 ^ 32)) (sym c.first_timestamp.ensures) first
