use Rattle.std.proofs.Common.{◌≡◌, ◌∙◌, ◌<◌, ◌^◌, List, length, ap, subst, sym}
use Rattle.std.specs.List.{AllByRecursion}
use Rattle.std.specs.Option.{option_copied}
use Rattle.krb_messages.specs.declared.pa_data.PaData.{PaData}
use Rattle.as_core.specs.Stamps.{items_of}
use Rattle.tgs_requests.specs.Askings.{is_of_type}
use Rattle.tgs_requests.proofs.OfType.{told_only}
use Rattle.tgs_requests.proofs.reading.ap_req_of.Goals as goal

pub ap_req_in-requires : goal.ap_req_in-requires
ap_req_in-requires c =
    let items : c.items_of.result.now ≡ items_of c.args.message.now.padata = c.items_of.ensures ∙ ap items_of c.as_ref.ensures.value in
    let all = subst (λ (found : List PaData). AllByRecursion (λ item. length item.padata_value < 2 ^ 32) found) (sym items) c.requires.short in
    told_only (λ (item : PaData). length item.padata_value < 2 ^ 32) (is_of_type 1) c.items_of.result.now (option_copied c.only_of.result) c.in-Some.item.now all c.only_of.ensures (ap option_copied c.in-Some.is)
