use Rattle.std.proofs.Common.{◌∙◌, ◌*◌, ◌≤◌, ◌<◌, ◌^◌, length, Option, sym, subst, ap, arith}
use Rattle.std.specs.Prelude.{IfSome}
use Rattle.std.specs.Option.{option_copied}
use Rattle.krb_messages.specs.declared.pa_data.PaData.{PaData}
use Rattle.tgs_requests.specs.Askings.{is_of_type}
use Rattle.tgs_requests.proofs.OfType.{none_asked, several_asked, told_only}
use Rattle.tgs_requests.proofs.padata.read_one.Goals as goal

pub returns-then-not-has_type-clause-value : goal.returns-then-not-has_type-clause-value
returns-then-not-has_type-clause-value g c = none_asked g.T.Form.codec (is_of_type c.args.number) c.args.items.now (sym c.has_type.ensures ∙ c.if-not-has_type.true)

pub returns-in_default-clause-value : goal.returns-in_default-clause-value
returns-in_default-clause-value g c =
    several_asked g.T.Form.codec (is_of_type c.args.number) c.args.items.now (sym c.has_type.ensures ∙ c.if-not-has_type.false)
    (sym (ap option_copied c.in_default.is) ∙ c.only_of.ensures)

pub read_whole-requires : goal.read_whole-requires
read_whole-requires g c =
    let few = told_only (λ (item : PaData). length item.padata_value < 2 ^ 32) (is_of_type c.args.number) c.args.items.now (option_copied c.only_of.result) c.in-Some.item.now c.requires.short c.only_of.ensures (ap option_copied c.in-Some.is) in
    omega (arith, few, ap length c.as_slice.ensures)

pub returns-in-Some-2-clause-short : goal.returns-in-Some-2-clause-short
returns-in-Some-2-clause-short g c = λ n all.
    let few = told_only (λ (item : PaData). length item.padata_value ≤ n) (is_of_type c.args.number) c.args.items.now (option_copied c.only_of.result) c.in-Some.item.now all c.only_of.ensures (ap option_copied c.in-Some.is) in
    let own = subst (λ (found : Option g.row.T.Denot). IfSome found (λ x. length (g.T.Form.codec.spelling x) ≤ 3 * length c.as_slice.result.now)) c.in-Some-2.is c.in_ok-value.ensures.short in
    omega (arith, few, own, ap length c.as_slice.ensures)
