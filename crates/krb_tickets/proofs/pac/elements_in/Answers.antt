use Rattle.std.proofs.Common.{arith}
use Rattle.der_forms.specs.GrowthLaws.{sequence_of_same}
use Rattle.krb_tickets.specs.AuthItem.{auth_item}
use Rattle.krb_tickets.specs.Growths.{auth_item_same}
use Rattle.krb_tickets.proofs.pac.elements_in.Goals as goal

pub returns-in-Ok-clause-within : goal.returns-in-Ok-clause-within
returns-in-Ok-clause-within c = λ some.
    let same = (sequence_of_same auth_item auth_item_same).at_most c.args.content.now c.in-Ok.elements (λ i. omega (arith, c.type_inv.content i)) c.in-Ok.ensures.found in
    omega (arith, same)
