use Rattle.std.proofs.Common.{◌≡◌, ◌-◌}
use Rattle.der_forms.specs.Lists.{items_at}
use Rattle.der_forms.specs.Names.{kerberos_string}
use Rattle.der_forms.proofs.Loops.{with_front}
use Rattle.krb_tickets.proofs.name_string.read_texts.Given as goal

abbrev pub invariant-loop : goal.invariant-loop
invariant-loop l =
    with_front l.items (items_at (8 - l.counter) l.fn.content.place kerberos_string l.from)
    ≡ items_at 8 l.fn.content.place kerberos_string l.fn.content
