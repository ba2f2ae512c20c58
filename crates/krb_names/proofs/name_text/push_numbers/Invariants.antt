use Rattle.std.proofs.Common.{◌≡◌, ◌++◌, take, string_bytes}
use Rattle.krb_names.specs.SidValue.{numbers_text}
use Rattle.krb_names.proofs.name_text.push_numbers.Given as goal

abbrev pub invariant-loop-number : goal.invariant-loop-number
invariant-loop-number l = string_bytes l.text ≡ string_bytes l.initial.text ++ numbers_text (take l.number-index l.numbers)
