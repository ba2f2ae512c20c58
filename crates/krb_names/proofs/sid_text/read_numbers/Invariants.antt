use Rattle.std.proofs.Common.{◌≡◌, length}
use Rattle.krb_names.specs.SidTexts.{hyphen_pieces}
use Rattle.krb_names.proofs.SidTexts.{HasRead}
use Rattle.krb_names.proofs.sid_text.read_numbers.Given as goal

abbrev pub invariant-loop-piece : goal.invariant-loop-piece
invariant-loop-piece l = record {
  counted : l.count ≡ length l.yielded;
  read : HasRead (hyphen_pieces l.text) l.count l.numbers;
}
