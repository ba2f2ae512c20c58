use Rattle.std.proofs.Common.{string_bytes, codes}
use Rattle.ticket_explain.specs.Lines.{delegation_line}
use Rattle.ticket_explain.specs.Words.{delegation_text}
use Rattle.ticket_explain.proofs.Pushed.{in_three}
use Rattle.ticket_explain.proofs.lines.push_delegation_line.Goals as goal

pub returns : goal.returns
unfolding delegation_line
returns c =
    in_three c.push_str-2.result (string_bytes c.args.text.now) (codes "delegation ") (delegation_text c.args.rec.now.delegation) (codes "\n") (string_bytes c.push_str.new.self) (string_bytes c.push_delegation.new.text) (string_bytes c.push_str-2.new.self) c.in_ok-push_str.ensures.bytes c.in_ok-push_delegation.ensures c.push_str-2.ensures.bytes
