-- A reply as an outcome.
use Rattle.kdc_commands.specs.Outcomes.{Outcome}
use Rattle.kdc_commands.specs.declared.reply.Reply.{Reply}

abbrev pub outcome_of_reply : Reply → Outcome
outcome_of_reply reply = record { status = reply.status; text = reply.text.items }
