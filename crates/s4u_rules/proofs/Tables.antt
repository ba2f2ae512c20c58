-- The table of the header's rules in its parts.
use Rattle.std.proofs.Common.{◌≡◌, ◌∙◌, ℕ, ◌++◌, Option, None, Some, ap}
use Rattle.kdc_prelude.proofs.Verdicts.{failing_append}
use Rattle.kdc_prelude.specs.Verdicts.{first_failing, ◌or_else◌}
use Rattle.krb_names.specs.declared.moment.Moment.{Moment}
use Rattle.kdc_records.specs.declared.rule.Rule.{Rule}
use Rattle.kdc_records.specs.declared.ticket_rec.TicketRec.{TicketRec}
use Rattle.kdc_records.specs.declared.wish.Wish.{Wish}
use Rattle.dir_records.specs.DirectoryValue.{DirectoryValue}
use Rattle.s4u_rules.specs.Headers.{ShownHeader}
use Rattle.s4u_rules.specs.TgsRules.{header_rules, opened_rules, party_rules, wish_rules}

-- a rule of what was opened
pub opened_fails : (dir : DirectoryValue) (at : ℕ) (now : Moment) (wish : Wish) (header : ShownHeader) (rule : Rule)
    → first_failing (opened_rules now header) ≡ Some rule → first_failing (header_rules dir at now wish header) ≡ Some rule
opened_fails dir at now wish header rule h =
    let later = party_rules dir at header.rec ++ wish_rules dir at now wish header.rec in
    failing_append (opened_rules now header) later ∙ ap (λ (first : Option Rule). first or_else first_failing later) h

-- a rule of the record, or of what is asked for
after_opened : (dir : DirectoryValue) (at : ℕ) (now : Moment) (wish : Wish) (header : ShownHeader) (rec : TicketRec)
    → first_failing (opened_rules now header) ≡ None → header.rec ≡ Some rec
    → first_failing (header_rules dir at now wish header) ≡ (first_failing (party_rules dir at (Some rec)) or_else first_failing (wish_rules dir at now wish (Some rec)))
after_opened dir at now wish header rec h is =
    let later = party_rules dir at header.rec ++ wish_rules dir at now wish header.rec in
    failing_append (opened_rules now header) later
    ∙ ap (λ (first : Option Rule). first or_else first_failing later) h
    ∙ failing_append (party_rules dir at header.rec) (wish_rules dir at now wish header.rec)
    ∙ ap (λ (found : Option TicketRec). first_failing (party_rules dir at found) or_else first_failing (wish_rules dir at now wish found)) is

pub party_fails : (dir : DirectoryValue) (at : ℕ) (now : Moment) (wish : Wish) (header : ShownHeader) (rec : TicketRec) (rule : Rule)
    → first_failing (opened_rules now header) ≡ None → header.rec ≡ Some rec → first_failing (party_rules dir at (Some rec)) ≡ Some rule
    → first_failing (header_rules dir at now wish header) ≡ Some rule
party_fails dir at now wish header rec rule h is party =
    after_opened dir at now wish header rec h is ∙ ap (λ (first : Option Rule). first or_else first_failing (wish_rules dir at now wish (Some rec))) party

pub by_wish : (dir : DirectoryValue) (at : ℕ) (now : Moment) (wish : Wish) (header : ShownHeader) (rec : TicketRec)
    → first_failing (opened_rules now header) ≡ None → header.rec ≡ Some rec → first_failing (party_rules dir at (Some rec)) ≡ None
    → first_failing (header_rules dir at now wish header) ≡ first_failing (wish_rules dir at now wish (Some rec))
by_wish dir at now wish header rec h is party =
    after_opened dir at now wish header rec h is ∙ ap (λ (first : Option Rule). first or_else first_failing (wish_rules dir at now wish (Some rec))) party
