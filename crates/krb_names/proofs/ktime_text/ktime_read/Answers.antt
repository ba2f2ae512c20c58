use Rattle.std.proofs.Common.{◌≡◌, Some, None, Ok, ap, subst, sym, true, ◌∙◌}
use Rattle.std.specs.Prelude.{if◌then◌else◌}
use Rattle.krb_names.specs.declared.civil.CivilTime.{CivilTime}
use Rattle.krb_names.specs.Calendar.{is_civil, seconds_of}
use Rattle.krb_names.specs.Times.{civil_digits, has_time_form}
use Rattle.krb_names.proofs.Times.{read_some, read_none}
use Rattle.krb_names.proofs.ktime_text.ktime_read.Goals as goal

pub returns-in-Some : goal.returns-in-Some
returns-in-Some c =
    let text = c.args.text.now in
    let P : CivilTime → Type 0 = λ t. Some c.in-Some.seconds ≡ (if is_civil t then Some (seconds_of t) else None) in
    let form : has_time_form text ≡ true = sym c.has_time_form.ensures.value ∙ c.if-not-has_time_form.false in
    ap Ok c.new.ensures
    ∙ read_some (has_time_form text) (is_civil (civil_digits text)) (seconds_of (civil_digits text)) c.in-Some.seconds form (subst P c.read_civil.ensures.value c.in-Some.ensures.value)

pub returns-in-None : goal.returns-in-None
returns-in-None c =
    let text = c.args.text.now in
    let P : CivilTime → Type 0 = λ t. None ≡ (if is_civil t then Some (seconds_of t) else None) in
    let form : has_time_form text ≡ true = sym c.has_time_form.ensures.value ∙ c.if-not-has_time_form.false in
    read_none (has_time_form text) (is_civil (civil_digits text)) (seconds_of (civil_digits text)) form (subst P c.read_civil.ensures.value c.in-None.ensures.value)
