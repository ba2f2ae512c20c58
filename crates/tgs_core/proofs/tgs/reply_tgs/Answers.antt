use Rattle.std.proofs.Common.{◌≡◌, ◌∙◌, Some, None}
use Rattle.kdc_prelude.specs.Verdicts.{first_failing}
use Rattle.tgs_requests.specs.declared.header.Header.{Header}
use Rattle.tgs_requests.specs.Askings.{tgs_branch}
use Rattle.tgs_requests.specs.Headers.{header_in, reading_rules}
use Rattle.tgs_requests.specs.HeaderSteps.{IsDenial}
use Rattle.tgs_core.specs.Requests.{request_to}
use Rattle.tgs_core.specs.Verdicts.{opened_rows, tgs_rules}
use Rattle.tgs_core.proofs.JudgedRequests.{denial_first, denial_is, if_err_all, if_ok_all, tgs_opened}
use Rattle.tgs_core.proofs.tgs.reply_tgs.Goals as goal

pub returns-in-Ok-clause-ok : goal.returns-in-Ok-clause-ok
returns-in-Ok-clause-ok c =
    let a = c.args in
    let request = request_to a.message.now a.realm in
    let branch = tgs_branch a.message.now in
    let read = c.in-Ok.ensures.ok in
    let header : Header = c.in-Ok.read.header in
    let same = tgs_opened a.dir.now a.now request branch header read.ruled read.header in
    if_ok_all (first_failing (opened_rows a.dir.now a.now request branch (Some header)) ≡ None) (first_failing (tgs_rules a.dir.now a.now request branch) ≡ None) c.reply_read.result (λ none. same ∙ none)
    c.reply_read.ensures.ok

pub returns-in-Ok-clause-err : goal.returns-in-Ok-clause-err
returns-in-Ok-clause-err c =
    let a = c.args in
    let request = request_to a.message.now a.realm in
    let branch = tgs_branch a.message.now in
    let read = c.in-Ok.ensures.ok in
    let header : Header = c.in-Ok.read.header in
    let same = tgs_opened a.dir.now a.now request branch header read.ruled read.header in
    let whole = first_failing (tgs_rules a.dir.now a.now request branch) in
    let rest = first_failing (opened_rows a.dir.now a.now request branch (Some header)) in
    if_err_all (IsDenial rest) (IsDenial whole) c.reply_read.result (λ fault denied. denial_is whole rest fault same denied) c.reply_read.ensures.err

pub returns-in-Err-clause-err : goal.returns-in-Err-clause-err
returns-in-Err-clause-err c =
    let a = c.args in
    let request = request_to a.message.now a.realm in
    denial_first (reading_rules a.dir.now a.realm a.message.now) (opened_rows a.dir.now a.now request (tgs_branch a.message.now) (header_in a.dir.now a.realm a.message.now)) c.in-Err.fault c.in-Err.ensures.err
