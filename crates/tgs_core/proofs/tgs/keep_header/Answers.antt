use Rattle.tgs_core.proofs.JudgedRequests.{kept_err, kept_ok}
use Rattle.tgs_core.proofs.tgs.keep_header.Goals as goal

pub returns-clause-ok : goal.returns-clause-ok
returns-clause-ok c =
    let a = c.args in
    kept_ok a.dir.now a.now a.message.now a.realm a.read.now.wish a.read.now.header c.check_kept.result c.requires.read.header c.requires.read.wish c.check_kept.ensures.first c.check_kept.ensures.shown

pub returns-clause-err : goal.returns-clause-err
returns-clause-err c =
    let a = c.args in
    kept_err a.dir.now a.now a.message.now a.realm a.read.now.wish a.read.now.header c.check_kept.result c.requires.read.wish c.check_kept.ensures.first
