-- What a request is answered, and what is noted of it.
use Rattle.std.specs.Prelude.{ℕ, List, Option, None, Some, option_map}
use Rattle.krb_names.specs.declared.moment.Moment.{Moment}
use Rattle.krb_messages.specs.declared.kdc_req.KdcReq.{KdcReq}
use Rattle.kdc_records.specs.declared.rule.Rule.{Rule}
use Rattle.kdc_records.specs.declared.rule.Rule.TheVariants.{U1, U2, U3, U4}
use Rattle.kdc_records.specs.declared.wish.Branch.{Branch}
use Rattle.dir_records.specs.DirectoryValue.{DirectoryValue}
use Rattle.tgs_requests.specs.Askings.{branch_of}
use Rattle.tgs_core.specs.declared.answered.Answered.{Answered}
use Rattle.tgs_core.specs.Errors.{error_bytes}
use Rattle.tgs_core.specs.Grants.{grant_in}
use Rattle.tgs_core.specs.Replies.{reply_bytes}
use Rattle.tgs_core.specs.Requests.{message_in}
use Rattle.tgs_core.specs.Verdicts.{verdict}

-- the bytes that are sent: a ticket, or the first failing rule's error
abbrev pub bytes_for : DirectoryValue → Moment → List ℕ → List ℕ → Option Rule → List ℕ
bytes_for dir now block bytes None = reply_bytes (grant_in dir now bytes) block
bytes_for dir now block bytes (Some rule) = error_bytes dir now (message_in bytes) rule

-- how the request asks, where that is known: not where one of U1 to U4 denies it
abbrev pub noted_branch : Option Rule → Option KdcReq → Option Branch
noted_branch (Some U1) message = None
noted_branch (Some U2) message = None
noted_branch (Some U3) message = None
noted_branch (Some U4) message = None
noted_branch rule message = option_map branch_of message

abbrev pub answered_by : DirectoryValue → Moment → List ℕ → List ℕ → Option Rule → Answered
answered_by dir now block bytes rule = record {
  reply = bytes_for dir now block bytes rule;
  note = record { branch = noted_branch rule (message_in bytes); rule = rule };
}

-- the answer to a request, by the directory at a moment, with a random block of 64 bytes
unfoldable pub answered_to : DirectoryValue → Moment → List ℕ → List ℕ → Answered
answered_to dir now block bytes = answered_by dir now block bytes (verdict dir now bytes)

-- the answer to a request that is too long to be taken in
unfoldable pub answered_long : DirectoryValue → Moment → Answered
answered_long dir now = record {
  reply = error_bytes dir now None U1;
  note = record { branch = None; rule = Some U1 };
}
