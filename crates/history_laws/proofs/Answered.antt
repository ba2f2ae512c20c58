-- A reply that holds a ticket is one to a request that no rule denies.
use Rattle.std.proofs.Common.{◌≡◌, ◌∙◌, ℕ, Bool, true, false, List, Option, None, Some, refl, sym, ap}
use Rattle.krb_names.specs.declared.moment.Moment.{Moment}
use Rattle.der_core.specs.Elements.{element}
use Rattle.der_forms.specs.Choices.{tag_in}
use Rattle.der_forms.specs.Fields.{sequence}
use Rattle.krb_messages.specs.KdcRep.{fields, is_as_rep, kdc_rep}
use Rattle.krb_messages.specs.KrbError.{krb_error}
use Rattle.krb_messages.specs.declared.kdc_rep.KdcRep.{KdcRep}
use Rattle.krb_messages.specs.declared.kdc_req.KdcReq.{KdcReq}
use Rattle.kdc_records.specs.declared.rule.Rule.{Rule}
use Rattle.dir_records.specs.DirectoryValue.{DirectoryValue}
use Rattle.tgs_core.specs.Answers.{answered_to, bytes_for}
use Rattle.tgs_core.specs.Errors.{error_bytes}
use Rattle.tgs_core.specs.Grants.{Grant, grant_in}
use Rattle.tgs_core.specs.Replies.{reply_bytes, reply_of}
use Rattle.tgs_core.specs.Requests.{message_in}
use Rattle.tgs_core.specs.Verdicts.{verdict}
use Rattle.history_laws.specs.Entries.{holds_ticket}

-- a KRB-ERROR begins with another tag
error_holds_none : (dir : DirectoryValue) (now : Moment) (message : Option KdcReq) (rule : Rule) → holds_ticket (error_bytes dir now message rule) ≡ false
unfolding krb_error
error_holds_none dir now message rule = refl

by_rule : (dir : DirectoryValue) (now : Moment) (block bytes : List ℕ) (rule : Option Rule) → holds_ticket (bytes_for dir now block bytes rule) ≡ true → rule ≡ None
by_rule dir now block bytes None h = refl
by_rule dir now block bytes (Some rule) h = let none = error_holds_none dir now (message_in bytes) rule in absurd (cc)

-- its bytes
reply_by_rule : (dir : DirectoryValue) (now : Moment) (block bytes : List ℕ) → (answered_to dir now block bytes).reply ≡ bytes_for dir now block bytes (verdict dir now bytes)
unfolding answered_to
reply_by_rule dir now block bytes = refl

pub none_denies : (dir : DirectoryValue) (now : Moment) (block bytes : List ℕ) → holds_ticket (answered_to dir now block bytes).reply ≡ true → verdict dir now bytes ≡ None
none_denies dir now block bytes h = by_rule dir now block bytes (verdict dir now bytes) (ap holds_ticket (sym (reply_by_rule dir now block bytes)) ∙ h)

-- the reply to a request that no rule denies
pub reply_granted : (dir : DirectoryValue) (now : Moment) (block bytes : List ℕ) (grant : Grant) → verdict dir now bytes ≡ None → grant_in dir now bytes ≡ Some grant
    → (answered_to dir now block bytes).reply ≡ reply_bytes (Some grant) block
reply_granted dir now block bytes grant none e =
    reply_by_rule dir now block bytes ∙ ap (bytes_for dir now block bytes) none ∙ ap (λ (found : Option Grant). reply_bytes found block) e

-- ---- the other way round

-- an AS-REP and a TGS-REP begin with their tags
tag_holds : (is_as : Bool) (content : List ℕ) → holds_ticket (element (tag_in 0x6b 0x6d is_as) content) ≡ true
tag_holds true content = refl
tag_holds false content = refl

reply_holds : (rep : KdcRep) → holds_ticket (kdc_rep.spelling rep) ≡ true
unfolding kdc_rep
reply_holds rep = tag_holds (is_as_rep rep) ((sequence (fields (is_as_rep rep))).spelling rep)

-- the reply to a request that no rule denies holds a ticket
pub holds_granted : (dir : DirectoryValue) (now : Moment) (block bytes : List ℕ) (grant : Grant) → verdict dir now bytes ≡ None → grant_in dir now bytes ≡ Some grant
    → holds_ticket (answered_to dir now block bytes).reply ≡ true
holds_granted dir now block bytes grant none e = ap holds_ticket (reply_granted dir now block bytes grant none e) ∙ reply_holds (reply_of grant block)
