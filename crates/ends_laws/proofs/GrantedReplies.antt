-- The reply to a grant reads as it is spelt, who has its key opens it, and the comparisons alone judge it.
use Rattle.std.proofs.Common.{◌≡◌, ◌∙◌, ℕ, ◌<◌, ◌^◌, Bool, true, false, not, ◌||◌, List, Option, None, Some, Ok, Err, refl, sym, ap, subst, arith}
use Rattle.std.specs.Prelude.{Result, if◌then◌else◌, nat_eq}
use Rattle.kdc_prelude.specs.Answers.{or_fault}
use Rattle.kdc_prelude.specs.Results.{◌>>=◌}
use Rattle.kdc_prelude.specs.Verdicts.{first_failing}
use Rattle.aes_core.specs.Inverses.{AreBytes, IsBlock}
use Rattle.der_core.specs.Codec.{whole}
use Rattle.der_core.specs.Elements.{element, element_at}
use Rattle.der_core.specs.Laws.{IsBytes}
use Rattle.der_forms.proofs.Readings.{is_again}
use Rattle.der_forms.specs.Choices.{tag_in}
use Rattle.der_forms.specs.Fields.{begins, sequence}
use Rattle.krb_names.specs.declared.key.Key.{Key}
use Rattle.krb_names.specs.declared.moment.Moment.{Moment}
use Rattle.krb_crypto.proofs.ByteSums.{bytes_below}
use Rattle.krb_crypto.specs.BlockCipher.{IsKey}
use Rattle.krb_crypto.specs.Encryption.{opened, seal}
use Rattle.krb_messages.specs.declared.enc_kdc_rep.EncKdcRep.{EncKdcRep}
use Rattle.krb_messages.specs.declared.kdc_rep.KdcRep.{KdcRep}
use Rattle.krb_messages.specs.EncKdcRep.{enc_kdc_rep, is_as_part, is_first_tag}
use Rattle.krb_messages.specs.EncKdcRep as part_form
use Rattle.krb_messages.specs.KdcRep.{is_as_rep, is_eleven, kdc_rep}
use Rattle.krb_messages.specs.KdcRep as reply_form
use Rattle.krb_messages.specs.KrbError.{krb_error}
use Rattle.krb_messages.specs.Laws.{enc_kdc_rep_lawful}
use Rattle.kdc_records.specs.declared.holder.Holder.{Holder}
use Rattle.kdc_records.specs.declared.rule.Rule.{Rule}
use Rattle.kdc_records.specs.Parties.{version_of}
use Rattle.dir_records.specs.DirectoryValue.{DirectoryValue}
use Rattle.dir_records.specs.IsDirectory.{IsDirectory}
use Rattle.ticket_codec.proofs.Sealed.{opened_sealed}
use Rattle.ticket_parts.specs.Sound.{IsSound}
use Rattle.s4u_client.specs.declared.cred.Pending.{Pending}
use Rattle.s4u_client.specs.declared.fault.FinishFault.{FinishFault}
use Rattle.s4u_client.specs.declared.fault.FinishFault.TheVariants.{NotOpened, Unreadable}
use Rattle.s4u_client.specs.Finishing.{comparisons, finished, not_denied, part_in, part_of, readable, reply_in}
use Rattle.s4u_client.specs.Reads.{IsRandom}
use Rattle.s4u_client.proofs.Steps.{judges}
use Rattle.tgs_core.specs.Answers.{answered_to, bytes_for}
use Rattle.tgs_core.specs.Grants.{ByAccount, ByEvidence, ByHeader, ForHeadersUser, ForUser, Grant, Grounds, IsGrant, grant_in, granted_record, reply_confounder}
use Rattle.tgs_core.specs.Replies.{part_tag, reply_bytes, reply_key, reply_of, reply_part, reply_type, tgs_key}
use Rattle.tgs_core.specs.Verdicts.{verdict}
use Rattle.tgs_core.proofs.GrantedRequests.{granted_in_is_grant}
use Rattle.tgs_core.proofs.SoundGrants.{grant_is_sound}
use Rattle.tgs_core.proofs.WrittenReplies.{IsMadeReply, reply_part_fits, reply_part_short}
use Rattle.ends_laws.specs.Ends.{CanOpen, GrantsOpen, part_given}
use Rattle.ends_laws.proofs.GrantParts.{grant_parts}
use Rattle.ends_laws.proofs.HeldKeys.{IsHeld, held_at, held_key, held_version, random_bytes, reply_confounder_is, ticket_confounder_is}
use Rattle.ends_laws.proofs.ReadReplies.{made_reply, reply_reads}
use Rattle.ends_laws.proofs.ReplyBytes.{reply_part_bytes}

-- ---- it is no KRB-ERROR

no_error : (is_as : Bool) (content : List ℕ) → not_denied (whole krb_error (element (tag_in 0x6b 0x6d is_as) content)) ≡ Ok tt
unfolding krb_error element_at
no_error true content = refl
no_error false content = refl

reply_is_no_error : (rep : KdcRep) → not_denied (whole krb_error (kdc_rep.spelling rep)) ≡ Ok tt
unfolding kdc_rep
reply_is_no_error rep = no_error (is_as_rep rep) ((sequence (reply_form.fields (is_as_rep rep))).spelling rep)

-- ---- it is of the kind that is awaited

tag_begins : (is_as : Bool) (content : List ℕ) → begins (tag_in 0x6b 0x6d is_as) (element (tag_in 0x6b 0x6d is_as) content) ≡ true
tag_begins true content = refl
tag_begins false content = refl

reply_begins : (rep : KdcRep) → begins (tag_in 0x6b 0x6d (is_as_rep rep)) (kdc_rep.spelling rep) ≡ true
unfolding kdc_rep
reply_begins rep = tag_begins (is_as_rep rep) ((sequence (reply_form.fields (is_as_rep rep))).spelling rep)

reply_taken : (is_as : Bool) (rep : KdcRep) → is_as_rep rep ≡ is_as → whole kdc_rep (kdc_rep.spelling rep) ≡ Ok rep → reply_in is_as (kdc_rep.spelling rep) ≡ Ok rep
reply_taken is_as rep kind reads =
    let bytes : List ℕ = kdc_rep.spelling rep in
    let begun : begins (tag_in 0x6b 0x6d is_as) bytes ≡ true = subst (λ (b : Bool). begins (tag_in 0x6b 0x6d b) bytes ≡ true) kind (reply_begins rep) in
    let chosen : Bool → Result KdcRep FinishFault = λ (b : Bool). if b then readable (whole kdc_rep bytes) else Err (Unreadable 0) in
    ap chosen begun ∙ ap readable reads

tgs_usage : (session : Key) (subkey : Option Key) → false ≡ nat_eq (tgs_key session subkey).usage 3
tgs_usage session None = refl
tgs_usage session (Some subkey) = refl

-- a reply is an AS-REP exactly where its part is sealed with the usage of one
kind_by_usage : (grounds : Grounds) → is_eleven (reply_type grounds) ≡ nat_eq (reply_key grounds).usage 3
kind_by_usage (ByAccount account) = refl
kind_by_usage (ByHeader shown) = tgs_usage shown.part.key shown.subkey
kind_by_usage (ForUser shown account asked) = tgs_usage shown.part.key shown.subkey
kind_by_usage (ForHeadersUser shown asked) = tgs_usage shown.part.key shown.subkey
kind_by_usage (ByEvidence shown evidence) = tgs_usage shown.part.key shown.subkey

kind_is : (grant : Grant) (block : List ℕ) → is_as_rep (reply_of grant block) ≡ is_eleven (reply_type grant.grounds)
unfolding reply_of
kind_is grant block = refl

-- ---- what is sealed in it

or_true : (b : Bool) → (b || true) ≡ true
or_true true = refl
or_true false = refl

tag_allowed : (grounds : Grounds) (content : List ℕ) → (nat_eq (reply_key grounds).usage 3 || not (begins 0x79 (element (tag_in 0x79 0x7a (is_first_tag (part_tag grounds))) content))) ≡ true
tag_allowed (ByAccount account) content = refl
tag_allowed (ByHeader shown) content = or_true (nat_eq (tgs_key shown.part.key shown.subkey).usage 3)
tag_allowed (ForUser shown account asked) content = or_true (nat_eq (tgs_key shown.part.key shown.subkey).usage 3)
tag_allowed (ForHeadersUser shown asked) content = or_true (nat_eq (tgs_key shown.part.key shown.subkey).usage 3)
tag_allowed (ByEvidence shown evidence) content = or_true (nat_eq (tgs_key shown.part.key shown.subkey).usage 3)

part_allowed : (grant : Grant) (block : List ℕ) → (nat_eq (reply_key grant.grounds).usage 3 || not (begins 0x79 (enc_kdc_rep.spelling (part_given grant block)))) ≡ true
unfolding enc_kdc_rep
part_allowed grant block =
    let part : EncKdcRep = part_given grant block in
    tag_allowed grant.grounds ((sequence (part_form.fields (is_as_part part))).spelling part)

part_reads : (grant : Grant) (block : List ℕ) → IsGrant grant → IsSound (granted_record grant block) → whole enc_kdc_rep (enc_kdc_rep.spelling (part_given grant block)) ≡ Ok (part_given grant block)
part_reads grant block given sound =
    let t = granted_record grant block in
    let few = reply_part_short grant t given sound in
    is_again enc_kdc_rep enc_kdc_rep_lawful (reply_part grant t) (reply_part_fits grant t given sound) (omega (arith, few))

part_taken : (grant : Grant) (block : List ℕ) → IsGrant grant → IsSound (granted_record grant block)
    → part_in (nat_eq (reply_key grant.grounds).usage 3) (enc_kdc_rep.spelling (part_given grant block)) ≡ Ok (part_given grant block)
part_taken grant block given sound =
    let text : List ℕ = enc_kdc_rep.spelling (part_given grant block) in
    let chosen : Bool → Result EncKdcRep FinishFault = λ (b : Bool). if b then readable (whole enc_kdc_rep text) else Err (Unreadable 0) in
    ap chosen (part_allowed grant block) ∙ ap readable (part_reads grant block given sound)

-- ---- who has the key opens it

cipher_is : (grant : Grant) (block : List ℕ) → (reply_of grant block).enc_part.cipher
    ≡ seal (reply_key grant.grounds).key (reply_key grant.grounds).usage (reply_confounder block) (enc_kdc_rep.spelling (part_given grant block))
unfolding reply_of
cipher_is grant block = refl

part_opens : (grant : Grant) (block : List ℕ) → IsGrant grant → IsSound (granted_record grant block) → IsKey (reply_key grant.grounds).key → IsBlock (reply_confounder block)
    → opened (reply_key grant.grounds).key (reply_key grant.grounds).usage (reply_of grant block).enc_part.cipher ≡ Some (enc_kdc_rep.spelling (part_given grant block))
part_opens grant block given sound own confounder =
    let key : Key = (reply_key grant.grounds).key in
    let usage : ℕ = (reply_key grant.grounds).usage in
    let text : List ℕ = enc_kdc_rep.spelling (part_given grant block) in
    let octets : AreBytes text = bytes_below text (reply_part_bytes grant block given sound) in
    ap (opened key usage) (cipher_is grant block) ∙ opened_sealed key usage (reply_confounder block) text own confounder octets

-- what a key with a usage opens of a reply
abbrev part_by : KdcRep → Key → ℕ → Result EncKdcRep FinishFault
part_by reply key usage = or_fault NotOpened (opened key usage reply.enc_part.cipher) >>= λ text. part_in (nat_eq usage 3) text

part_shown : (grant : Grant) (block : List ℕ) → IsGrant grant → IsSound (granted_record grant block) → IsKey (reply_key grant.grounds).key → IsBlock (reply_confounder block)
    → part_by (reply_of grant block) (reply_key grant.grounds).key (reply_key grant.grounds).usage ≡ Ok (part_given grant block)
part_shown grant block given sound own confounder =
    let usage : ℕ = (reply_key grant.grounds).usage in
    let taken : Option (List ℕ) → Result EncKdcRep FinishFault = λ (text : Option (List ℕ)). or_fault NotOpened text >>= λ (text : List ℕ). part_in (nat_eq usage 3) text in
    ap taken (part_opens grant block given sound own confounder) ∙ part_taken grant block given sound

part_for : (grant : Grant) (block : List ℕ) (pending : Pending) → CanOpen grant pending → IsGrant grant → IsSound (granted_record grant block) → IsBlock (reply_confounder block)
    → part_of pending (reply_of grant block) ≡ Ok (part_given grant block)
part_for grant block pending can given sound confounder =
    let reply : KdcRep = reply_of grant block in
    (λ i. part_by reply (can.key i) (can.usage i)) ∙ part_shown grant block given sound (subst IsKey can.key can.is_key) confounder

-- ---- the reply

reply_for : (grant : Grant) (block : List ℕ) (pending : Pending) → CanOpen grant pending → whole kdc_rep (kdc_rep.spelling (reply_of grant block)) ≡ Ok (reply_of grant block)
    → reply_in (nat_eq pending.usage 3) (kdc_rep.spelling (reply_of grant block)) ≡ Ok (reply_of grant block)
reply_for grant block pending can reads =
    let kind : is_as_rep (reply_of grant block) ≡ nat_eq pending.usage 3 = kind_is grant block ∙ kind_by_usage grant.grounds ∙ sym (ap (λ (usage : ℕ). nat_eq usage 3) can.usage) in
    reply_taken (nat_eq pending.usage 3) (reply_of grant block) kind reads

-- what is known of a grant and of the reply to it
pub record IsReplied (grant : Grant) (block : List ℕ) : Type 0 where
  pub given : IsGrant grant
  pub sound : IsSound (granted_record grant block)
  pub held : IsHeld grant.holding
  pub made : IsMadeReply grant block
  pub reads : whole kdc_rep (kdc_rep.spelling (reply_of grant block)) ≡ Ok (reply_of grant block)

pub holder_is : (grant : Grant) (block : List ℕ) → (granted_record grant block).holder ≡ grant.holding.holder
unfolding granted_record
holder_is grant block = refl

pub is_replied : (dir : DirectoryValue) (now : Moment) (block bytes : List ℕ) (grant : Grant) → IsDirectory dir → IsBytes bytes → IsRandom block → verdict dir now bytes ≡ None
    → grant_in dir now bytes ≡ Some grant → IsReplied grant block
is_replied dir now block bytes grant h octets random none granted =
    let given = granted_in_is_grant dir now bytes grant h octets none granted in
    let sound = grant_is_sound grant block given random.long (random_bytes block random) in
    let held = held_at dir grant.request.realm grant.terms.aim grant.holding h (grant_parts dir now bytes grant granted).held in
    let own : IsKey grant.holding.key.key = held_key grant.holding held in
    let few : version_of (granted_record grant block).holder < 2 ^ 32 = subst (λ (holder : Holder). version_of holder < 2 ^ 32) (sym (holder_is grant block)) (held_version grant.holding held) in
    let confounder = ticket_confounder_is block random in
    record {
      given = given;
      sound = sound;
      held = held;
      made = made_reply grant block given sound own few confounder random.long;
      reads = reply_reads grant block given sound own few confounder random.long;
    }

replied_with : (dir : DirectoryValue) (now : Moment) (block bytes : List ℕ) (grant : Grant) → verdict dir now bytes ≡ None → grant_in dir now bytes ≡ Some grant
    → (answered_to dir now block bytes).reply ≡ kdc_rep.spelling (reply_of grant block)
unfolding answered_to
replied_with dir now block bytes grant none granted =
    ap (λ (rule : Option Rule). bytes_for dir now block bytes rule) none ∙ ap (λ (found : Option Grant). reply_bytes found block) granted

pub grants_open : GrantsOpen
grants_open dir now block bytes grant pending h octets random none granted can =
    let reply : KdcRep = reply_of grant block in
    let part : EncKdcRep = part_given grant block in
    let replied = is_replied dir now block bytes grant h octets random none granted in
    ap (finished pending) (replied_with dir now block bytes grant none granted)
    ∙ judges pending (kdc_rep.spelling reply) tt reply part (first_failing (comparisons pending reply part)) (reply_is_no_error reply) (reply_for grant block pending can replied.reads)
    (part_for grant block pending can replied.given replied.sound (reply_confounder_is block random)) refl
