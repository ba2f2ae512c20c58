-- The reply to a grant can be written, and is short.
use Rattle.std.proofs.Common.{◌≡◌, ℕ, ℤ, ◌+◌, ◌<◌, ◌≤◌, ◌^◌, List, [], ◌∷◌, ◌++◌, length, pos, to_z, of_z, Option, None, Some, refl, ap, ◌∙◌, length-append, arith}
use Rattle.std.specs.Prelude.{FitsSigned, IfSome}
use Rattle.std.specs.Int.{w32}
use Rattle.std.specs.List.{AllByRecursion, flat_map}
use Rattle.std.proofs.lemmas.List.Concat.{flat_map-cons}
use Rattle.der_forms.specs.Choices.{tag_in}
use Rattle.der_forms.specs.Lists.{sequence_of}
use Rattle.krb_names.specs.declared.etype.Etype.{Etype}
use Rattle.krb_names.specs.declared.etype.Etype.TheVariants.{Aes128, Aes256}
use Rattle.krb_names.specs.declared.key.Key.{Key}
use Rattle.krb_names.specs.Etypes.{etype_number}
use Rattle.krb_tickets.specs.declared.encrypted_data.EncryptedData.{EncryptedData}
use Rattle.krb_tickets.specs.declared.ticket.Ticket.{Ticket}
use Rattle.krb_tickets.specs.Ticket.{ticket}
use Rattle.ticket_laws.proofs.Sizes.{element_within}
use Rattle.krb_messages.specs.declared.kdc_rep.KdcRep.{KdcRep}
use Rattle.krb_messages.specs.declared.pa_data.PaData.{PaData}
use Rattle.krb_messages.specs.EncKdcRep.{enc_kdc_rep, is_first_tag}
use Rattle.krb_messages.specs.EtypeInfo2Entry.{etype_info2_entry}
use Rattle.krb_messages.specs.KdcRep.{is_eleven, kdc_rep, msg_type_of}
use Rattle.krb_messages.specs.PaData.{pa_data}
use Rattle.s4u_padata.specs.declared.x509_user.X509User.{X509User}
use Rattle.kdc_records.specs.declared.ticket_rec.TicketRec.{TicketRec}
use Rattle.dir_records.specs.declared.records.Account.{Account as AccountRec}
use Rattle.dir_records.specs.IsDirectory.{IsAccount, IsAccountInRange}
use Rattle.ticket_parts.specs.Sound.{IsSound}
use Rattle.tgs_core.specs.Grants.{ByAccount, ByEvidence, ByHeader, ForHeadersUser, ForUser, Grant, Grounds, IsEchoable, IsGrant, IsGrounds, granted_record, reply_confounder}
use Rattle.tgs_core.specs.Replies.{echo_padata, key_entry, key_info, part_tag, reply_key, reply_of, reply_padata, reply_part, reply_type, sealed_with, tgs_key, ticket_made}
use Rattle.tgs_core.proofs.EchoForms.{echo_short}
use Rattle.tgs_core.proofs.ReplyForms.{IsShortReply, IsWritableEntry, IsWritableReply, IsWritableReplyPart, entry_fits, entry_short, padata_fits, padata_short, part_fits, part_short, reply_fits, reply_short}

-- ---- PA-ETYPE-INFO2

etype_fits : (e : Etype) → FitsSigned w32 (pos (etype_number e))
etype_fits Aes128 = record { sfits = omega arith }
etype_fits Aes256 = record { sfits = omega arith }

entry_is : (account : AccountRec) → IsAccount account → IsAccountInRange account → IsWritableEntry (key_entry account)
entry_is account h k = record { etype = etype_fits account.key.key.etype; utf8 = k.salt; few = h.salt; s2kparams = tt }

pub entries_fit : (account : AccountRec) → IsAccount account → IsAccountInRange account → (sequence_of etype_info2_entry).Fits (key_entry account ∷ [])
entries_fit account h k = (entry_fits (key_entry account) (entry_is account h k), tt)

pub entries_short : (account : AccountRec) → IsAccount account → IsAccountInRange account → length ((sequence_of etype_info2_entry).spelling (key_entry account ∷ [])) ≤ 2104
entries_short account h k =
    let entry : List ℕ = etype_info2_entry.spelling (key_entry account) in
    let all : List ℕ = flat_map etype_info2_entry.spelling (key_entry account ∷ []) in
    let count : length all ≡ length (entry ++ []) = ap length (flat_map-cons etype_info2_entry.spelling (key_entry account) []) in
    element_within 48 2098 all (omega (arith, count, length-append entry [], entry_short (key_entry account) (entry_is account h k)))

nineteen : FitsSigned w32 (pos 19)
nineteen = record { sfits = omega arith }

pub key_info_fits : (account : AccountRec) → pa_data.Fits (key_info account)
key_info_fits account = padata_fits (key_info account) nineteen

pub key_info_short : (account : AccountRec) → IsAccount account → IsAccountInRange account → length (pa_data.spelling (key_info account)) ≤ 2142
key_info_short account h k = omega (arith, padata_short (key_info account) nineteen, entries_short account h k)

-- padata of one item
lone_short : (item : PaData) (n : ℕ) → length (pa_data.spelling item) ≤ n → length ((sequence_of pa_data).spelling (item ∷ [])) ≤ 6 + n
lone_short item n le =
    let one : List ℕ = pa_data.spelling item in
    let all : List ℕ = flat_map pa_data.spelling (item ∷ []) in
    let count : length all ≡ length (one ++ []) = ap length (flat_map-cons pa_data.spelling item []) in
    element_within 48 n all (omega (arith, count, length-append one [], le))

-- ---- PA-S4U-X509-USER

hundred_thirty : FitsSigned w32 (pos 130)
hundred_thirty = record { sfits = omega arith }

echo_padata_short : (key : Key) (asked : X509User) → IsEchoable asked → length (pa_data.spelling (echo_padata key asked)) ≤ 106 + 2 ^ 24
echo_padata_short key asked h = let few = h.few in omega (arith, padata_short (echo_padata key asked) hundred_thirty, echo_short key asked, few)

-- ---- the padata of a reply

padata_fit : (grounds : Grounds) → IfSome (reply_padata grounds) (AllByRecursion (λ item. FitsSigned w32 item.padata_type))
padata_fit (ByAccount account) = (nineteen, tt)
padata_fit (ByHeader shown) = tt
padata_fit (ForUser shown account None) = tt
padata_fit (ForUser shown account (Some asked)) = (hundred_thirty, tt)
padata_fit (ForHeadersUser shown None) = tt
padata_fit (ForHeadersUser shown (Some asked)) = (hundred_thirty, tt)
padata_fit (ByEvidence shown evidence) = tt

padata_are_short : (grounds : Grounds) → IsGrounds grounds → IfSome (reply_padata grounds) (λ items. length ((sequence_of pa_data).spelling items) ≤ 112 + 2 ^ 24)
padata_are_short (ByAccount account) h = omega (arith, lone_short (key_info account) 2142 (key_info_short account h.0 h.1))
padata_are_short (ByHeader shown) h = tt
padata_are_short (ForUser shown account None) h = tt
padata_are_short (ForUser shown account (Some asked)) h =
    let key : Key = (tgs_key shown.part.key shown.subkey).key in
    omega (arith, lone_short (echo_padata key asked) (106 + 2 ^ 24) (echo_padata_short key asked h.1.1))
padata_are_short (ForHeadersUser shown None) h = tt
padata_are_short (ForHeadersUser shown (Some asked)) h =
    let key : Key = (tgs_key shown.part.key shown.subkey).key in
    omega (arith, lone_short (echo_padata key asked) (106 + 2 ^ 24) (echo_padata_short key asked h.1))
padata_are_short (ByEvidence shown evidence) h = tt

-- ---- what is sealed in the reply

tag_is : (grounds : Grounds) → tag_in 0x79 0x7a (is_first_tag (part_tag grounds)) ≡ part_tag grounds
tag_is (ByAccount account) = refl
tag_is (ByHeader shown) = refl
tag_is (ForUser shown account asked) = refl
tag_is (ForHeadersUser shown asked) = refl
tag_is (ByEvidence shown evidence) = refl

part_is : (grant : Grant) (t : TicketRec) → IsGrant grant → IsSound t → IsWritableReplyPart (reply_part grant t)
part_is grant t g s = record {
  tag = tag_is grant.grounds;
  key_length = s.part.key_length;
  key_padding = s.part.key_padding;
  last_req = (record { kind = record { sfits = omega arith }; value = g.start }, tt);
  nonce = g.nonce;
  key_expiration = tt;
  flags = s.part.flags;
  authtime = s.part.auth;
  starttime = s.part.start;
  endtime = s.part.end;
  renew_till = tt;
  srealm = g.server.realm;
  same = g.server.same;
  sname_kind = g.server.kind;
  sname_parts = g.server.parts;
}

pub reply_part_fits : (grant : Grant) (t : TicketRec) → IsGrant grant → IsSound t → enc_kdc_rep.Fits (reply_part grant t)
reply_part_fits grant t g s = part_fits (reply_part grant t) (part_is grant t g s)

pub reply_part_short : (grant : Grant) (t : TicketRec) → IsGrant grant → IsSound t → length (enc_kdc_rep.spelling (reply_part grant t)) ≤ 4096
reply_part_short grant t g s = let short = part_short (reply_part grant t) (part_is grant t g s) in omega (arith, short)

-- ---- the reply

-- what is known of the parts of a reply
pub record IsMadeReply (grant : Grant) (block : List ℕ) : Type 0 where
  pub given : IsGrant grant
  pub record_is : IsSound (granted_record grant block)
  pub ticket_fits : ticket.Fits (ticket_made grant block)
  pub ticket_short : length (ticket.spelling (ticket_made grant block)) < 2 ^ 25
  pub cipher : length (sealed_with (reply_key grant.grounds) (reply_confounder block) (reply_part grant (granted_record grant block))).cipher ≤ 4124

-- as it is passed on in 32 bits
pub type_passed : (grounds : Grounds) → to_z w32 (of_z w32 (reply_type grounds)) ≡ reply_type grounds
type_passed (ByAccount account) = refl
type_passed (ByHeader shown) = refl
type_passed (ForUser shown account asked) = refl
type_passed (ForHeadersUser shown asked) = refl
type_passed (ByEvidence shown evidence) = refl

kind_is : (grounds : Grounds) → msg_type_of (is_eleven (reply_type grounds)) ≡ reply_type grounds
kind_is (ByAccount account) = refl
kind_is (ByHeader shown) = refl
kind_is (ForUser shown account asked) = refl
kind_is (ForHeadersUser shown asked) = refl
kind_is (ByEvidence shown evidence) = refl

tgs_version : (session : Key) (subkey : Option Key) → IfSome (tgs_key session subkey).version (λ n. n < 2 ^ 32)
tgs_version session None = tt
tgs_version session (Some subkey) = tt

version_fits : (grounds : Grounds) → IsGrounds grounds → IfSome (reply_key grounds).version (λ n. n < 2 ^ 32)
version_fits (ByAccount account) h = h.1.key.version
version_fits (ByHeader shown) h = tgs_version shown.part.key shown.subkey
version_fits (ForUser shown account asked) h = tgs_version shown.part.key shown.subkey
version_fits (ForHeadersUser shown asked) h = tgs_version shown.part.key shown.subkey
version_fits (ByEvidence shown evidence) h = tgs_version shown.part.key shown.subkey

reply_is_writable : (grant : Grant) (block : List ℕ) → IsMadeReply grant block → IsWritableReply (reply_of grant block)
unfolding reply_of
reply_is_writable grant block m = record {
  pvno = refl;
  msg_type = kind_is grant.grounds;
  padata = padata_fit grant.grounds;
  crealm = m.record_is.part.crealm;
  same = refl;
  cname_kind = m.record_is.part.cname_kind;
  cname_parts = m.record_is.part.cname_parts;
  ticket = m.ticket_fits;
  enc_part = record { etype = etype_fits (reply_key grant.grounds).key.etype; kvno = version_fits grant.grounds m.given.grounds };
}

record IsBounded (grant : Grant) (block : List ℕ) : Type 0 where
  short : IsShortReply (reply_of grant block) (112 + 2 ^ 24) (2 ^ 25)
  cipher : length (reply_of grant block).enc_part.cipher ≤ 4124

reply_is_bounded : (grant : Grant) (block : List ℕ) → IsMadeReply grant block → IsBounded grant block
unfolding reply_of
reply_is_bounded grant block m = record {
  short = record { padata = padata_are_short grant.grounds m.given.grounds; ticket = let short = m.ticket_short in omega (arith, short) };
  cipher = m.cipher;
}

pub made_reply_fits : (grant : Grant) (block : List ℕ) → IsMadeReply grant block → kdc_rep.Fits (reply_of grant block)
made_reply_fits grant block m = reply_fits (reply_of grant block) (reply_is_writable grant block m)

pub made_reply_short : (grant : Grant) (block : List ℕ) → IsMadeReply grant block → length (kdc_rep.spelling (reply_of grant block)) < 2 ^ 31
made_reply_short grant block m =
    let w = reply_is_bounded grant block m in
    let all = reply_short (reply_of grant block) (112 + 2 ^ 24) (2 ^ 25) (reply_is_writable grant block m) w.short in
    let cipher = w.cipher in
    omega (arith, all, cipher)

-- ---- what a reply is made of

pub reply_is : (grant : Grant) (block : List ℕ) (t : TicketRec) (kind : ℤ) (padata : Option (List PaData)) (crealm : List ℕ) (made : Ticket) (sealed : EncryptedData)
    → t ≡ granted_record grant block → kind ≡ reply_type grant.grounds → padata ≡ reply_padata grant.grounds → crealm ≡ t.client.realm → made ≡ ticket_made grant block
    → sealed ≡ sealed_with (reply_key grant.grounds) (reply_confounder block) (reply_part grant t)
    → (let reply : KdcRep = record { pvno = pos 5; msg_type = kind; padata = padata; crealm = crealm; cname = t.client; ticket = made; enc_part = sealed } in reply) ≡ reply_of grant block
unfolding reply_of
reply_is grant block t kind padata crealm made sealed is of_kind items realm ticket part =
    let whole = part ∙ ap (λ (t : TicketRec). sealed_with (reply_key grant.grounds) (reply_confounder block) (reply_part grant t)) is in
    let of = realm ∙ ap (λ (t : TicketRec). t.client.realm) is in
    λ i. record { pvno = pos 5; msg_type = of_kind i; padata = items i; crealm = of i; cname = (is i).client; ticket = ticket i; enc_part = whole i }
