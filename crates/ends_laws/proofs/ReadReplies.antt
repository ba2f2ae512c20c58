-- The reply to a granted request reads as it is spelt.
use Rattle.std.proofs.Common.{◌≡◌, ℕ, ◌+◌, ◌<◌, ◌≤◌, ◌^◌, List, length, drop, Ok, arith, length-drop, length-take}
use Rattle.aes_core.specs.Inverses.{AreBytes, IsBlock}
use Rattle.der_core.specs.Codec.{Codec, whole}
use Rattle.der_core.specs.CodecLaws.{alone_lawful}
use Rattle.der_core.specs.Laws.{IsBytes, IsCodec}
use Rattle.krb_names.specs.declared.key.Key.{Key}
use Rattle.krb_crypto.proofs.ByteSums.{bytes_below}
use Rattle.krb_crypto.specs.BlockCipher.{IsKey}
use Rattle.krb_crypto.specs.Encryption.{seal}
use Rattle.krb_tickets.specs.EncTicketPart.{enc_ticket_part}
use Rattle.krb_messages.specs.EncKdcRep.{enc_kdc_rep}
use Rattle.krb_messages.specs.KdcRep.{kdc_rep}
use Rattle.krb_messages.specs.Laws.{kdc_rep_lawful}
use Rattle.kdc_records.specs.declared.ticket_rec.TicketRec.{TicketRec}
use Rattle.kdc_records.specs.Parties.{version_of}
use Rattle.ticket_parts.specs.Parts.{part}
use Rattle.ticket_parts.specs.Sound.{IsSound}
use Rattle.ticket_parts.proofs.Written.{part_short, part_writable}
use Rattle.ticket_codec.proofs.Makes.{with_fits, with_short}
use Rattle.ticket_codec.proofs.PartBytes.{part_bytes}
use Rattle.tgs_core.specs.Grants.{Grant, IsGrant, granted_record, reply_confounder, ticket_confounder}
use Rattle.tgs_core.specs.Replies.{reply_key, reply_of, reply_part}
use Rattle.tgs_core.proofs.WrittenReplies.{IsMadeReply, made_reply_fits, made_reply_short, reply_part_short}
use Rattle.ends_laws.proofs.SealedBytes.{seal_bytes, seal_within}

pub whole_spelt : {X : Type 0} (c : Codec X) → IsCodec c → (x : X) → c.Fits x → length (c.spelling x) < 2 ^ 32 → whole c (c.spelling x) ≡ Ok x
whole_spelt c lawful x fits short = (alone_lawful c lawful).only (record { place = 0; bytes = c.spelling x }) x (lawful.spelt x fits short)

-- ---- what is sealed in it

confounder_long : (block : List ℕ) → length block ≡ 64 → length (reply_confounder block) ≡ 16
confounder_long block long = omega (arith, length-take 16 (drop 48 block), length-drop 48 block, long)

reply_sealed : (grant : Grant) (block : List ℕ) (t : TicketRec) → IsGrant grant → IsSound t → length block ≡ 64
    → length (seal (reply_key grant.grounds).key (reply_key grant.grounds).usage (reply_confounder block) (enc_kdc_rep.spelling (reply_part grant t))) ≤ 4124
reply_sealed grant block t given sound long =
    let key : Key = (reply_key grant.grounds).key in
    let usage : ℕ = (reply_key grant.grounds).usage in
    let bytes : List ℕ = enc_kdc_rep.spelling (reply_part grant t) in
    omega (arith, seal_within key usage (reply_confounder block) bytes (confounder_long block long), reply_part_short grant t given sound)

-- ---- it is made so

pub made_reply : (grant : Grant) (block : List ℕ) → IsGrant grant → IsSound (granted_record grant block) → IsKey grant.holding.key.key → version_of (granted_record grant block).holder < 2 ^ 32
    → IsBlock (ticket_confounder block) → length block ≡ 64 → IsMadeReply grant block
made_reply grant block given sound own few confounder long =
    let t : TicketRec = granted_record grant block in
    let key : Key = grant.holding.key.key in
    let bytes : List ℕ = enc_ticket_part.spelling (part t key grant.realm.krbtgt.key) in
    let cipher : List ℕ = seal key 2 (ticket_confounder block) bytes in
    let are : AreBytes bytes = bytes_below bytes (part_bytes (part t key grant.realm.krbtgt.key) (part_writable t key grant.realm.krbtgt.key sound)) in
    let sealed : IsBytes cipher = seal_bytes key 2 (ticket_confounder block) bytes own confounder are in
    let size : length cipher ≤ length bytes + 28 = seal_within key 2 (ticket_confounder block) bytes confounder.0 in
    let short : length cipher < 2 ^ 24 + 28 = omega (arith, size, part_short t key grant.realm.krbtgt.key sound) in
    record {
      given = given;
      record_is = sound;
      ticket_fits = with_fits t.holder grant.server grant.realm.name key cipher given.server few sealed;
      ticket_short = with_short t.holder grant.server grant.realm.name key cipher given.server few sealed short;
      cipher = reply_sealed grant block t given sound long;
    }

pub reply_reads : (grant : Grant) (block : List ℕ) → IsGrant grant → IsSound (granted_record grant block) → IsKey grant.holding.key.key → version_of (granted_record grant block).holder < 2 ^ 32
    → IsBlock (ticket_confounder block) → length block ≡ 64 → whole kdc_rep (kdc_rep.spelling (reply_of grant block)) ≡ Ok (reply_of grant block)
reply_reads grant block given sound own few confounder long =
    let made = made_reply grant block given sound own few confounder long in
    whole_spelt kdc_rep kdc_rep_lawful (reply_of grant block) (made_reply_fits grant block made) (omega (arith, made_reply_short grant block made))
