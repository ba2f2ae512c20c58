-- The reply to a granted request (RFC 4120, sections 3.1.3 and 5.4.2).
use Rattle.std.specs.Prelude.{ℕ, ℤ, pos, List, [], ◌∷◌, Option, None, Some, if◌then◌else◌}
use Rattle.krb_names.specs.declared.key.Key.{Key}
use Rattle.krb_names.specs.Etypes.{etype_number}
use Rattle.krb_crypto.specs.Checksums.{mac}
use Rattle.krb_crypto.specs.Encryption.{seal}
use Rattle.der_forms.specs.Lists.{sequence_of}
use Rattle.krb_tickets.specs.declared.encrypted_data.EncryptedData.{EncryptedData}
use Rattle.krb_tickets.specs.declared.ticket.Ticket.{Ticket}
use Rattle.krb_messages.specs.declared.enc_kdc_rep.EncKdcRep.{EncKdcRep}
use Rattle.krb_messages.specs.declared.etype_info2.EtypeInfo2Entry.{EtypeInfo2Entry}
use Rattle.krb_messages.specs.declared.kdc_rep.KdcRep.{KdcRep}
use Rattle.krb_messages.specs.declared.pa_data.PaData.{PaData}
use Rattle.krb_messages.specs.EncKdcRep.{enc_kdc_rep}
use Rattle.krb_messages.specs.EtypeInfo2Entry.{etype_info2_entry}
use Rattle.krb_messages.specs.KdcRep.{kdc_rep}
use Rattle.pac_sign.specs.Sums.{sum_type}
use Rattle.s4u_padata.specs.declared.x509_user.X509User.{X509User}
use Rattle.s4u_padata.specs.X509User.{x509_user}
use Rattle.kdc_records.specs.declared.ticket_rec.TicketRec.{TicketRec}
use Rattle.kdc_records.specs.Bits.{has_bit}
use Rattle.dir_records.specs.declared.records.Account.{Account as AccountRec}
use Rattle.ticket_codec.specs.Made.{ticket_of}
use Rattle.tgs_core.specs.declared.reply_key.ReplyKey.{ReplyKey}
use Rattle.tgs_core.specs.Grants.{ByAccount, ByEvidence, ByHeader, ForHeadersUser, ForUser, Grant, Grounds, granted_record, reply_confounder, ticket_confounder}

-- PA-ETYPE-INFO2 of an account's key: its type and salt (RFC 4120, section 5.2.7.5)
abbrev pub key_entry : AccountRec → EtypeInfo2Entry
key_entry account = record { etype = pos (etype_number account.key.key.etype); salt = Some account.salt; s2kparams = None }

abbrev pub key_info : AccountRec → PaData
key_info account = record { padata_type = pos 19; padata_value = (sequence_of etype_info2_entry).spelling (key_entry account ∷ []) }

-- ---- how the part of a reply is sealed: the key, its usage (RFC 4120, section 7.5.1), and the version that is told

-- of a TGS-REQ: with the subkey of its authenticator, else with the header's session key (RFC 4120, section 3.3.3)
abbrev pub tgs_key : Key → Option Key → ReplyKey
tgs_key session None = record { key = session; usage = 8; version = None }
tgs_key session (Some subkey) = record { key = subkey; usage = 9; version = None }

-- with the key of the account that asks, or a key that the header brings
abbrev pub reply_key : Grounds → ReplyKey
reply_key (ByAccount account) = record { key = account.key.key; usage = 3; version = Some account.key.version }
reply_key (ByHeader shown) = tgs_key shown.part.key shown.subkey
reply_key (ForUser shown account asked) = tgs_key shown.part.key shown.subkey
reply_key (ForHeadersUser shown asked) = tgs_key shown.part.key shown.subkey
reply_key (ByEvidence shown evidence) = tgs_key shown.part.key shown.subkey

-- the tag of what is sealed: EncASRepPart or EncTGSRepPart
abbrev pub part_tag : Grounds → ℕ
part_tag (ByAccount account) = 0x79
part_tag (ByHeader shown) = 0x7a
part_tag (ForUser shown account asked) = 0x7a
part_tag (ForHeadersUser shown asked) = 0x7a
part_tag (ByEvidence shown evidence) = 0x7a

-- msg-type of an AS-REP or a TGS-REP
abbrev pub reply_type : Grounds → ℤ
reply_type (ByAccount account) = pos 11
reply_type (ByHeader shown) = pos 13
reply_type (ForUser shown account asked) = pos 13
reply_type (ForHeadersUser shown asked) = pos 13
reply_type (ByEvidence shown evidence) = pos 13

-- the usage of the checksum of padata that are echoed: 27 where the option 0x20000000 is set (MS-SFU, section 2.2.2)
abbrev pub echo_usage : X509User → ℕ
echo_usage asked = if has_bit 2 asked.options then 27 else 26

-- PA-S4U-X509-USER with the same user-id, as received, and a new checksum of a key's type
abbrev pub echo : Key → X509User → X509User
echo key asked = record asked { sum_type = pos (sum_type key.etype); sum = mac key (echo_usage asked) asked.id_bytes }

abbrev pub echo_padata : Key → X509User → PaData
echo_padata key asked = record { padata_type = pos 130; padata_value = x509_user.spelling (echo key asked) }

-- where PA-S4U-X509-USER is asked by, it is echoed (MS-SFU, section 3.2.5.1.1)
abbrev pub echoes : Key → Option X509User → Option (List PaData)
echoes key None = None
echoes key (Some asked) = Some (echo_padata key asked ∷ [])

-- the type and the salt of the key of an account that asks; the echo of S4U2self
abbrev pub reply_padata : Grounds → Option (List PaData)
reply_padata (ByAccount account) = Some (key_info account ∷ [])
reply_padata (ByHeader shown) = None
reply_padata (ForUser shown account asked) = echoes (tgs_key shown.part.key shown.subkey).key asked
reply_padata (ForHeadersUser shown asked) = echoes (tgs_key shown.part.key shown.subkey).key asked
reply_padata (ByEvidence shown evidence) = None

-- the ticket
abbrev pub ticket_made : Grant → List ℕ → Ticket
ticket_made grant block =
    ticket_of (granted_record grant block) grant.server grant.realm.name grant.holding.key.key grant.realm.krbtgt.key (ticket_confounder block)

-- what is sealed in the reply: of the ticket what the client has to know, and the time that the KDC has
abbrev pub reply_part : Grant → TicketRec → EncKdcRep
reply_part grant t = record {
  tag = part_tag grant.grounds;
  key = t.session;
  last_req = (record { lr_type = pos 0; lr_value = grant.terms.start }) ∷ [];
  nonce = grant.request.wish.nonce;
  key_expiration = None;
  flags = t.flags;
  authtime = t.auth;
  starttime = Some t.start;
  endtime = t.end;
  renew_till = None;
  srealm = grant.realm.name;
  sname = grant.server;
}

abbrev pub sealed_with : ReplyKey → List ℕ → EncKdcRep → EncryptedData
sealed_with with conf part = record {
  etype = pos (etype_number with.key.etype);
  kvno = with.version;
  cipher = seal with.key with.usage conf (enc_kdc_rep.spelling part);
}

unfoldable pub reply_of : Grant → List ℕ → KdcRep
reply_of grant block =
    let t = granted_record grant block in
    record {
      pvno = pos 5;
      msg_type = reply_type grant.grounds;
      padata = reply_padata grant.grounds;
      crealm = t.client.realm;
      cname = t.client;
      ticket = ticket_made grant block;
      enc_part = sealed_with (reply_key grant.grounds) (reply_confounder block) (reply_part grant t);
    }

-- its bytes
abbrev pub reply_bytes : Option Grant → List ℕ → List ℕ
reply_bytes None block = []
reply_bytes (Some grant) block = kdc_rep.spelling (reply_of grant block)
