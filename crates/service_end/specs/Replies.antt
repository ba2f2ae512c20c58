-- The answer to an AP-REQ that asks for mutual authentication (RFC 4120, sections 3.2.4 and 5.5.2).
use Rattle.std.specs.Prelude.{ℕ, List, Option, None, Some, pos, if◌then◌else◌}
use Rattle.krb_names.specs.Etypes.{etype_number}
use Rattle.krb_names.specs.declared.key.Key.{Key}
use Rattle.krb_crypto.specs.Encryption.{seal}
use Rattle.krb_tickets.specs.declared.encrypted_data.EncryptedData.{EncryptedData}
use Rattle.krb_messages.specs.declared.ap_rep.ApRep.{ApRep}
use Rattle.krb_messages.specs.declared.authenticator.Authenticator.{Authenticator}
use Rattle.krb_messages.specs.declared.enc_ap_rep.EncApRep.{EncApRep}
use Rattle.krb_messages.specs.ApRep.{ap_rep}
use Rattle.krb_messages.specs.EncApRep.{enc_ap_rep}
use Rattle.service_end.specs.declared.shown.Shown.{Shown}

-- what is sealed in it: the authenticator's time, without subkey and sequence number
abbrev pub reply_part : Authenticator → EncApRep
reply_part auth = record { ctime = auth.ctime; cusec = auth.cusec; subkey = None; seq_number = None }

-- what was sealed under a key, without a version
abbrev pub sealed_with : Key → List ℕ → EncryptedData
sealed_with key cipher = record { etype = pos (etype_number key.etype); kvno = None; cipher = cipher }

abbrev pub reply_with : EncryptedData → ApRep
reply_with sealed = record { pvno = pos 5; msg_type = pos 15; enc_part = sealed }

-- its bytes, under the session key with the usage of an AP-REP, after a confounder (RFC 4120, section 7.5.1)
unfoldable pub reply_bytes : List ℕ → Shown → List ℕ
reply_bytes conf shown =
    let key = shown.part.key in
    ap_rep.spelling (reply_with (sealed_with key (seal key 12 conf (enc_ap_rep.spelling (reply_part shown.auth)))))

-- there is one where it is asked for
abbrev pub reply_to : List ℕ → Shown → Option (List ℕ)
reply_to conf shown = if shown.mutual_required then Some (reply_bytes conf shown) else None
