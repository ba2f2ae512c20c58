-- EncASRepPart ::= [APPLICATION 25] EncKDCRepPart, EncTGSRepPart ::= [APPLICATION 26] EncKDCRepPart (RFC 4120, section 5.4.2); caddr and encrypted-pa-data are read past.
use Rattle.std.specs.Prelude.{ℕ, List, Option, Bool, nat_eq}
use Rattle.der_core.specs.Codec.{Codec}
use Rattle.der_forms.specs.Choices.{choice, tag_in}
use Rattle.der_forms.specs.Fields.{Fields, end, field, optional, dropped, made, sequence}
use Rattle.der_forms.specs.Keys.{encryption_key}
use Rattle.der_forms.specs.Lists.{sequence_of}
use Rattle.der_forms.specs.Names.{realm as realm_name}
use Rattle.der_forms.specs.Times.{kerberos_time}
use Rattle.der_forms.specs.Values.{nonce as nonce_number, flags as ticket_flags}
use Rattle.der_forms.specs.declared.value.Flags.{Flags}
use Rattle.der_forms.specs.declared.value.Nonce.{Nonce}
use Rattle.krb_names.specs.declared.key.Key.{Key}
use Rattle.krb_tickets.specs.HostAddress.{host_address}
use Rattle.krb_tickets.specs.PrincipalName.{principal_name, in_realm, name_of}
use Rattle.krb_tickets.specs.declared.principal_name.PrincipalName.{PrincipalName}
use Rattle.krb_messages.specs.LastReq.{last_req as last_req_form}
use Rattle.krb_messages.specs.PaData.{pa_data}
use Rattle.krb_messages.specs.declared.enc_kdc_rep.EncKdcRep.{EncKdcRep}
use Rattle.krb_messages.specs.declared.last_req.LastReq.{LastReq}

abbrev pub Parts : Type 0
Parts = Key × (List LastReq × (Nonce × (Option ℕ × (Flags × (ℕ × (Option ℕ × (ℕ × (Option ℕ × (List ℕ × (PrincipalName × Unit {0}))))))))))

abbrev pub parts : Fields Parts
parts =
    field 0 encryption_key (
    field 1 (sequence_of last_req_form) (
    field 2 nonce_number (
    optional 3 kerberos_time (
    field 4 ticket_flags (
    field 5 kerberos_time (
    optional 6 kerberos_time (
    field 7 kerberos_time (
    optional 8 kerberos_time (
    field 9 realm_name (
    field 10 principal_name (
    dropped 11 (sequence_of host_address) (
    dropped 12 (sequence_of pa_data)
    end))))))))))))

abbrev pub make : Bool → Parts → EncKdcRep
make is_as (key, (last_req, (nonce, (key_expiration, (flags, (authtime, (starttime, (endtime, (renew_till, (srealm, (sname, _))))))))))) =
    record { tag = tag_in 0x79 0x7a is_as; key = key; last_req = last_req; nonce = nonce.0; key_expiration = key_expiration; flags = flags.0; authtime = authtime; starttime = starttime; endtime = endtime; renew_till = renew_till; srealm = srealm; sname = in_realm sname srealm }

abbrev pub parts_of : EncKdcRep → Parts
parts_of x = (x.key, (x.last_req, (record { 0 = x.nonce }, (x.key_expiration, (record { 0 = x.flags }, (x.authtime, (x.starttime, (x.endtime, (x.renew_till, (x.srealm, (name_of x.sname, tt)))))))))))

abbrev pub fields : Bool → Fields EncKdcRep
fields is_as = made parts (make is_as) parts_of

abbrev pub is_first_tag : ℕ → Bool
is_first_tag tag = nat_eq tag 0x79

abbrev pub is_as_part : EncKdcRep → Bool
is_as_part x = is_first_tag x.tag

unfoldable pub enc_kdc_rep : Codec EncKdcRep
enc_kdc_rep = choice 0x79 0x7a is_as_part (λ is_as. sequence (fields is_as))
