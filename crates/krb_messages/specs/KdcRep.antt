-- AS-REP ::= [APPLICATION 11] KDC-REP, TGS-REP ::= [APPLICATION 13] KDC-REP (RFC 4120, section 5.4.2); pvno is 5, msg-type the number of the tag.
use Rattle.std.specs.Prelude.{ℕ, ℤ, pos, negsuc, List, Option, Bool, false, nat_eq, if◌then◌else◌}
use Rattle.der_core.specs.Codec.{Codec}
use Rattle.der_core.specs.Forms.{number_is}
use Rattle.der_forms.specs.Choices.{choice}
use Rattle.der_forms.specs.Fields.{Fields, end, field, optional, made, sequence}
use Rattle.der_forms.specs.Lists.{sequence_of}
use Rattle.der_forms.specs.Names.{realm as realm_name}
use Rattle.krb_tickets.specs.EncryptedData.{encrypted_data}
use Rattle.krb_tickets.specs.PrincipalName.{principal_name, in_realm, name_of}
use Rattle.krb_tickets.specs.Ticket.{ticket}
use Rattle.krb_tickets.specs.declared.encrypted_data.EncryptedData.{EncryptedData}
use Rattle.krb_tickets.specs.declared.principal_name.PrincipalName.{PrincipalName}
use Rattle.krb_tickets.specs.declared.ticket.Ticket.{Ticket}
use Rattle.krb_messages.specs.PaData.{pa_data}
use Rattle.krb_messages.specs.declared.kdc_rep.KdcRep.{KdcRep}
use Rattle.krb_messages.specs.declared.pa_data.PaData.{PaData}

abbrev pub Parts : Type 0
Parts = Unit {0} × (Unit {0} × (Option (List PaData) × (List ℕ × (PrincipalName × (Ticket × (EncryptedData × Unit {0}))))))

-- of an AS-REP, or of a TGS-REP
abbrev pub msg_type_of : Bool → ℤ
msg_type_of is_as = if is_as then pos 11 else pos 13

abbrev pub parts : Bool → Fields Parts
parts is_as =
    field 0 (number_is (pos 5)) (
    field 1 (number_is (msg_type_of is_as)) (
    optional 2 (sequence_of pa_data) (
    field 3 realm_name (
    field 4 principal_name (
    field 5 ticket (
    field 6 encrypted_data
    end))))))

abbrev pub make : Bool → Parts → KdcRep
make is_as (_, (_, (padata, (crealm, (cname, (ticket, (enc_part, _))))))) =
    record { pvno = pos 5; msg_type = msg_type_of is_as; padata = padata; crealm = crealm; cname = in_realm cname crealm; ticket = ticket; enc_part = enc_part }

abbrev pub parts_of : KdcRep → Parts
parts_of x = (tt, (tt, (x.padata, (x.crealm, (name_of x.cname, (x.ticket, (x.enc_part, tt)))))))

abbrev pub fields : Bool → Fields KdcRep
fields is_as = made (parts is_as) (make is_as) parts_of

abbrev pub is_eleven : ℤ → Bool
is_eleven (pos n) = nat_eq n 11
is_eleven (negsuc n) = false

abbrev pub is_as_rep : KdcRep → Bool
is_as_rep x = is_eleven x.msg_type

unfoldable pub kdc_rep : Codec KdcRep
kdc_rep = choice 0x6b 0x6d is_as_rep (λ is_as. sequence (fields is_as))
