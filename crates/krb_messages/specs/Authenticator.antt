-- Authenticator ::= [APPLICATION 2] SEQUENCE (RFC 4120, section 5.5.1); authenticator-vno is 5, authorization-data is read past.
use Rattle.std.specs.Prelude.{ℕ, ℤ, pos, List, Option}
use Rattle.der_core.specs.Codec.{Codec, explicit}
use Rattle.der_core.specs.Forms.{number_is, int}
use Rattle.der_forms.specs.Fields.{Fields, end, field, optional, dropped, made, sequence}
use Rattle.der_forms.specs.Keys.{encryption_key}
use Rattle.der_forms.specs.Lists.{sequence_of}
use Rattle.der_forms.specs.Names.{realm as realm_name}
use Rattle.der_forms.specs.Times.{moment_time}
use Rattle.der_forms.specs.Values.{micros}
use Rattle.der_forms.specs.declared.time.MomentTime.{MomentTime}
use Rattle.der_forms.specs.declared.value.Micros.{Micros}
use Rattle.krb_names.specs.declared.key.Key.{Key}
use Rattle.krb_tickets.specs.AuthItem.{auth_item}
use Rattle.krb_tickets.specs.PrincipalName.{principal_name, in_realm, name_of}
use Rattle.krb_tickets.specs.declared.principal_name.PrincipalName.{PrincipalName}
use Rattle.krb_messages.specs.Checksum.{checksum_form}
use Rattle.krb_messages.specs.declared.authenticator.Authenticator.{Authenticator}
use Rattle.krb_messages.specs.declared.checksum.Checksum.{Checksum}

abbrev pub Parts : Type 0
Parts = Unit {0} × (List ℕ × (PrincipalName × (Option Checksum × (Micros × (MomentTime × (Option Key × (Option ℤ × Unit {0})))))))

abbrev pub parts : Fields Parts
parts =
    field 0 (number_is (pos 5)) (
    field 1 realm_name (
    field 2 principal_name (
    optional 3 checksum_form (
    field 4 micros (
    field 5 moment_time (
    optional 6 encryption_key (
    optional 7 int (
    dropped 8 (sequence_of auth_item)
    end))))))))

abbrev pub make : Parts → Authenticator
make (_, (crealm, (cname, (cksum, (cusec, (ctime, (subkey, (seq_number, _)))))))) =
    record { authenticator_vno = pos 5; crealm = crealm; cname = in_realm cname crealm; cksum = cksum; cusec = cusec.0; ctime = ctime.0; subkey = subkey; seq_number = seq_number }

abbrev pub parts_of : Authenticator → Parts
parts_of x = (tt, (x.crealm, (name_of x.cname, (x.cksum, (record { 0 = x.cusec }, (record { 0 = x.ctime }, (x.subkey, (x.seq_number, tt))))))))

abbrev pub fields : Fields Authenticator
fields = made parts make parts_of

unfoldable pub authenticator : Codec Authenticator
authenticator = explicit 0x62 (sequence fields)
