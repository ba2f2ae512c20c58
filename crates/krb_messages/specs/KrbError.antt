-- KRB-ERROR ::= [APPLICATION 30] SEQUENCE (RFC 4120, section 5.9.1); pvno is 5, msg-type 30. The realm of cname is crealm, or realm where crealm is absent.
use Rattle.std.specs.Prelude.{ℕ, ℤ, pos, List, Option}
use Rattle.der_core.specs.Codec.{Codec, explicit}
use Rattle.der_core.specs.Forms.{int32, octets, text, number_is}
use Rattle.der_forms.specs.Defaults.{or_usual}
use Rattle.der_forms.specs.Fields.{Fields, end, field, optional, made, sequence}
use Rattle.der_forms.specs.Names.{realm as realm_name}
use Rattle.der_forms.specs.Times.{kerberos_time, moment_time, bare_time, each_time}
use Rattle.der_forms.specs.Values.{micros, bare_micros, each_micros}
use Rattle.der_forms.specs.declared.time.MomentTime.{MomentTime}
use Rattle.der_forms.specs.declared.value.Micros.{Micros}
use Rattle.krb_tickets.specs.PrincipalName.{principal_name, in_realm, name_of, named, unnamed}
use Rattle.krb_tickets.specs.declared.principal_name.PrincipalName.{PrincipalName}
use Rattle.krb_messages.specs.declared.krb_error.KrbError.{KrbError}

abbrev pub Parts : Type 0
Parts = Unit {0} × (Unit {0} × (Option MomentTime × (Option Micros × (ℕ × (ℤ × (ℤ × (Option (List ℕ) × (Option PrincipalName × (List ℕ × (PrincipalName × (Option (List ℕ) × (Option (List ℕ) × Unit {0}))))))))))))

abbrev pub parts : Fields Parts
parts =
    field 0 (number_is (pos 5)) (
    field 1 (number_is (pos 30)) (
    optional 2 moment_time (
    optional 3 micros (
    field 4 kerberos_time (
    field 5 int32 (
    field 6 int32 (
    optional 7 realm_name (
    optional 8 principal_name (
    field 9 realm_name (
    field 10 principal_name (
    optional 11 text (
    optional 12 octets
    end))))))))))))

abbrev pub make : Parts → KrbError
make (_, (_, (ctime, (cusec, (stime, (susec, (error_code, (crealm, (cname, (realm, (sname, (e_text, (e_data, _))))))))))))) =
    record { pvno = pos 5; msg_type = pos 30; ctime = bare_time ctime; cusec = bare_micros cusec; stime = stime; susec = susec; error_code = error_code; crealm = crealm; cname = named (or_usual realm crealm) cname; realm = realm; sname = in_realm sname realm; e_text = e_text; e_data = e_data }

abbrev pub parts_of : KrbError → Parts
parts_of x = (tt, (tt, (each_time x.ctime, (each_micros x.cusec, (x.stime, (x.susec, (x.error_code, (x.crealm, (unnamed x.cname, (x.realm, (name_of x.sname, (x.e_text, (x.e_data, tt)))))))))))))

abbrev pub fields : Fields KrbError
fields = made parts make parts_of

unfoldable pub krb_error : Codec KrbError
krb_error = explicit 0x7e (sequence fields)
