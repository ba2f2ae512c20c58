-- EncAPRepPart ::= [APPLICATION 27] SEQUENCE { ctime [0] KerberosTime, cusec [1] Microseconds, subkey [2] EncryptionKey OPTIONAL, seq-number [3] UInt32 OPTIONAL } (RFC 4120, section 5.5.2); seq-number may be any integer.
use Rattle.std.specs.Prelude.{ℤ, Option}
use Rattle.der_core.specs.Codec.{Codec, explicit}
use Rattle.der_core.specs.Forms.{int}
use Rattle.der_forms.specs.Fields.{Fields, end, field, optional, made, sequence}
use Rattle.der_forms.specs.Keys.{encryption_key}
use Rattle.der_forms.specs.Times.{moment_time}
use Rattle.der_forms.specs.Values.{micros}
use Rattle.der_forms.specs.declared.time.MomentTime.{MomentTime}
use Rattle.der_forms.specs.declared.value.Micros.{Micros}
use Rattle.krb_names.specs.declared.key.Key.{Key}
use Rattle.krb_messages.specs.declared.enc_ap_rep.EncApRep.{EncApRep}

abbrev pub Parts : Type 0
Parts = MomentTime × (Micros × (Option Key × (Option ℤ × Unit {0})))

abbrev pub parts : Fields Parts
parts =
    field 0 moment_time (
    field 1 micros (
    optional 2 encryption_key (
    optional 3 int
    end)))

abbrev pub make : Parts → EncApRep
make (ctime, (cusec, (subkey, (seq_number, _)))) =
    record { ctime = ctime.0; cusec = cusec.0; subkey = subkey; seq_number = seq_number }

abbrev pub parts_of : EncApRep → Parts
parts_of x = (record { 0 = x.ctime }, (record { 0 = x.cusec }, (x.subkey, (x.seq_number, tt))))

abbrev pub fields : Fields EncApRep
fields = made parts make parts_of

abbrev pub enc_ap_rep : Codec EncApRep
enc_ap_rep = explicit 0x7b (sequence fields)
