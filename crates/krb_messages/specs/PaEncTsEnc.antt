-- PA-ENC-TS-ENC ::= SEQUENCE { patimestamp [0] KerberosTime, pausec [1] Microseconds OPTIONAL } (RFC 4120, section 5.2.7.2)
use Rattle.std.specs.Prelude.{Option}
use Rattle.der_core.specs.Codec.{Codec}
use Rattle.der_forms.specs.Fields.{Fields, end, field, optional, made, sequence}
use Rattle.der_forms.specs.Times.{moment_time}
use Rattle.der_forms.specs.Values.{micros, bare_micros, each_micros}
use Rattle.der_forms.specs.declared.time.MomentTime.{MomentTime}
use Rattle.der_forms.specs.declared.value.Micros.{Micros}
use Rattle.krb_messages.specs.declared.pa_enc_ts_enc.PaEncTsEnc.{PaEncTsEnc}

abbrev pub Parts : Type 0
Parts = MomentTime × (Option Micros × Unit {0})

abbrev pub parts : Fields Parts
parts =
    field 0 moment_time (
    optional 1 micros
    end)

abbrev pub make : Parts → PaEncTsEnc
make (patimestamp, (pausec, _)) =
    record { patimestamp = patimestamp.0; pausec = bare_micros pausec }

abbrev pub parts_of : PaEncTsEnc → Parts
parts_of x = (record { 0 = x.patimestamp }, (each_micros x.pausec, tt))

abbrev pub fields : Fields PaEncTsEnc
fields = made parts make parts_of

abbrev pub pa_enc_ts_enc : Codec PaEncTsEnc
pa_enc_ts_enc = sequence fields
