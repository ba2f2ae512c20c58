-- PA-PAC-OPTIONS ::= SEQUENCE { flags [0] KerberosFlags } (MS-KILE, section 2.2.10)
use Rattle.der_core.specs.Codec.{Codec}
use Rattle.der_forms.specs.declared.value.Flags.{Flags}
use Rattle.der_forms.specs.Fields.{Fields, end, field, made, sequence}
use Rattle.der_forms.specs.Values.{flags as option_flags}
use Rattle.s4u_padata.specs.declared.pac_options.PacOptions.{PacOptions}

abbrev pub Parts : Type 0
Parts = Flags × Unit {0}

abbrev pub parts : Fields Parts
parts =
    field 0 option_flags
    end

abbrev pub make : Parts → PacOptions
make (flags, _) = record { flags = flags.0 }

abbrev pub parts_of : PacOptions → Parts
parts_of x = (record { 0 = x.flags }, tt)

abbrev pub fields : Fields PacOptions
fields = made parts make parts_of

abbrev pub pac_options : Codec PacOptions
pac_options = sequence fields
