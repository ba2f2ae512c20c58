use Rattle.der_core.specs.FormLaws.{int_lawful, bits_lawful, octets_lawful, text_lawful}
use Rattle.der_core.proofs.laws.single_values_keep_laws.Goals as goal

pub returns : goal.returns
returns c = record { integers = int_lawful; bit_strings = bits_lawful; octet_strings = octets_lawful; texts = text_lawful }
