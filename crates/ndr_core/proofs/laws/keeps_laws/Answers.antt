use Rattle.ndr_core.proofs.FieldLaws.{number8_lawful, number16_lawful, number32_lawful, raw_lawful, pointer_lawful, pointer_to_lawful}
use Rattle.ndr_core.proofs.ArrayLaws.{units_lawful, count_lawful}
use Rattle.ndr_core.proofs.ObjectLaws.{header_lawful}
use Rattle.ndr_core.proofs.laws.keeps_laws.Goals as goal

pub returns-clause-numbers : goal.returns-clause-numbers
returns-clause-numbers c = (number8_lawful, number16_lawful, number32_lawful)

pub returns-clause-bytes : goal.returns-clause-bytes
returns-clause-bytes c = raw_lawful

pub returns-clause-pointers : goal.returns-clause-pointers
returns-clause-pointers c = (pointer_lawful, pointer_to_lawful)

pub returns-clause-strings : goal.returns-clause-strings
returns-clause-strings c = units_lawful

pub returns-clause-counts : goal.returns-clause-counts
returns-clause-counts c = count_lawful

pub returns-clause-header : goal.returns-clause-header
returns-clause-header c = header_lawful
