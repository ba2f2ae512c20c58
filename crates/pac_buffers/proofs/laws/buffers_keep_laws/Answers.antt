use Rattle.ndr_core.proofs.FormLaws.{object_form, packed_form}
use Rattle.pac_buffers.specs.Client.{client}
use Rattle.pac_buffers.specs.Delegation.{delegation}
use Rattle.pac_buffers.specs.Requestor.{requestor}
use Rattle.pac_buffers.specs.Signature.{signature}
use Rattle.pac_buffers.proofs.InfoLaws.{client_lawful, delegation_lawful, requestor_lawful, signature_lawful}
use Rattle.pac_buffers.proofs.Readings.{front_form, front_once}
use Rattle.pac_buffers.proofs.laws.buffers_keep_laws.Goals as goal

pub returns-clause-client : goal.returns-clause-client
returns-clause-client c = packed_form client client_lawful

pub returns-clause-delegation : goal.returns-clause-delegation
returns-clause-delegation c = object_form delegation delegation_lawful

pub returns-clause-requestor : goal.returns-clause-requestor
returns-clause-requestor c = packed_form requestor requestor_lawful

pub returns-clause-signature : goal.returns-clause-signature
returns-clause-signature c = front_form signature signature_lawful

pub returns-clause-front : goal.returns-clause-front
returns-clause-front c = front_once signature signature_lawful
