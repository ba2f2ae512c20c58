-- PAC_REQUESTOR (MS-PAC, section 2.15): UserSid, a SID in its packed form.
use Rattle.ndr_core.specs.Layout.{Layout, mapped}
use Rattle.ndr_values.specs.Sids.{packed_sid}
use Rattle.pac_buffers.specs.declared.requestor.Requestor.{Requestor}

abbrev pub requestor : Layout Requestor
requestor = mapped packed_sid (λ sid. record { sid = sid }) (λ r. r.sid)
