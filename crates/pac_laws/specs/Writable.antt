-- What can be written into a PAC, beside its logon information.
use Rattle.std.specs.Prelude.{◌<◌, ◌≤◌, ◌^◌, length, All}
use Rattle.pac_buffers.specs.declared.client_info.ClientInfo.{ClientInfo}
use Rattle.pac_buffers.specs.declared.delegation_info.DelegationInfo.{DelegationInfo}
use Rattle.pac_logon.specs.Logon.{IsNdrText}

-- client information (MS-PAC, section 2.7): a FILETIME of 64 bits, and a name of at most 32,767 units of UTF-16
pub record IsWritableClient (c : ClientInfo) : Type 0 where
  pub time : c.time < 2 ^ 64
  pub name : IsNdrText c.name

-- delegation information (MS-PAC, section 2.9): texts of at most 32,767 units of UTF-16, and at most 32 services (own choice)
pub record IsWritableDelegation (d : DelegationInfo) : Type 0 where
  pub target : IsNdrText d.target
  pub few : length d.services ≤ 32
  pub services : All (λ text. IsNdrText text) d.services
