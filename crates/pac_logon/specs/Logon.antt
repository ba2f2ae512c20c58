-- The logon information of a PAC: KERB_VALIDATION_INFO (MS-PAC, section 2.5).
use Rattle.std.specs.Prelude.{ℕ, ◌<◌, ◌≤◌, ◌^◌, List, length, All}
use Rattle.std.specs.Str.{IsUtf8}
use Rattle.ndr_core.specs.Layout.{Layout, followed, mapped}
use Rattle.krb_names.specs.SidValue.{SidValue, followed_by}
use Rattle.krb_names.specs.Utf16.{utf16le_text}
use Rattle.pac_logon.specs.declared.members.Members.{Members}
use Rattle.pac_logon.specs.declared.logon_info.LogonInfo.{LogonInfo}
use Rattle.pac_logon.specs.Members.{members, names_of, account_heads_of, domain_heads_of, no_extra}
use Rattle.pac_logon.specs.Referents.{subject_behind}

-- how the members are written
abbrev pub members_of : LogonInfo → Members
members_of info = record {
  logon_time = info.time;
  names = names_of info.subject.name;
  account = account_heads_of info.subject.number info.subject.groups;
  domain = domain_heads_of info.subject.domain;
  user_account_control = info.subject.control;
  extra = no_extra;
}

-- the members, and behind them what they point to
abbrev pub logon : Layout LogonInfo
logon =
    mapped (followed members (λ m. subject_behind m))
    (λ (m, subject). record { subject = subject; time = m.logon_time })
    (λ info. (members_of info, info.subject))

-- LogonDomainId followed by UserId
abbrev pub subject_sid : LogonInfo → SidValue
subject_sid info = followed_by info.subject.domain_sid info.subject.number

-- ---- what can be written

-- a text of at most 32,767 units of UTF-16
pub record IsNdrText (text : List ℕ) : Type 0 where
  pub utf8 : IsUtf8 text
  pub few : length (utf16le_text text) ≤ 65534

-- an identifier that leaves room for a number
pub record IsDomainSid (sid : SidValue) : Type 0 where
  pub low : sid.authority < 2 ^ 48
  pub some : 1 ≤ length sid.numbers
  pub few : length sid.numbers ≤ 14
  pub fits : All (λ n. n < 2 ^ 32) sid.numbers

-- logon information that can be written: the ranges of its types, and at most 1,024 groups
pub record IsWritable (info : LogonInfo) : Type 0 where
  pub time : info.time < 2 ^ 64
  pub name : IsNdrText info.subject.name
  pub domain : IsNdrText info.subject.domain
  pub domain_sid : IsDomainSid info.subject.domain_sid
  pub number : info.subject.number < 2 ^ 32
  pub control : info.subject.control < 2 ^ 32
  pub few : length info.subject.groups ≤ 1024
  pub groups : All (λ n. n < 2 ^ 32) info.subject.groups
