-- Records that a ticket can be made of.
use Rattle.std.specs.Prelude.{◌≡◌, ℕ, ◌<◌, ◌≤◌, ◌^◌, true, List, length, All, IfSome}
use Rattle.std.specs.Str.{IsUtf8}
use Rattle.krb_names.specs.Pieces.{is_name}
use Rattle.krb_names.specs.SidValue.{SidValue}
use Rattle.pac_laws.specs.Writable.{IsWritableDelegation}
use Rattle.ticket_laws.specs.Writable.{IsWritablePart}
use Rattle.kdc_records.specs.declared.subject.Subject.{Subject}
use Rattle.kdc_records.specs.declared.ticket_rec.TicketRec.{TicketRec}
use Rattle.ticket_parts.specs.Parts.{bare_part, delegation_of}

-- a user's SID: the domain's, which has a number, and the user's number (MS-DTYP, section 2.4.2)
pub record IsUserSid (sid : SidValue) : Type 0 where
  pub low : sid.authority < 2 ^ 48
  pub some : 2 ≤ length sid.numbers
  pub few : length sid.numbers ≤ 15
  pub fits : All (λ n. n < 2 ^ 32) sid.numbers

-- a text that may stand in a name
pub record IsNameText (text : List ℕ) : Type 0 where
  pub utf8 : IsUtf8 text
  pub name : is_name text ≡ true

-- a user of at most 1,024 groups (own choice)
pub record IsSoundSubject (s : Subject) : Type 0 where
  pub name : IsNameText s.name
  pub realm : IsNameText s.realm
  pub sid : IsUserSid s.sid
  pub control : s.control < 2 ^ 32
  pub few : length s.groups ≤ 1024
  pub groups : All (λ n. n < 2 ^ 32) s.groups

-- flags, session key, client, transited realms and times can be written, and so can the user and the delegation
pub record IsSound (t : TicketRec) : Type 0 where
  pub part : IsWritablePart (bare_part t)
  pub subject : IsSoundSubject t.subject
  pub delegation : IfSome t.delegation (λ d. IsWritableDelegation (delegation_of d))
