-- What a PAC says of a record can be written, and tells of the record again.
use Rattle.std.proofs.Common.{◌≡◌, ℕ, ◌+◌, ◌-◌, ◌<◌, ◌≤◌, ◌^◌, List, [], ◌∷◌, ◌++◌, get_or, length, take, Option, Some, None, refl, sym, ap, ◌∙◌, arith}
use Rattle.std.specs.Prelude.{IfSome, option_map}
use Rattle.std.proofs.lemmas.List.{length-take-le, take_all, take_more}
use Rattle.std.proofs.lemmas.List.Elements.{All-get_or, All-take}
use Rattle.krb_names.specs.SidValue.{domain_of, followed_by, number_of, SidValue}
use Rattle.pac_laws.specs.Writable.{IsWritableClient, IsWritableDelegation}
use Rattle.pac_logon.specs.Logon.{IsDomainSid, IsWritable}
use Rattle.kdc_records.specs.declared.subject.Delegation.{Delegation}
use Rattle.kdc_records.specs.declared.subject.Subject.{Subject}
use Rattle.kdc_records.specs.declared.ticket_rec.TicketRec.{TicketRec}
use Rattle.ticket_parts.specs.Names.{filetime}
use Rattle.ticket_parts.specs.Parts.{client_of, delegation_of, logon_of}
use Rattle.ticket_parts.specs.Records.{delegation_from, subject_of}
use Rattle.ticket_parts.specs.Sound.{IsSound, IsUserSid}
use Rattle.ticket_parts.proofs.Names.{client_name_fits, name_fits}

-- ---- what can be written

time_fits : (seconds : ℕ) → seconds ≤ 253402300799 → filetime seconds < 2 ^ 64
time_fits seconds le = omega arith

domain_fits : (sid : SidValue) → IsUserSid sid → IsDomainSid (domain_of sid)
domain_fits sid h =
    let len : length (take (length sid.numbers - 1) sid.numbers) ≡ length sid.numbers - 1 = length-take-le (length sid.numbers - 1) sid.numbers (omega arith) in
    record {
      low = h.low;
      some = omega (arith, len, h.some);
      few = omega (arith, len, h.few);
      fits = All-take (λ n. n < 2 ^ 32) (length sid.numbers - 1) sid.numbers h.fits;
    }

number_fits : (sid : SidValue) → IsUserSid sid → number_of sid < 2 ^ 32
number_fits sid h = All-get_or (λ n. n < 2 ^ 32) sid.numbers (length sid.numbers - 1) 0 (omega (arith, h.some)) h.fits

pub logon_writable : (t : TicketRec) → IsSound t → IsWritable (logon_of t)
logon_writable t h = record {
  time = time_fits t.auth h.part.auth;
  name = name_fits t.subject.name h.subject.name;
  domain = name_fits t.subject.realm h.subject.realm;
  domain_sid = domain_fits t.subject.sid h.subject.sid;
  number = number_fits t.subject.sid h.subject.sid;
  control = h.subject.control;
  few = h.subject.few;
  groups = h.subject.groups;
}

pub client_writable : (t : TicketRec) → IsSound t → IsWritableClient (client_of t)
client_writable t h = record {
  time = time_fits t.auth h.part.auth;
  name = client_name_fits t.subject.name t.subject.realm t.client h.subject.name h.subject.realm;
}

writable_by : (o : Option Delegation) → IfSome o (λ d. IsWritableDelegation (delegation_of d)) → IfSome (option_map delegation_of o) (λ d. IsWritableDelegation d)
writable_by None h = tt
writable_by (Some d) h = h

pub delegation_writable : (t : TicketRec) → IsSound t → IfSome (option_map delegation_of t.delegation) (λ d. IsWritableDelegation d)
delegation_writable t h = writable_by t.delegation h.delegation

-- ---- the record again

numbers_again : (numbers : List ℕ) → 2 ≤ length numbers → take (length numbers - 1) numbers ++ get_or numbers (length numbers - 1) 0 ∷ [] ≡ numbers
numbers_again numbers some =
    let all : length numbers - 1 + 1 ≡ length numbers = omega arith in
    sym (take_more numbers (length numbers - 1) 0 (omega arith)) ∙ take_all (length numbers - 1 + 1) numbers (omega arith)

pub sid_again : (sid : SidValue) → 2 ≤ length sid.numbers → followed_by (domain_of sid) (number_of sid) ≡ sid
sid_again sid some = ap (λ (numbers : List ℕ). let made : SidValue = record { authority = sid.authority; numbers = numbers } in made) (numbers_again sid.numbers some)

pub subject_again : (t : TicketRec) → IsSound t → subject_of (logon_of t) ≡ t.subject
subject_again t h =
    let s : Subject = t.subject in
    ap (λ (sid : SidValue). let made : Subject = record { name = s.name; realm = s.realm; sid = sid; control = s.control; groups = s.groups } in made) (sid_again s.sid h.subject.sid.some)

pub delegation_back : (o : Option Delegation) → option_map delegation_from (option_map delegation_of o) ≡ o
delegation_back None = refl
delegation_back (Some d) = refl
