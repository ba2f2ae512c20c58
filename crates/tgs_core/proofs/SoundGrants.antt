-- The record of a grant is sound.
use Rattle.std.proofs.Common.{◌≡◌, ℕ, zero, suc, ◌+◌, ◌-◌, ◌<◌, ◌≤◌, ◌^◌, Bool, true, false, ◌&&◌, List, [], ◌∷◌, ◌++◌, length, take, drop, replicate, pos, refl, sym, ap, ◌∙◌, subst, length-append, length-take, arith}
use Rattle.std.specs.Prelude.{FitsSigned, codes, if◌then◌else◌}
use Rattle.std.specs.Int.{w32}
use Rattle.std.specs.Str.{is_utf8}
use Rattle.std.proofs.lemmas.List.{drop_at, length-replicate, take-append-drop}
use Rattle.std.proofs.lemmas.List.Elements.{All-from_recursion, All-push}
use Rattle.std.proofs.lemmas.Str.{IsUtf8-from_is_utf8, chars-IsAscii, is_utf8-from_IsUtf8}
use lib.Pointwise.{bytes_decides}
use Rattle.der_core.specs.Laws.{IsBytes}
use Rattle.der_core.specs.Steps.{IsBytes-append, IsBytes-front}
use Rattle.kdc_prelude.proofs.Bools.{both}
use Rattle.krb_names.specs.declared.etype.Etype.{Etype}
use Rattle.krb_names.specs.declared.etype.Etype.TheVariants.{Aes128, Aes256}
use Rattle.krb_names.specs.declared.key.Key.{Key}
use Rattle.krb_names.specs.declared.principal.Principal.{Principal}
use Rattle.krb_names.specs.Etypes.{key_length}
use Rattle.krb_names.specs.Keys.{is_padded, key_of}
use Rattle.krb_names.specs.Pieces.{is_name}
use Rattle.krb_names.specs.SidValue.{followed_by}
use Rattle.krb_tickets.specs.Transited.{is_realm}
use Rattle.ticket_laws.specs.Writable.{are_parts}
use Rattle.kdc_records.specs.declared.decision.Aim.{Aim}
use Rattle.kdc_records.specs.declared.decision.Aim.TheVariants.{Krbtgt, Hop, Account}
use Rattle.kdc_records.specs.declared.decision.Terms.{Terms}
use Rattle.kdc_records.specs.declared.ticket_rec.TicketRec.{TicketRec}
use Rattle.dir_records.specs.declared.records.Account.{Account as AccountRec}
use Rattle.dir_records.specs.declared.records.RealmRec.{RealmRec}
use Rattle.dir_records.specs.declared.records.Trust.{Trust}
use Rattle.dir_records.specs.IsDirectory.{IsAccount, IsAccountInRange, IsRealm, IsRealmInRange, IsTrust, IsTrustInRange}
use Rattle.ticket_codec.specs.Made.{IsTicketName}
use Rattle.ticket_parts.specs.Sound.{IsNameText, IsSound, IsSoundSubject, IsUserSid}
use Rattle.tgs_core.proofs.ErrorForms.{are_ascii, ascii_is_text}
use Rattle.tgs_core.specs.Grants.{ByAccount, ByEvidence, ByHeader, ForHeadersUser, ForUser, Grant, Grounds, IsGrant, IsGrounds, auth_by, client_by, client_for, granted_record, hop_name, principal_of_account, principal_of_subject, session_key, subject_by, subject_of_account}

-- ---- the session key

at_most_32 : (e : Etype) → key_length e ≤ 32
at_most_32 Aes128 = omega arith
at_most_32 Aes256 = omega arith

pub IsBytes-zeros : (k : ℕ) → IsBytes (replicate k 0)
IsBytes-zeros zero i = omega arith
IsBytes-zeros (suc k) zero = omega arith
IsBytes-zeros (suc k) (suc i) = IsBytes-zeros k i

pub IsBytes-take : (n : ℕ) (bytes : List ℕ) → IsBytes bytes → IsBytes (take n bytes)
IsBytes-take n bytes h = IsBytes-front (take n bytes) (drop n bytes) (subst IsBytes (sym (take-append-drop n bytes)) h)

-- a key whose octets are as many as its type has
pub record IsSealingKey (key : Key) : Type 0 where
  pub size : length key.raw ≡ 32
  pub octets : IsBytes key.raw
  pub padding : is_padded key ≡ true

key_is : (e : Etype) (octets : List ℕ) → length octets ≡ key_length e → IsBytes octets → IsSealingKey (key_of e octets)
key_is e octets count bytes =
    let zeros : List ℕ = replicate (32 - length octets) 0 in
    let rest : drop (key_length e) (octets ++ zeros) ≡ replicate (32 - key_length e) 0 = drop_at octets zeros (key_length e) count ∙ ap (λ (n : ℕ). replicate (32 - n) 0) count in
    record {
      size = omega (arith, length-append octets zeros, length-replicate {A = ℕ} (32 - length octets) 0, count, at_most_32 e);
      octets = IsBytes-append octets zeros bytes (IsBytes-zeros (32 - length octets));
      padding = (bytes_decides (drop (key_length e) (octets ++ zeros)) (replicate (32 - key_length e) 0)).1 rest;
    }

pub session_key_is : (e : Etype) (block : List ℕ) → length block ≡ 64 → IsBytes block → IsSealingKey (session_key e block)
session_key_is e block long bytes =
    key_is e (take (key_length e) block) (omega (arith, length-take (key_length e) block, at_most_32 e, long)) (IsBytes-take (key_length e) block bytes)

-- ---- names

and_true : (a b : Bool) → a ≡ true → b ≡ true → (a && b) ≡ true
and_true a b h k = rw (h, k) refl

pub realm_is : (realm : RealmRec) → IsRealm realm → IsRealmInRange realm → is_realm realm.name ≡ true
realm_is realm h k = and_true (is_utf8 realm.name) (is_name realm.name) k.name h.name

pub account_is : (account : AccountRec) → IsAccount account → IsAccountInRange account → is_realm account.name ≡ true
account_is account h k = and_true (is_utf8 account.name) (is_name account.name) k.name (both (is_name account.name) _ h.name).0

pub lone_part : (name : List ℕ) → is_realm name ≡ true → are_parts (pos 1) (name ∷ []) ≡ true
lone_part name h = rw h refl

pub kind_fits : FitsSigned w32 (pos 1)
kind_fits = record { sfits = omega arith }

name_text : (name : List ℕ) → is_realm name ≡ true → IsNameText name
name_text name h = let tests = both (is_utf8 name) (is_name name) h in record { utf8 = IsUtf8-from_is_utf8 name tests.0; name = tests.1 }

-- ---- the ticket-granting service of a realm

krbtgt_is_text : is_realm (codes "krbtgt") ≡ true
krbtgt_is_text = rw (ascii_is_text (codes "krbtgt") refl, chars-IsAscii (codes "krbtgt") (are_ascii (codes "krbtgt") refl)) refl

pub krbtgt_parts : (realm : List ℕ) → is_realm realm ≡ true → are_parts (pos 2) (codes "krbtgt" ∷ realm ∷ []) ≡ true
krbtgt_parts realm h = rw (krbtgt_is_text, h) refl

partner_is : (trust : Trust) → IsTrust trust → IsTrustInRange trust → is_realm trust.partner ≡ true
partner_is trust h k = and_true (is_utf8 trust.partner) (is_name trust.partner) k.partner h.partner

pub hop_named : (realm : RealmRec) (trust : Trust) → IsRealm realm → IsRealmInRange realm → IsTrust trust → IsTrustInRange trust → IsTicketName realm.name (hop_name realm trust)
hop_named realm trust h k g l = record { realm = realm_is realm h k; same = refl; kind = record { sfits = omega arith }; parts = krbtgt_parts trust.partner (partner_is trust g l) }

-- ---- the user

sid_is : (realm : RealmRec) (account : AccountRec) → IsRealm realm → IsRealmInRange realm → IsAccountInRange account → IsUserSid (followed_by realm.sid account.number)
sid_is realm account h k l =
    let numbers : List ℕ = realm.sid.numbers in
    let count = length-append numbers (account.number ∷ []) in
    record {
      low = k.sid.authority;
      some = omega (arith, count, k.sid.some);
      few = omega (arith, count, h.sid);
      fits = All-push (λ (n : ℕ). n < 2 ^ 32) numbers account.number (All-from_recursion (λ (n : ℕ). n < 2 ^ 32) numbers k.sid.numbers) l.number;
    }

control_small : (disabled marked trusted : Bool) → 0x10 + (if disabled then 0x1 else 0) + (if marked then 0x4000 else 0) + (if trusted then 0x40000 else 0) < 2 ^ 32
control_small true true true = omega arith
control_small true true false = omega arith
control_small true false true = omega arith
control_small true false false = omega arith
control_small false true true = omega arith
control_small false true false = omega arith
control_small false false true = omega arith
control_small false false false = omega arith

subject_is : (realm : RealmRec) (account : AccountRec) → IsRealm realm → IsRealmInRange realm → IsAccount account → IsAccountInRange account → IsSoundSubject (subject_of_account realm account)
subject_is realm account h k g l = record {
  name = name_text account.name (account_is account g l);
  realm = name_text realm.name (realm_is realm h k);
  sid = sid_is realm account h k l;
  control = control_small account.disabled account.not_delegated account.trusted_to_auth;
  few = let few = g.few_groups in omega (arith, few);
  groups = All-from_recursion (λ (n : ℕ). n < 2 ^ 32) account.groups l.groups;
}

-- ---- the client

-- a name that can be written in a ticket
record IsClient (client : Principal) : Type 0 where
  realm : is_realm client.realm ≡ true
  kind : FitsSigned w32 client.kind
  parts : are_parts client.kind client.parts ≡ true

account_client : (realm : RealmRec) (account : AccountRec) → IsRealm realm → IsRealmInRange realm → IsAccount account → IsAccountInRange account → IsClient (principal_of_account realm account)
account_client realm account h k g l = record { realm = realm_is realm h k; kind = kind_fits; parts = lone_part account.name (account_is account g l) }

shown_client : (rec : TicketRec) → IsSound rec → IsClient rec.client
shown_client rec h = record { realm = h.part.crealm; kind = h.part.cname_kind; parts = h.part.cname_parts }

text_is_realm : (text : List ℕ) → IsNameText text → is_realm text ≡ true
text_is_realm text h = and_true (is_utf8 text) (is_name text) (is_utf8-from_IsUtf8 text h.utf8) h.name

user_client : (rec : TicketRec) → IsSound rec → IsClient (principal_of_subject rec.subject)
user_client rec h = record {
  realm = text_is_realm rec.subject.realm h.subject.realm;
  kind = kind_fits;
  parts = lone_part rec.subject.name (text_is_realm rec.subject.name h.subject.name);
}

client_for_is : (aim : Aim) (user requestor : Principal) → IsClient user → IsClient requestor → IsClient (client_for aim user requestor)
client_for_is Krbtgt user requestor h k = k
client_for_is (Hop trust) user requestor h k = k
client_for_is (Account account) user requestor h k = h

client_is : (realm : RealmRec) (aim : Aim) (grounds : Grounds) → IsRealm realm → IsRealmInRange realm → IsGrounds grounds → IsClient (client_by realm aim grounds)
client_is realm aim (ByAccount account) h k of = account_client realm account h k of.0 of.1
client_is realm aim (ByHeader shown) h k of = shown_client shown.rec of
client_is realm aim (ForUser shown account asked) h k of =
    client_for_is aim (principal_of_account realm account) shown.rec.client (account_client realm account h k of.0.0 of.0.1) (shown_client shown.rec of.1.0)
client_is realm aim (ForHeadersUser shown asked) h k of = client_for_is aim (principal_of_subject shown.rec.subject) shown.rec.client (user_client shown.rec of.0) (shown_client shown.rec of.0)
client_is realm aim (ByEvidence shown evidence) h k of = client_for_is aim (principal_of_subject evidence.rec.subject) shown.rec.client (user_client evidence.rec of.1) (shown_client shown.rec of.0)

-- ---- the other columns

subject_by_is : (realm : RealmRec) (grounds : Grounds) → IsRealm realm → IsRealmInRange realm → IsGrounds grounds → IsSoundSubject (subject_by realm grounds)
subject_by_is realm (ByAccount account) h k of = subject_is realm account h k of.0 of.1
subject_by_is realm (ByHeader shown) h k of = of.subject
subject_by_is realm (ForUser shown account asked) h k of = subject_is realm account h k of.0.0 of.0.1
subject_by_is realm (ForHeadersUser shown asked) h k of = of.0.subject
subject_by_is realm (ByEvidence shown evidence) h k of = of.1.subject

auth_is : (terms : Terms) (grounds : Grounds) → terms.start ≤ 253402300799 → IsGrounds grounds → auth_by terms grounds ≤ 253402300799
auth_is terms (ByAccount account) start of = start
auth_is terms (ByHeader shown) start of = of.part.auth
auth_is terms (ForUser shown account asked) start of = of.1.0.part.auth
auth_is terms (ForHeadersUser shown asked) start of = of.0.part.auth
auth_is terms (ByEvidence shown evidence) start of = of.1.part.auth

-- ---- the record

pub grant_is_sound : (grant : Grant) (block : List ℕ) → IsGrant grant → length block ≡ 64 → IsBytes block → IsSound (granted_record grant block)
unfolding granted_record
grant_is_sound grant block h long bytes =
    let key = session_key_is grant.terms.session block long bytes in
    let client = client_is grant.realm grant.terms.aim grant.grounds h.realm h.range h.grounds in
    record {
      part = record {
        flags = h.flags;
        key_length = key.size;
        key_octets = key.octets;
        key_padding = key.padding;
        crealm = client.realm;
        cname_kind = client.kind;
        cname_parts = client.parts;
        transited = h.grantable.way;
        auth = auth_is grant.terms grant.grounds h.start h.grounds;
        start = h.start;
        end = h.end;
        items = tt;
      };
      subject = subject_by_is grant.realm grant.grounds h.realm h.range h.grounds;
      delegation = h.grantable.delegation;
    }
