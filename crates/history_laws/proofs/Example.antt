-- Two examples, whose entries are alike in all that taint and lines do not look at.
--
-- In one realm: services web and db of A get initial tickets; web gets a ticket to itself for a user, and a ticket to db on that evidence; db
-- gets one to mail on its own evidence.
--
-- Across two realms that trust each other: web of A gets an initial ticket and a referral to B; there, by S4U2self, a referral back for a user
-- of B, and at home with it a ticket to itself for that user; then, by S4U2proxy on that evidence, a referral to B, which is the evidence there
-- for a ticket to db of B.
use Rattle.std.proofs.Common.{◌≡◌, ℕ, ◌+◌, Bool, true, false, List, [], ◌∷◌, pos, None, Some, refl}
use Rattle.std.specs.Prelude.{codes, map, option_map}
use Rattle.krb_names.specs.declared.etype.Etype.TheVariants.{Aes256}
use Rattle.krb_names.specs.declared.principal.Principal.{Principal}
use Rattle.krb_tickets.specs.declared.enc_ticket_part.EncTicketPart.{EncTicketPart}
use Rattle.krb_tickets.specs.SamePart.{same_part}
use Rattle.kdc_records.specs.declared.decision.Aim.{Aim}
use Rattle.kdc_records.specs.declared.decision.Aim.TheVariants as aims
use Rattle.kdc_records.specs.declared.holder.Holder.{Holder}
use Rattle.kdc_records.specs.declared.holder.Holder.TheVariants.{Krbtgt, Trust, Account}
use Rattle.kdc_records.specs.Parties.{same_party}
use Rattle.kdc_records.specs.declared.subject.Subject.{Subject}
use Rattle.dir_records.specs.declared.records.Account.{Account as AccountRec}
use Rattle.tgs_core.specs.Grants.{ByAccount, ByEvidence, ByHeader, ForHeadersUser, ForUser, Grant, Grounds, Presented, ShownTicket, granted_record, subject_of_account}
use Rattle.history_laws.specs.Chains.{ends_in_root, links, services_told}
use Rattle.history_laws.specs.Entries.{Entry}
use Rattle.history_laws.specs.Places.{Place, is_tainted, place, user_line}

-- ---- tickets

abbrev named : List ℕ → Principal
named name = record { kind = pos 1; parts = name ∷ []; realm = codes "A" }

-- what is sealed in the ticket of a number
abbrev sealed : ℕ → EncTicketPart
sealed n = record { flags = n; key = record { etype = Aes256; raw = [] }; client = named (codes "c"); transited = []; auth = 0; start = None; end = 0; items = [] }

abbrev granted : Entry → Holder → ℕ → Grounds → Entry
granted any holder n grounds = record any {
  ticket = record any.ticket { holder = holder };
  part = sealed n;
  grant = record any.grant { realm = record any.grant.realm { name = codes "A" }; grounds = grounds };
}

-- shown later, under a newer version of its holder's key
abbrev header : Entry → List ℕ → ℕ → Presented
header any client n = record { rec = record any.ticket { holder = Krbtgt (codes "A") 2; client = named client }; part = sealed n; subkey = None }

abbrev evidence : Entry → Holder → ℕ → ShownTicket
evidence any holder n = record { rec = record any.ticket { holder = holder }; part = sealed n }

-- ---- one realm

abbrev web_login : Entry → AccountRec → Entry
web_login any account = granted any (Krbtgt (codes "A") 1) 1 (ByAccount account)

abbrev db_login : Entry → AccountRec → Entry
db_login any account = granted any (Krbtgt (codes "A") 1) 2 (ByAccount account)

abbrev to_web : Entry → AccountRec → Entry
to_web any account = granted any (Account (codes "A") 1001 1) 3 (ForUser (header any (codes "web") 1) account None)

abbrev to_db : Entry → Entry
to_db any = granted any (Account (codes "A") 1002 1) 4 (ByEvidence (header any (codes "web") 1) (evidence any (Account (codes "A") 1001 2) 3))

abbrev to_mail : Entry → Entry
to_mail any = granted any (Account (codes "A") 1003 1) 5 (ByEvidence (header any (codes "db") 2) (evidence any (Account (codes "A") 1002 2) 4))

abbrev earlier : Entry → AccountRec → List Entry
earlier any account = to_db any ∷ to_web any account ∷ db_login any account ∷ web_login any account ∷ []

-- -- with all of them

untainted : (any : Entry) (account : AccountRec) → is_tainted (earlier any account) (to_mail any) ≡ false
unfolding same_part same_party
untainted any account = refl

-- the evidence goes back to the entry that issued it, whatever the key's version
issued_by : (any : Entry) (account : AccountRec) → option_map (λ (at : Place). at.entry) (place (earlier any account) (evidence any (Account (codes "A") 1001 2) 3)) ≡ Some (to_web any account)
unfolding same_part same_party
issued_by any account = refl

line_is : (any : Entry) (account : AccountRec) → user_line (earlier any account) (to_mail any) ≡ to_mail any ∷ to_db any ∷ to_web any account ∷ []
unfolding same_part same_party
line_is any account = refl

rooted : (any : Entry) (account : AccountRec) → ends_in_root (user_line (earlier any account) (to_mail any)) ≡ true
unfolding same_part same_party
rooted any account = refl

links_are : (any : Entry) (account : AccountRec) → links (user_line (earlier any account) (to_mail any)) ≡ Some (codes "web@A" ∷ codes "db@A" ∷ [])
unfolding same_part same_party
links_are any account = refl

-- -- with one left out

-- the ticket to itself that web showed
without_evidence : (any : Entry) (account : AccountRec) → is_tainted (to_db any ∷ db_login any account ∷ web_login any account ∷ []) (to_mail any) ≡ true
unfolding same_part same_party
without_evidence any account = refl

-- db's initial ticket, which its header is
without_header : (any : Entry) (account : AccountRec) → is_tainted (to_db any ∷ to_web any account ∷ web_login any account ∷ []) (to_mail any) ≡ true
unfolding same_part same_party
without_header any account = refl

-- on web's initial ticket alone
still_untainted : (any : Entry) (account : AccountRec) → is_tainted (web_login any account ∷ []) (to_web any account) ≡ false
unfolding same_part same_party
still_untainted any account = refl

-- the same part under another account's key is not an issued ticket
other_party : (any : Entry) (account : AccountRec) → place (earlier any account) (evidence any (Account (codes "A") 1003 1) 3) ≡ None
unfolding same_part same_party
other_party any account = refl

-- ---- two realms

-- what a realm grants on these grounds, and the record of the ticket
abbrev grant_by : Entry → List ℕ → Aim → Holder → Grounds → Grant
grant_by any realm aim holder grounds = record any.grant {
  realm = record any.grant.realm { name = realm };
  terms = record any.grant.terms { aim = aim };
  holding = record any.grant.holding { holder = holder };
  grounds = grounds;
}

-- a ticket that is granted so, of a number
abbrev issued : Entry → Grant → ℕ → Entry
issued any grant n = record any { grant = grant; ticket = granted_record grant []; part = sealed n }

-- a holder with its next key
abbrev renewed : Holder → Holder
renewed (Krbtgt realm version) = Krbtgt realm (version + 1)
renewed (Trust realm partner version) = Trust realm partner (version + 1)
renewed (Account realm number version) = Account realm number (version + 1)

-- the ticket of an entry, shown when its holder has a newer key
abbrev shown : Entry → ShownTicket
shown entry = record { rec = record entry.ticket { holder = renewed entry.ticket.holder }; part = entry.part }

-- as the header of a request
abbrev as_header : Entry → Presented
as_header entry = record { rec = (shown entry).rec; part = entry.part; subkey = None }

-- web's initial ticket
abbrev login : Entry → AccountRec → Entry
login any account = issued any (grant_by any (codes "A") aims.Krbtgt (Krbtgt (codes "A") 1) (ByAccount (record account { name = codes "web" }))) 1

-- web's referral to B
abbrev referral : Entry → AccountRec → Entry
referral any account = issued any (grant_by any (codes "A") (aims.Hop 0) (Trust (codes "A") (codes "B") 1) (ByHeader (as_header (login any account)))) 2

-- S4U2self at the user's realm: a referral to A
abbrev self_at_b : Entry → AccountRec → Entry
self_at_b any account =
    issued any (grant_by any (codes "B") (aims.Hop 0) (Trust (codes "B") (codes "A") 1) (ForUser (as_header (referral any account)) account None)) 3

-- S4U2self at home: a ticket to web
abbrev self_at_a : Entry → AccountRec → Entry
self_at_a any account =
    issued any (grant_by any (codes "A") (aims.Account 0) (Account (codes "A") 1001 1) (ForHeadersUser (as_header (self_at_b any account)) None)) 4

-- S4U2proxy at home: a referral to B
abbrev proxy_at_a : Entry → AccountRec → Entry
proxy_at_a any account =
    let grounds = ByEvidence (as_header (login any account)) (shown (self_at_a any account)) in
    issued any (grant_by any (codes "A") (aims.Hop 0) (Trust (codes "A") (codes "B") 1) grounds) 5

-- S4U2proxy at db's realm, on that referral as the evidence: a ticket to db
abbrev proxy_at_b : Entry → AccountRec → Entry
proxy_at_b any account =
    let grounds = ByEvidence (as_header (referral any account)) (shown (proxy_at_a any account)) in
    issued any (grant_by any (codes "B") (aims.Account 0) (Account (codes "B") 1002 1) grounds) 6

-- the user, as the account says it at its own realm
abbrev user : Entry → AccountRec → Subject
user any account = subject_of_account (record any.grant.realm { name = codes "B" }) account

-- the history before S4U2self at home
abbrev abroad : Entry → AccountRec → List Entry
abroad any account = self_at_b any account ∷ referral any account ∷ login any account ∷ []

-- that before S4U2proxy at db's realm
abbrev before_proxy_at_b : Entry → AccountRec → List Entry
before_proxy_at_b any account = proxy_at_a any account ∷ self_at_a any account ∷ abroad any account

-- all of it
abbrev whole : Entry → AccountRec → List Entry
whole any account = proxy_at_b any account ∷ before_proxy_at_b any account

-- -- with all of them

-- an entry with those before it, for each of a history
abbrev places : List Entry → List Place
places [] = []
places (entry ∷ before) = record { before = before; entry = entry } ∷ places before

-- which entries of a history are tainted, the newest first
abbrev taints : List Entry → List Bool
taints [] = []
taints (entry ∷ before) = is_tainted before entry ∷ taints before

-- each ticket goes back to the entry that issued it, in whichever realm
places_are : (any : Entry) (account : AccountRec)
    → map (λ entry. place (whole any account) (shown entry)) (whole any account) ≡ map (λ (at : Place). Some at) (places (whole any account))
unfolding same_part same_party granted_record
places_are any account = refl

-- the same part under the key of the trust the other way is not an issued ticket
other_trust : (any : Entry) (account : AccountRec) → place (whole any account) (evidence any (Trust (codes "B") (codes "A") 1) 2) ≡ None
unfolding same_part same_party granted_record
other_trust any account = refl

-- none is tainted
all_untainted : (any : Entry) (account : AccountRec) → taints (whole any account) ≡ false ∷ false ∷ false ∷ false ∷ false ∷ false ∷ []
unfolding same_part same_party granted_record
all_untainted any account = refl

-- the user's line goes over both realms to S4U2self at the user's realm, and not by way of web's own tickets
line_across : (any : Entry) (account : AccountRec)
    → user_line (before_proxy_at_b any account) (proxy_at_b any account)
    ≡ proxy_at_b any account ∷ proxy_at_a any account ∷ self_at_a any account ∷ self_at_b any account ∷ []
unfolding same_part same_party granted_record
line_across any account = refl

-- which is its root
rooted_across : (any : Entry) (account : AccountRec) → ends_in_root (user_line (before_proxy_at_b any account) (proxy_at_b any account)) ≡ true
unfolding same_part same_party granted_record
rooted_across any account = refl

-- each ticket of the line is for the user
user_across : (any : Entry) (account : AccountRec)
    → map (λ (step : Entry). step.ticket.subject) (user_line (before_proxy_at_b any account) (proxy_at_b any account))
    ≡ user any account ∷ user any account ∷ user any account ∷ user any account ∷ []
unfolding same_part same_party granted_record
user_across any account = refl

-- web is listed where it delegates, at home, and not again at db's realm
links_at_a : (any : Entry) (account : AccountRec)
    → links (user_line (self_at_a any account ∷ abroad any account) (proxy_at_a any account))
    ≡ Some (codes "web@A" ∷ [])
unfolding same_part same_party granted_record
links_at_a any account = refl

links_at_b : (any : Entry) (account : AccountRec)
    → links (user_line (before_proxy_at_b any account) (proxy_at_b any account))
    ≡ Some (codes "web@A" ∷ [])
unfolding same_part same_party granted_record
links_at_b any account = refl

-- as both tickets list it
told_at_a : (any : Entry) (account : AccountRec) → services_told (proxy_at_a any account).ticket ≡ Some (codes "web@A" ∷ [])
unfolding granted_record
told_at_a any account = refl

told_at_b : (any : Entry) (account : AccountRec) → services_told (proxy_at_b any account).ticket ≡ Some (codes "web@A" ∷ [])
unfolding granted_record
told_at_b any account = refl

-- before the first delegation there is no list
no_links : (any : Entry) (account : AccountRec) → links (user_line (abroad any account) (self_at_a any account)) ≡ None
unfolding same_part same_party granted_record
no_links any account = refl

-- -- with one left out: what stands on it is tainted, and nothing else

-- the referral, which is web's header at B
without_referral : (any : Entry) (account : AccountRec)
    → taints (proxy_at_b any account ∷ proxy_at_a any account ∷ self_at_a any account ∷ self_at_b any account ∷ login any account ∷ [])
    ≡ true ∷ true ∷ true ∷ true ∷ false ∷ []
unfolding same_part same_party granted_record
without_referral any account = refl

-- S4U2self at the user's realm
without_self_at_b : (any : Entry) (account : AccountRec)
    → taints (proxy_at_b any account ∷ proxy_at_a any account ∷ self_at_a any account ∷ referral any account ∷ login any account ∷ [])
    ≡ true ∷ true ∷ true ∷ false ∷ false ∷ []
unfolding same_part same_party granted_record
without_self_at_b any account = refl

-- S4U2proxy at home
without_proxy_at_a : (any : Entry) (account : AccountRec)
    → taints (proxy_at_b any account ∷ self_at_a any account ∷ abroad any account) ≡ true ∷ false ∷ false ∷ false ∷ false ∷ []
unfolding same_part same_party granted_record
without_proxy_at_a any account = refl

-- -- twins

-- an initial grant with the part and the party of web's ticket to itself
abbrev twin : Entry → AccountRec → Entry
twin any account = record (login any account) { ticket = (self_at_a any account).ticket; part = (self_at_a any account).part }

-- a later twin changes no place
later_twin : (any : Entry) (account : AccountRec)
    → place (twin any account ∷ self_at_a any account ∷ abroad any account) (shown (self_at_a any account))
    ≡ Some (record { before = abroad any account; entry = self_at_a any account })
unfolding same_part same_party granted_record
later_twin any account = refl

-- an earlier one is the place
earlier_twin : (any : Entry) (account : AccountRec)
    → place (self_at_a any account ∷ twin any account ∷ abroad any account) (shown (self_at_a any account))
    ≡ Some (record { before = abroad any account; entry = twin any account })
unfolding same_part same_party granted_record
earlier_twin any account = refl
