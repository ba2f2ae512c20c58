-- The client of a granted ticket is the one that is awaited, or of a ticket-granting ticket the one that asks.
use Rattle.std.proofs.Common.{◌≡◌, ◌∙◌, ℕ, ℤ, Bool, true, false, cond, ◌&&◌, ◌||◌, List, [], ◌∷◌, Option, None, Some, refl, sym, ap}
use Rattle.std.specs.Prelude.{◌==◌, codes, option_map, slice_get}
use Rattle.std.specs.List.{join_with_byte}
use Rattle.kdc_prelude.specs.Texts.{same_text}
use Rattle.krb_names.specs.declared.moment.Moment.{Moment}
use Rattle.krb_names.specs.declared.principal.Principal.{Principal}
use Rattle.krb_names.specs.Principals.{same_principal}
use Rattle.krb_tickets.specs.declared.enc_ticket_part.EncTicketPart.{EncTicketPart}
use Rattle.krb_tickets.specs.Pac.{pac_of}
use Rattle.kdc_records.specs.declared.decision.Aim.{Aim}
use Rattle.kdc_records.specs.declared.decision.Aim.TheVariants.{Krbtgt, Hop, Account}
use Rattle.kdc_records.specs.declared.decision.Terms.{Terms}
use Rattle.kdc_records.specs.declared.holder.Holder.{Holder}
use Rattle.kdc_records.specs.declared.ticket_rec.TicketRec.{TicketRec}
use Rattle.dir_records.specs.declared.records.RealmRec.{RealmRec}
use Rattle.dir_records.specs.DirectoryValue.{DirectoryValue}
use Rattle.dir_core.specs.Lookups.{next_hop, realm_named, spn_place}
use Rattle.route_rules.specs.Aims.{aim_at, resolve}
use Rattle.route_rules.specs.Meanings.{account_meant, enterprise_pieces, meaning_of_parts, place_of_part, service_meant}
use Rattle.route_rules.proofs.Steps.{resolve_is}
use Rattle.s4u_rules.specs.SelfRules.{self_terms}
use Rattle.s4u_rules.specs.TgsRules.{aim_of, ordinary_terms}
use Rattle.proxy_rules.specs.ProxyRules.{proxy_terms}
use Rattle.ticket_codec.specs.declared.opening.Opened.{Opened}
use Rattle.ticket_codec.specs.declared.presenting.Certified.{Certified}
use Rattle.ticket_codec.specs.Presented.{are_signatures_right, certified, certified_of}
use Rattle.ticket_parts.specs.declared.reading.ReadRecord.{ReadRecord}
use Rattle.ticket_parts.specs.Records.{pac_reading, read_with, record_by, record_of}
use Rattle.ticket_parts.proofs.Steps.{record_is}
use Rattle.tgs_requests.specs.declared.header.Header.{Header}
use Rattle.tgs_requests.specs.Headers.{agreed_record, record_in}
use Rattle.s4u_client.specs.declared.cred.Cred.{Cred}
use Rattle.s4u_client.specs.declared.cred.Pending.{Pending}
use Rattle.s4u_client.specs.declared.cred.Want.{Want}
use Rattle.s4u_client.specs.Finishing.{client_is_right, is_krbtgt_in, names_krbtgt}
use Rattle.s4u_client.specs.Requests.{asked_in}
use Rattle.tgs_core.specs.Grants.{ByAccount, ByEvidence, ByHeader, ForHeadersUser, ForUser, Grounds, client_for, terms_of, ticket_name}
use Rattle.tgs_core.specs.Requests.{Request}
use Rattle.tgs_core.proofs.FoundGrants.{mapped_of, some_is, step_of}
use Rattle.ends_laws.specs.Ends.{ShowsItself}
use Rattle.ends_laws.proofs.AskedMessages.{IsHeaderOf}
use Rattle.ends_laws.proofs.SamePrincipals.{text_is_same}

-- ---- what the record of a header says of its client

record_client : (held : Holder) (part : EncTicketPart) (read : ReadRecord) → record_of held part ≡ Some read → read.rec.client ≡ part.client
record_client held part read e =
    let bytes = step_of (pac_of part) (record_by held part) read (sym (record_is held part) ∙ e) in
    let value = mapped_of (pac_reading bytes.value) (read_with held part) read bytes.is in
    ap (λ (r : ReadRecord). r.rec.client) (sym value.is)

pub chosen_of : {A : Type 0} (b : Bool) (a : Option A) (x : A) → cond b a None ≡ Some x → a ≡ Some x
chosen_of true a x h = h
chosen_of false a x h = absurd (cc)

certified_client : (dir : DirectoryValue) (at : ℕ) (opened : Opened) (found : Certified) → certified dir at opened ≡ Some found → found.rec.client ≡ opened.part.client
unfolding certified
certified_client dir at opened found e =
    let read = mapped_of (record_of opened.holder opened.part) certified_of found (chosen_of (are_signatures_right dir at opened) (option_map certified_of (record_of opened.holder opened.part)) found e) in
    ap (λ (c : Certified). c.rec.client) (sym read.is) ∙ record_client opened.holder opened.part read.value read.was

-- the header's client is the one that asks
pub requestor_is : (dir : DirectoryValue) (want : Want) (at : ℕ) (tgt : Cred) (made : Moment) (own body : List ℕ) (header : Header) (rec : TicketRec) → ShowsItself dir want tgt → realm_named dir want.realm ≡ Some at
    → IsHeaderOf dir at tgt made own body header → record_in header ≡ Some rec → rec.client ≡ tgt.client
requestor_is dir want at tgt made own body header rec h known of shows =
    let found = step_of header.certified agreed_record rec shows in
    let same : Some found.value.rec ≡ Some rec = sym (chosen_some found.value.agrees found.value.rec rec found.is) in
    let of_header : certified dir at header.opened ≡ Some found.value = ap (λ (x : Header). x.certified) of.is ∙ found.was in
    ap (λ (r : TicketRec). r.client) (sym (some_is found.value.rec rec same)) ∙ certified_client dir at header.opened found.value of_header ∙ (h.shown at header.opened known of.found).0
  where
    chosen_some : (b : Bool) (a x : TicketRec) → cond b (Some a) None ≡ Some x → Some x ≡ Some a
    chosen_some true a x e = sym e
    chosen_some false a x e = absurd (cc)

-- ---- the names of ticket-granting services

no_krbtgt_at : (P : Type 0) (dir : DirectoryValue) (at other j : ℕ) (here : Bool) → (let aim : Option Aim = cond here (Some (Account j)) (option_map Hop (next_hop dir at other)) in aim) ≡ Some Krbtgt → P
no_krbtgt_at P dir at other j true h = let same : Account j ≡ Krbtgt = some_is (Account j) Krbtgt h in absurd (cc)
no_krbtgt_at P dir at other j false h =
    let hop = mapped_of (next_hop dir at other) Hop Krbtgt h in
    let never = hop.is in
    absurd (cc)

no_krbtgt : (P : Type 0) (dir : DirectoryValue) (at : ℕ) (place : Option (ℕ × ℕ)) → aim_at dir at (account_meant place) ≡ Some Krbtgt → P
no_krbtgt P dir at None h = absurd (cc)
no_krbtgt P dir at (Some found) h = no_krbtgt_at P dir at found.0 found.1 (found.0 == at) h

by_first : (dir : DirectoryValue) (at : ℕ) (realm : Option ℕ) (place : Option (ℕ × ℕ)) (b : Bool) → aim_at dir at (cond b (service_meant realm) (account_meant place)) ≡ Some Krbtgt → b ≡ true
by_first dir at realm place true h = refl
by_first dir at realm place false h = no_krbtgt (false ≡ true) dir at place h

krbtgt_named : (dir : DirectoryValue) (at : ℕ) (kind : ℤ) (parts : List (List ℕ)) → aim_at dir at (meaning_of_parts dir at kind parts) ≡ Some Krbtgt → names_krbtgt parts ≡ true
krbtgt_named dir at kind [] h = absurd (cc)
krbtgt_named dir at kind (part ∷ []) h = no_krbtgt _ dir at (place_of_part dir at part (enterprise_pieces kind part)) h
krbtgt_named dir at kind (first ∷ second ∷ []) h =
    by_first dir at (realm_named dir second) (spn_place dir (join_with_byte 47 (first ∷ second ∷ []))) (same_text first (codes "krbtgt")) h
krbtgt_named dir at kind (first ∷ second ∷ third ∷ []) h = no_krbtgt _ dir at (spn_place dir (join_with_byte 47 (first ∷ second ∷ third ∷ []))) h
krbtgt_named dir at kind (first ∷ second ∷ third ∷ fourth ∷ more) h = absurd (cc)

-- ---- by what is aimed at

either_first : (a b c : Bool) → a ≡ true → (a || b && c) ≡ true
either_first a b c h = rw h refl

either_second : (a b c : Bool) → b ≡ true → c ≡ true → (a || b && c) ≡ true
either_second true b c h k = refl
either_second false b c h k = rw (h, k) refl

-- the user of a service ticket, and the one that asks of a ticket-granting ticket
pub client_right : (dir : DirectoryValue) (at : ℕ) (realm : RealmRec) (aim : Aim) (pending : Pending) (user requestor : Principal)
    → realm_named dir pending.want.realm ≡ Some at → slice_get dir.realms at ≡ Some realm → resolve dir at (asked_in pending.want.realm pending.want.server) ≡ Some aim
    → ((t : ℕ) → aim ≡ Hop t → is_krbtgt_in pending.want.realm (ticket_name realm (asked_in pending.want.realm pending.want.server) aim) ≡ true)
    → same_principal user pending.client ≡ true → same_principal requestor pending.own ≡ true
    → client_is_right pending (ticket_name realm (asked_in pending.want.realm pending.want.server) aim) (client_for aim user requestor) ≡ true
client_right dir at realm Krbtgt pending user requestor known here means hop u r =
    let asked : Principal = asked_in pending.want.realm pending.want.server in
    let named = krbtgt_named dir at pending.want.server.kind pending.want.server.parts (sym (resolve_is dir at asked) ∙ means) in
    let own : is_krbtgt_in pending.want.realm asked ≡ true = ap (λ (b : Bool). b && same_text pending.want.realm pending.want.realm) named ∙ text_is_same pending.want.realm in
    either_second (same_principal requestor pending.client) (is_krbtgt_in pending.want.realm asked) (same_principal requestor pending.own) own r
client_right dir at realm (Hop t) pending user requestor known here means hop u r =
    let name : Principal = ticket_name realm (asked_in pending.want.realm pending.want.server) (Hop t) in
    either_second (same_principal requestor pending.client) (is_krbtgt_in pending.want.realm name) (same_principal requestor pending.own) (hop t refl) r
client_right dir at realm (Account k) pending user requestor known here means hop u r =
    let name : Principal = ticket_name realm (asked_in pending.want.realm pending.want.server) (Account k) in
    either_first (same_principal user pending.client) (is_krbtgt_in pending.want.realm name) (same_principal user pending.own) u

-- ---- the aim of what a header is granted

-- the grounds of a TGS-REQ
abbrev pub is_shown : Grounds → Bool
is_shown (ByAccount account) = false
is_shown (ByHeader shown) = true
is_shown (ForUser shown account asked) = true
is_shown (ForHeadersUser shown asked) = true
is_shown (ByEvidence shown evidence) = true

aim_was : (aim : Option Aim) (found : Aim) (terms : Terms) → aim ≡ Some found → found ≡ terms.aim → aim ≡ Some terms.aim
aim_was aim found terms was is = was ∙ ap Some is

pub aim_found : (dir : DirectoryValue) (now : Moment) (request : Request) (grounds : Grounds) (terms : Terms) → is_shown grounds ≡ true → terms_of dir now request grounds ≡ Some terms
    → aim_of dir request.realm request.wish ≡ Some terms.aim
aim_found dir now request (ByAccount account) terms s e = absurd (cc)
aim_found dir now request (ByHeader shown) terms s e =
    let found = mapped_of (aim_of dir request.realm request.wish) (ordinary_terms dir request.realm now request.wish shown.rec) terms e in
    aim_was (aim_of dir request.realm request.wish) found.value terms found.was (ap (λ (t : Terms). t.aim) found.is)
aim_found dir now request (ForUser shown account asked) terms s e =
    let found = mapped_of (aim_of dir request.realm request.wish) (self_terms dir request.realm now request.wish shown.rec) terms e in
    aim_was (aim_of dir request.realm request.wish) found.value terms found.was (ap (λ (t : Terms). t.aim) found.is)
aim_found dir now request (ForHeadersUser shown asked) terms s e =
    let found = mapped_of (aim_of dir request.realm request.wish) (self_terms dir request.realm now request.wish shown.rec) terms e in
    aim_was (aim_of dir request.realm request.wish) found.value terms found.was (ap (λ (t : Terms). t.aim) found.is)
aim_found dir now request (ByEvidence shown evidence) terms s e =
    let found = mapped_of (aim_of dir request.realm request.wish) (proxy_terms dir request.realm now request.wish shown.rec evidence.rec) terms e in
    aim_was (aim_of dir request.realm request.wish) found.value terms found.was (ap (λ (t : Terms). t.aim) found.is)
