-- The server of a granted ticket is right for what was asked.
use Rattle.std.proofs.Common.{◌≡◌, ◌∙◌, ℕ, ℤ, Bool, true, false, cond, ◌&&◌, ◌||◌, List, [], ◌∷◌, Option, Some, refl, sym, ap, subst}
use Rattle.std.specs.Prelude.{codes, is_some, option_map, slice_get, unwrap_or}
use Rattle.kdc_prelude.specs.Steps.{◌>>=◌}
use Rattle.kdc_prelude.specs.Texts.{same_text}
use Rattle.kdc_prelude.proofs.Bools.{both}
use Rattle.krb_names.specs.declared.moment.Moment.{Moment}
use Rattle.krb_names.specs.declared.principal.Principal.{Principal}
use Rattle.krb_names.specs.Pieces.{is_name}
use Rattle.krb_names.specs.Principals.{same_principal}
use Rattle.krb_tickets.specs.NameString.{is_enterprise}
use Rattle.kdc_records.specs.declared.decision.Aim.{Aim}
use Rattle.kdc_records.specs.declared.decision.Aim.TheVariants.{Krbtgt, Hop, Account}
use Rattle.kdc_records.specs.declared.decision.Terms.{Terms}
use Rattle.dir_records.specs.declared.records.Account.{Account as AccountRec}
use Rattle.dir_records.specs.declared.records.RealmRec.{RealmRec}
use Rattle.dir_records.specs.declared.records.Trust.{Trust}
use Rattle.dir_records.specs.DirectoryValue.{DirectoryValue}
use Rattle.dir_records.specs.IsDirectory.{IsDirectory, IsRealm}
use Rattle.dir_core.specs.Lookups.{only_part, realm_named}
use Rattle.route_rules.specs.Aims.{aim_at, resolve}
use Rattle.route_rules.specs.Meanings.{enterprise_pieces, meaning_of_parts}
use Rattle.route_rules.proofs.Steps.{resolve_is}
use Rattle.as_core.specs.AsRequests.{as_ask}
use Rattle.as_core.specs.AsRules.{as_terms}
use Rattle.s4u_rules.specs.SelfRules.{enterprise_user, self_terms}
use Rattle.s4u_rules.specs.TgsRules.{aim_of, ordinary_terms}
use Rattle.proxy_rules.specs.ProxyRules.{proxy_terms}
use Rattle.ticket_codec.specs.declared.holding.Holding.{Holding}
use Rattle.ticket_codec.specs.Holdings.{account_holding, aim_holding_in, hop_holding}
use Rattle.s4u_client.specs.declared.cred.Want.{Want}
use Rattle.s4u_client.specs.Finishing.{is_asked_enterprise, is_enterprise_of, is_krbtgt_in, server_is_right}
use Rattle.s4u_client.specs.Requests.{asked_in}
use Rattle.tgs_core.specs.Grants.{ByAccount, ByEvidence, ByHeader, ForHeadersUser, ForUser, Grounds, account_name, hop_name, principal_of_account, terms_of, ticket_name}
use Rattle.tgs_core.specs.Requests.{Request}
use Rattle.tgs_core.proofs.FoundGrants.{at_index, mapped_of, member_in, named_realm, some_is}
use Rattle.ends_laws.proofs.NamedAccounts.{enterprise_account}
use Rattle.ends_laws.proofs.SamePrincipals.{name_is_same, text_is_same}

-- ---- the aim of the terms

aim_from : (aim : Option Aim) (found : Aim) (terms : Terms) (k : ℕ) → aim ≡ Some found → found ≡ terms.aim → terms.aim ≡ Account k → aim ≡ Some (Account k)
aim_from aim found terms k was is e = was ∙ ap Some (is ∙ e)

-- an account that a ticket is for is what the server means
pub aimed_at : (dir : DirectoryValue) (now : Moment) (request : Request) (grounds : Grounds) (terms : Terms) (k : ℕ) → terms_of dir now request grounds ≡ Some terms → terms.aim ≡ Account k
    → aim_of dir request.realm request.wish ≡ Some (Account k)
aimed_at dir now request (ByAccount account) terms k e h =
    let same = some_is (as_terms (as_ask dir request.realm now request.message)) terms e in
    let aim : Krbtgt ≡ Account k = ap (λ (t : Terms). t.aim) same ∙ h in
    absurd (cc)
aimed_at dir now request (ByHeader shown) terms k e h =
    let found = mapped_of (aim_of dir request.realm request.wish) (ordinary_terms dir request.realm now request.wish shown.rec) terms e in
    aim_from (aim_of dir request.realm request.wish) found.value terms k found.was (ap (λ (t : Terms). t.aim) found.is) h
aimed_at dir now request (ForUser shown account asked) terms k e h =
    let found = mapped_of (aim_of dir request.realm request.wish) (self_terms dir request.realm now request.wish shown.rec) terms e in
    aim_from (aim_of dir request.realm request.wish) found.value terms k found.was (ap (λ (t : Terms). t.aim) found.is) h
aimed_at dir now request (ForHeadersUser shown asked) terms k e h =
    let found = mapped_of (aim_of dir request.realm request.wish) (self_terms dir request.realm now request.wish shown.rec) terms e in
    aim_from (aim_of dir request.realm request.wish) found.value terms k found.was (ap (λ (t : Terms). t.aim) found.is) h
aimed_at dir now request (ByEvidence shown evidence) terms k e h =
    let found = mapped_of (aim_of dir request.realm request.wish) (proxy_terms dir request.realm now request.wish shown.rec evidence.rec) terms e in
    aim_from (aim_of dir request.realm request.wish) found.value terms k found.was (ap (λ (t : Terms). t.aim) found.is) h

-- ---- whether the server is right

first_holds : (a b c : Bool) → a ≡ true → (a || b || c) ≡ true
first_holds a b c h = rw h refl

second_holds : (a b c : Bool) → b ≡ true → (a || b || c) ≡ true
second_holds true b c h = refl
second_holds false b c h = rw h refl

third_holds : (a b c : Bool) → c ≡ true → (a || b || c) ≡ true
third_holds true true c h = refl
third_holds true false c h = refl
third_holds false true c h = refl
third_holds false false c h = h

all_hold : (a b c : Bool) → a ≡ true → b ≡ true → c ≡ true → (a && b && c) ≡ true
all_hold a b c h k l = rw (h, k, l) refl

-- the name that was asked for
asked_right : (want : Want) → server_is_right want (asked_in want.realm want.server) ≡ true
asked_right want =
    let name : Principal = asked_in want.realm want.server in
    first_holds (same_principal name name) (is_asked_enterprise want name) (is_krbtgt_in want.realm name) (name_is_same name)

-- a referral
hop_right : (want : Want) (realm : RealmRec) (trust : Trust) → realm.name ≡ want.realm → server_is_right want (hop_name realm trust) ≡ true
hop_right want realm trust same =
    let name : Principal = hop_name realm trust in
    let own : same_text realm.name want.realm ≡ true = subst (λ (other : List ℕ). same_text realm.name other ≡ true) same (text_is_same realm.name) in
    let krbtgt : same_text (codes "krbtgt") (codes "krbtgt") ≡ true = text_is_same (codes "krbtgt") in
    third_holds (same_principal name (asked_in want.realm want.server)) (is_asked_enterprise want name) (is_krbtgt_in want.realm name)
    (ap (λ (b : Bool). b && same_text realm.name want.realm) krbtgt ∙ own)

-- an account that was asked for by an enterprise name
by_parts : (dir : DirectoryValue) (at k : ℕ) (realm : RealmRec) (account : AccountRec) (kind : ℤ) (parts : List (List ℕ)) → slice_get dir.realms at ≡ Some realm → slice_get realm.accounts k ≡ Some account
    → is_name account.name ≡ true → is_name realm.name ≡ true → aim_at dir at (meaning_of_parts dir at kind parts) ≡ Some (Account k) → is_some (only_part parts >>= enterprise_pieces kind) ≡ true
    → (is_enterprise kind ≡ true) × (is_enterprise_of parts (principal_of_account realm account) ≡ true)
by_parts dir at k realm account kind [] here found h g aimed some = absurd (cc)
by_parts dir at k realm account kind (part ∷ []) here found h g aimed some = enterprise_account dir at k realm account kind part here found h g aimed some
by_parts dir at k realm account kind (part ∷ more ∷ parts) here found h g aimed some = absurd (cc)

account_right : (dir : DirectoryValue) (want : Want) (at k : ℕ) (realm : RealmRec) (account : AccountRec) (joined : Bool) → slice_get dir.realms at ≡ Some realm → slice_get realm.accounts k ≡ Some account
    → is_name account.name ≡ true → is_name realm.name ≡ true → realm.name ≡ want.realm → resolve dir at (asked_in want.realm want.server) ≡ Some (Account k)
    → is_some (enterprise_user (asked_in want.realm want.server)) ≡ joined
    → server_is_right want (cond joined (principal_of_account realm account) (asked_in want.realm want.server)) ≡ true
account_right dir want at k realm account false here found h g same aimed e = asked_right want
account_right dir want at k realm account true here found h g same aimed e =
    let asked : Principal = asked_in want.realm want.server in
    let name : Principal = principal_of_account realm account in
    let own : same_text realm.name want.realm ≡ true = subst (λ (other : List ℕ). same_text realm.name other ≡ true) same (text_is_same realm.name) in
    let is = by_parts dir at k realm account want.server.kind want.server.parts here found h g (sym (resolve_is dir at asked) ∙ aimed) e in
    second_holds (same_principal name asked) (is_asked_enterprise want name) (is_krbtgt_in want.realm name)
    (all_hold (is_enterprise want.server.kind) (is_enterprise_of want.server.parts name) (same_text realm.name want.realm) is.0 is.1 own)

-- by what it is aimed at
pub server_right : (dir : DirectoryValue) (want : Want) (at : ℕ) (realm : RealmRec) (aim : Aim) (holding : Holding) → IsDirectory dir → realm_named dir want.realm ≡ Some at → slice_get dir.realms at ≡ Some realm
    → aim_holding_in realm aim ≡ Some holding → ((k : ℕ) → aim ≡ Account k → resolve dir at (asked_in want.realm want.server) ≡ Some (Account k))
    → server_is_right want (ticket_name realm (asked_in want.realm want.server) aim) ≡ true
server_right dir want at realm Krbtgt holding d known here held means = asked_right want
server_right dir want at realm (Hop t) holding d known here held means =
    let asked : Principal = asked_in want.realm want.server in
    let trust = mapped_of (slice_get realm.trusts t) (hop_holding realm) holding held in
    let is : ticket_name realm asked (Hop t) ≡ hop_name realm trust.value = ap (λ (found : Option Trust). unwrap_or (option_map (hop_name realm) found) asked) trust.was in
    ap (server_is_right want) is ∙ hop_right want realm trust.value (named_realm dir want.realm at realm known here)
server_right dir want at realm (Account k) holding d known here held means =
    let asked : Principal = asked_in want.realm want.server in
    let account = mapped_of (slice_get realm.accounts k) (account_holding realm) holding held in
    let member = member_in dir at k realm account.value d here account.was in
    let form = at_index IsRealm dir.realms at realm d.consistent.forms.realms here in
    let is : ticket_name realm asked (Account k) ≡ account_name realm asked account.value = ap (λ (found : Option AccountRec). unwrap_or (option_map (account_name realm asked) found) asked) account.was in
    ap (server_is_right want) is
    ∙ account_right dir want at k realm account.value (is_some (enterprise_user asked)) here account.was (both (is_name account.value.name) _ member.form.name).0 form.name
    (named_realm dir want.realm at realm known here) (means k refl) refl
