-- For whom a ticket is sealed that opens.
use Rattle.std.proofs.Common.{◌≡◌, ℕ, ◌<◌, Bool, true, false, cond, not, ◌&&◌, ◌⊎◌, inl, inr, List, [], ◌∷◌, get_or, refl, ap, sym, subst, ◌∙◌}
use Rattle.std.specs.Prelude.{Option, None, Some, Ok, option_and_then, option_map, position, slice_get}
use Rattle.std.specs.Cmp.Lexicographic.{same_text as equal_texts}
use Rattle.std.proofs.lemmas.List.Quantifiers.{position-Some}
use Rattle.std.proofs.lemmas.Option.{get_or_from_slice_get}
use Rattle.kdc_prelude.specs.Steps.{◌>>=◌}
use Rattle.kdc_prelude.specs.Texts.{same_text}
use Rattle.kdc_prelude.proofs.Bools.{both}
use Rattle.krb_names.specs.declared.principal.Principal.{Principal}
use Rattle.krb_tickets.specs.declared.enc_ticket_part.EncTicketPart.{EncTicketPart}
use Rattle.krb_tickets.specs.declared.ticket.Ticket.{Ticket}
use Rattle.kdc_records.specs.declared.decision.Aim.{Aim}
use Rattle.kdc_records.specs.declared.decision.Aim.TheVariants as aims
use Rattle.kdc_records.specs.declared.holder.Holder.{Holder}
use Rattle.kdc_records.specs.Parties.{Party, Krbtgt, Trust, Account, party_of}
use Rattle.dir_records.specs.declared.records.Account.{Account as AccountRec}
use Rattle.dir_records.specs.declared.records.RealmRec.{RealmRec}
use Rattle.dir_records.specs.declared.records.Trust.{Trust as TrustRec}
use Rattle.dir_records.specs.DirectoryValue.{DirectoryValue}
use Rattle.dir_core.specs.Lookups.{account_at, account_named, only_part, realm_named}
use Rattle.route_rules.specs.Aims.{resolve_account}
use Rattle.route_rules.specs.Requestor.{account_of_realm, requestor_account}
use Rattle.ticket_codec.specs.declared.holding.Holding.{Holding}
use Rattle.ticket_codec.specs.declared.opening.Opened.{Opened}
use Rattle.ticket_codec.specs.declared.role.Role.{Role}
use Rattle.ticket_codec.specs.declared.role.Role.TheVariants.{Header, Evidence, CrossEvidence}
use Rattle.ticket_codec.specs.Holdings.{account_holding, aim_holding, aim_holding_in, hop_holding, krbtgt_holding, trust_in}
use Rattle.ticket_codec.specs.Laws.{CrossEvidenceIsOfThisRealm, EvidenceIsOfTheRequestor, HeadersAreOfThisRealm}
use Rattle.ticket_codec.specs.Opening.{opened_of, opened_with, part_in, unsealed}
use Rattle.ticket_codec.specs.Roles.{cross_place, evidence_place, header_place, holder_place, holding, is_krbtgt_of, is_place, place_in_role}
use Rattle.ticket_codec.proofs.Steps.{Opens, unsealed_opens}

-- ---- what a step found

stepped : {A B : Type 0} (a : Option A) (f : A → Option B) (b : B) → (a >>= f) ≡ Some b → (x : A) × (a ≡ Some x) × (f x ≡ Some b)
stepped None f b h = absurd (cc)
stepped (Some x) f b h = (x, refl, h)

thened : {A B : Type 0} (a : Option A) (f : A → Option B) (b : B) → option_and_then f a ≡ Some b → (x : A) × (a ≡ Some x) × (f x ≡ Some b)
thened None f b h = absurd (cc)
thened (Some x) f b h = (x, refl, h)

chosen : {A : Type 0} (test : Bool) (a : Option A) (x : A) → (let found : Option A = cond test a None in found) ≡ Some x → (test ≡ true) × (a ≡ Some x)
chosen true a x h = (refl, h)
chosen false a x h = absurd (cc)

one_of : {A : Type 0} (x y : A) → Some x ≡ Some y → x ≡ y
one_of x y e = cc

-- what stands at the place that was found has what was looked for
passes_at : {X : Type 0} (p : X → Bool) (xs : List X) (i : ℕ) (x : X) → position p xs ≡ Some i → slice_get xs i ≡ Some x → p x ≡ true
passes_at p xs i x found at =
    let here : get_or xs i x ≡ x = get_or_from_slice_get xs i x x at in
    ap p (sym here) ∙ (position-Some p xs i x found).1

same : (a b : List ℕ) → same_text a b ≡ true → a ≡ b
same a b h = equal_texts a b (sym h)

-- ---- the holder that opened

held_by : (dir : DirectoryValue) (at : ℕ) (role : Role) (ticket : Ticket) (held : Holding) → holding dir at role ticket ≡ Some held
    → (place : ℕ × Aim) × (holder_place dir at role ticket ≡ Some place) × (aim_holding dir place.0 place.1 ≡ Some held)
unfolding holding
held_by dir at role ticket held h = stepped (holder_place dir at role ticket) (λ place. aim_holding dir place.0 place.1) held h

opener_by : (held : Holding) (opened : Opened) (found : Option EncTicketPart) → option_map (opened_of held) found ≡ Some opened → opened.holder ≡ held.holder
opener_by held opened None h = absurd (cc)
opener_by held opened (Some p) h = ap (λ (o : Opened). o.holder) (sym (one_of (opened_of held p) opened h))

mapped : {A B : Type 0} (f : A → B) (a : Option A) (b : B) → option_map f a ≡ Some b → (x : A) × (a ≡ Some x) × (f x ≡ b)
mapped f None b h = absurd (cc)
mapped f (Some x) b h = (x, refl, one_of (f x) b h)

-- whatever opened is held by one whose place is known
pub record IsHeld (dir : DirectoryValue) (at : ℕ) (role : Role) (ticket : Ticket) (opened : Opened) : Type 0 where
  pub place : ℕ × Aim
  pub held : Holding
  pub found : holder_place dir at role ticket ≡ Some place
  pub holds : aim_holding dir place.0 place.1 ≡ Some held
  pub holder : opened.holder ≡ held.holder

pub is_held : (dir : DirectoryValue) (at : ℕ) (role : Role) (ticket : Ticket) (opened : Opened) → unsealed dir at role ticket ≡ Ok opened → IsHeld dir at role ticket opened
is_held dir at role ticket opened h =
    let o : Opens dir at role ticket opened = unsealed_opens dir at role ticket opened h in
    let b = held_by dir at role ticket o.held o.found in
    record { place = b.0; held = o.held; found = b.1; holds = b.2; holder = opener_by o.held opened (part_in o.held.key.key ticket.sealed.cipher) o.opens }

-- its place, in the realm that is known
place_of : (dir : DirectoryValue) (at : ℕ) (realm : RealmRec) (role : Role) (ticket : Ticket) (place : ℕ × Aim) → slice_get dir.realms at ≡ Some realm
    → holder_place dir at role ticket ≡ Some place → place_in_role dir at realm role ticket ≡ Some place
unfolding holder_place
place_of dir at realm role ticket place here h = sym (ap (λ (o : Option RealmRec). o >>= λ r. place_in_role dir at r role ticket) here) ∙ h

aim_in : (dir : DirectoryValue) (at : ℕ) (realm : RealmRec) (aim : Aim) (held : Holding) → slice_get dir.realms at ≡ Some realm → aim_holding dir at aim ≡ Some held → aim_holding_in realm aim ≡ Some held
unfolding aim_holding
aim_in dir at realm aim held here h = sym (ap (λ (o : Option RealmRec). o >>= λ r. aim_holding_in r aim) here) ∙ h

-- ---- a trust

trust_found : (dir : DirectoryValue) (issuer hop : ℕ) (partner : List ℕ) → trust_in dir issuer partner ≡ Some hop
    → (r : RealmRec) × (slice_get dir.realms issuer ≡ Some r) × (position (λ trust. same_text trust.partner partner) r.trusts ≡ Some hop)
unfolding trust_in
trust_found dir issuer hop partner h = thened (slice_get dir.realms issuer) (λ (r : RealmRec). position (λ trust. same_text trust.partner partner) r.trusts) hop h

trust_party : (dir : DirectoryValue) (issuer hop : ℕ) (name partner : List ℕ) (held : Holding) → realm_named dir name ≡ Some issuer → trust_in dir issuer partner ≡ Some hop
    → aim_holding dir issuer (aims.Hop hop) ≡ Some held → party_of held.holder ≡ Trust name partner
trust_party dir issuer hop name partner held named trusted h =
    let t = trust_found dir issuer hop partner trusted in
    let r : RealmRec = t.0 in
    let m = mapped (hop_holding r) (slice_get r.trusts hop) held (aim_in dir issuer r (aims.Hop hop) held t.1 h) in
    let trust : TrustRec = m.0 in
    let issuer_name : r.name ≡ name = same r.name name (passes_at (λ (realm : RealmRec). same_text realm.name name) dir.realms issuer r named t.1) in
    let partner_name : trust.partner ≡ partner = same trust.partner partner (passes_at (λ (other : TrustRec). same_text other.partner partner) r.trusts hop trust t.2 m.1) in
    ap (λ (x : Holding). party_of x.holder) (sym m.2) ∙ ap (λ (n : List ℕ). Trust n trust.partner) issuer_name ∙ ap (Trust name) partner_name

cross_found : (dir : DirectoryValue) (realm : RealmRec) (ticket : Ticket) (place : ℕ × Aim) (held : Holding) → cross_place dir realm ticket ≡ Some place
    → aim_holding dir place.0 place.1 ≡ Some held → party_of held.holder ≡ Trust ticket.realm realm.name
cross_found dir realm ticket place held h k =
    let from = λ (issuer : ℕ). trust_in dir issuer realm.name >>= λ hop. let found : Option (ℕ × Aim) = Some (issuer, aims.Hop hop) in found in
    let known = chosen (is_krbtgt_of realm.name ticket.sname && not (same_text ticket.realm realm.name)) (realm_named dir ticket.realm >>= from) place h in
    let issued = stepped (realm_named dir ticket.realm) from place known.1 in
    let trusted = stepped (trust_in dir issued.0 realm.name) (λ (hop : ℕ). let found : Option (ℕ × Aim) = Some (issued.0, aims.Hop hop) in found) place issued.2 in
    let here : (issued.0, aims.Hop trusted.0) ≡ place = one_of (issued.0, aims.Hop trusted.0) place trusted.2 in
    trust_party dir issued.0 trusted.0 ticket.realm realm.name held issued.1 trusted.1 (ap (λ (p : ℕ × Aim). aim_holding dir p.0 p.1) here ∙ k)

-- ---- by role

pub cross_evidence_is_of_this_realm : CrossEvidenceIsOfThisRealm
cross_evidence_is_of_this_realm dir at realm ticket opened here h =
    let o : IsHeld dir at CrossEvidence ticket opened = is_held dir at CrossEvidence ticket opened h in
    ap party_of o.holder ∙ cross_found dir realm ticket o.place o.held (place_of dir at realm CrossEvidence ticket o.place here o.found) o.holds

abbrev HeaderParty : RealmRec → Ticket → Holder → Type 0
HeaderParty realm ticket holder = ((ticket.realm ≡ realm.name) × (party_of holder ≡ Krbtgt realm.name)) ⊎ (party_of holder ≡ Trust ticket.realm realm.name)

header_by : (dir : DirectoryValue) (at : ℕ) (realm : RealmRec) (ticket : Ticket) (place : ℕ × Aim) (held : Holding) (test : Bool) → (test ≡ true → ticket.realm ≡ realm.name) → slice_get dir.realms at ≡ Some realm
    → cond test (let own : Option (ℕ × Aim) = Some (at, aims.Krbtgt) in own) (cross_place dir realm ticket) ≡ Some place → aim_holding dir place.0 place.1 ≡ Some held → HeaderParty realm ticket held.holder
header_by dir at realm ticket place held true own here h k =
    let place_is : (at, aims.Krbtgt) ≡ place = one_of (at, aims.Krbtgt) place h in
    let holds = aim_in dir at realm aims.Krbtgt held here (ap (λ (p : ℕ × Aim). aim_holding dir p.0 p.1) place_is ∙ k) in
    inl (own refl, ap (λ (x : Holding). party_of x.holder) (sym (one_of (krbtgt_holding realm) held holds)))
header_by dir at realm ticket place held false own here h k = inr (cross_found dir realm ticket place held h k)

pub headers_are_of_this_realm : HeadersAreOfThisRealm
headers_are_of_this_realm dir at realm ticket opened here h =
    let o : IsHeld dir at Header ticket opened = is_held dir at Header ticket opened h in
    let named : Bool = is_krbtgt_of realm.name ticket.sname in
    let own : Bool = same_text ticket.realm realm.name in
    subst (λ (holder : Holder). HeaderParty realm ticket holder) (sym o.holder)
    (header_by dir at realm ticket o.place o.held (named && own) (λ e. same ticket.realm realm.name (both named own e).1) here (place_of dir at realm Header ticket o.place here o.found) o.holds)

-- ---- the requestor's account

only_is : (parts : List (List ℕ)) (part : List ℕ) → only_part parts ≡ Some part → parts ≡ part ∷ []
only_is [] part h = absurd (cc)
only_is (first ∷ []) part h = ap (λ (n : List ℕ). let parts : List (List ℕ) = n ∷ [] in parts) (one_of first part h)
only_is (first ∷ second ∷ parts) part h = absurd (cc)

asks : (dir : DirectoryValue) (at account : ℕ) (realm : RealmRec) (client : Principal) → slice_get dir.realms at ≡ Some realm → requestor_account dir at client ≡ Some account → account_of_realm dir at realm client ≡ Some account
unfolding requestor_account
asks dir at account realm client here h = sym (ap (λ (o : Option RealmRec). o >>= λ r. account_of_realm dir at r client) here) ∙ h

pub evidence_is_of_the_requestor : EvidenceIsOfTheRequestor
evidence_is_of_the_requestor dir at account realm client ticket opened here asked h =
    let o : IsHeld dir at (Evidence account) ticket opened = is_held dir at (Evidence account) ticket opened h in
    let named = chosen (same_text client.realm realm.name) (only_part client.parts >>= account_named dir at) account (asks dir at account realm client here asked) in
    let one = stepped (only_part client.parts) (account_named dir at) account named.1 in
    let listed : position (λ (a : AccountRec). same_text a.name one.0) realm.accounts ≡ Some account =
    sym (ap (option_and_then (λ (r : RealmRec). position (λ (a : AccountRec). same_text a.name one.0) r.accounts)) here) ∙ one.2 in
    let placed = chosen (same_text ticket.realm realm.name && is_place at account (resolve_account dir at ticket.sname)) (let own : Option (ℕ × Aim) = Some (at, aims.Account account) in own) o.place (place_of dir at realm (Evidence account) ticket o.place here o.found) in
    let place_is : (at, aims.Account account) ≡ o.place = one_of (at, aims.Account account) o.place placed.1 in
    let m = mapped (account_holding realm) (slice_get realm.accounts account) o.held (aim_in dir at realm (aims.Account account) o.held here (ap (λ (p : ℕ × Aim). aim_holding dir p.0 p.1) place_is ∙ o.holds)) in
    let found : AccountRec = m.0 in
    let name : found.name ≡ one.0 = same found.name one.0 (passes_at (λ (a : AccountRec). same_text a.name one.0) realm.accounts account found listed m.1) in (
      found,
      ap (option_and_then (λ (r : RealmRec). slice_get r.accounts account)) here ∙ m.1,
      same client.realm realm.name named.0,
      only_is client.parts one.0 one.1 ∙ ap (λ (n : List ℕ). let parts : List (List ℕ) = n ∷ [] in parts) (sym name),
      ap party_of o.holder ∙ ap (λ (x : Holding). party_of x.holder) (sym m.2),
    )
