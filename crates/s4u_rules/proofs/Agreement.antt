-- A question about S4U2self is answered as the request for what it asks.
use Rattle.std.proofs.Common.{◌≡◌, ◌∙◌, ℕ, ◌&&◌, ◌||◌, not, Bool, true, false, List, [], ◌∷◌, refl, sym, ap}
use Rattle.std.specs.Prelude.{Option, None, Some, is_some, option_and_then, option_map, position, slice_get, if◌then◌else◌}
use Rattle.std.specs.Cmp.Lexicographic.{same_text as equal_texts}
use Rattle.std.proofs.lemmas.Bool.{eq-eqb}
use Rattle.std.proofs.lemmas.Cmp.{nat_list_eq_equiv}
use Rattle.kdc_prelude.specs.Options.{holds_of}
use Rattle.kdc_prelude.specs.Steps.{◌>>=◌}
use Rattle.kdc_prelude.specs.Texts.{same_text}
use Rattle.kdc_prelude.specs.Verdicts.{first_failing}
use Rattle.kdc_prelude.proofs.Bools.{both}
use Rattle.krb_names.specs.declared.principal.Principal.{Principal}
use Rattle.kdc_records.specs.declared.decision.Aim.{Aim}
use Rattle.kdc_records.specs.declared.decision.Aim.TheVariants.{Account}
use Rattle.kdc_records.specs.declared.rule.Rule.{Rule}
use Rattle.kdc_records.specs.declared.rule.Rule.TheVariants.{G13, G14, S4, S5, S6, S7}
use Rattle.kdc_records.specs.declared.ticket_rec.TicketRec.{TicketRec}
use Rattle.kdc_records.specs.declared.wish.Wish.{Wish}
use Rattle.kdc_records.specs.Bits.{bit_if, has_bit}
use Rattle.kdc_records.specs.Parties.{is_user}
use Rattle.dir_records.specs.declared.records.Account.{Account as AccountRec}
use Rattle.dir_records.specs.declared.records.RealmRec.{RealmRec}
use Rattle.dir_records.specs.DirectoryValue.{DirectoryValue}
use Rattle.dir_records.specs.WellFormed.{is_well_formed}
use Rattle.dir_records.proofs.Apart.{are_apart}
use Rattle.dir_core.specs.Lookups.{account_at, account_named, account_of, place_in, realm_named}
use Rattle.route_rules.specs.Aims.{aim_at, hop_to, place_meant, resolve, resolve_account}
use Rattle.route_rules.specs.Meanings.{account_meant}
use Rattle.route_rules.specs.Requestor.{account_of_realm, requestor_account}
use Rattle.route_rules.proofs.FoundOnce.{found_once}
use Rattle.route_rules.proofs.Requestors.{position_at}
use Rattle.route_rules.proofs.Steps.{requestor_account_is, resolve_is}
use Rattle.s4u_rules.specs.Agreement.{AnswersAgree, Asks, RulesAgree, name_of}
use Rattle.s4u_rules.specs.AskSelf.{is_forwardable, self_question, self_rules as question_rules}
use Rattle.s4u_rules.specs.Conditions.{has_spn, is_enabled, may_be_delegated}
use Rattle.s4u_rules.specs.Outcomes.{outcome}
use Rattle.s4u_rules.specs.SelfRules.{aim_is_trusted, is_served_client, is_user_of, self_flags, server_is_the_requestor, user_asked, user_fits_header, user_is_enabled, user_is_known, user_is_local, user_may_be_delegated, user_record, user_record_in}
use Rattle.s4u_rules.specs.TgsRules.{aim_of, has_sid_of, is_for_its_client, is_local, is_the_subject, may_be_forwardable, requestor_is_enabled, requestor_is_known, requestor_record}

-- ---- texts

same_itself : (text : List ℕ) → same_text text text ≡ true
same_itself text = nat_list_eq_equiv.refl text

-- ---- accounts by a name of this realm

realm_is_at : (dir : DirectoryValue) (at : ℕ) (realm : RealmRec) → is_well_formed dir ≡ true → slice_get dir.realms at ≡ Some realm → realm_named dir realm.name ≡ Some at
realm_is_at dir at realm well is = found_once (λ r. r.name) dir.realms (are_apart dir well).names at realm is (same_itself realm.name)

abbrev record_at : DirectoryValue → ℕ → Option ℕ → Option AccountRec
record_at dir at account = account >>= account_at dir at

placed_record : (dir : DirectoryValue) (at : ℕ) (account : Option ℕ)
    → option_and_then (λ (place : ℕ × ℕ). account_at dir place.0 place.1) (option_map (λ (number : ℕ). (at, number)) account) ≡ record_at dir at account
placed_record dir at None = refl
placed_record dir at (Some account) = refl

account_of_is : (dir : DirectoryValue) (at : ℕ) (realm : RealmRec) (part : List ℕ) → is_well_formed dir ≡ true → slice_get dir.realms at ≡ Some realm
    → account_of dir (name_of part realm.name) ≡ record_at dir at (account_named dir at part)
account_of_is dir at realm part well is =
    ap (λ (found : Option ℕ). option_and_then (λ (place : ℕ × ℕ). account_at dir place.0 place.1) (place_in dir (Some part) found)) (realm_is_at dir at realm well is)
    ∙ placed_record dir at (account_named dir at part)

requestor_is : (dir : DirectoryValue) (at : ℕ) (realm : RealmRec) (part : List ℕ) → slice_get dir.realms at ≡ Some realm
    → requestor_account dir at (name_of part realm.name) ≡ account_named dir at part
requestor_is dir at realm part is =
    requestor_account_is dir at (name_of part realm.name)
    ∙ ap (λ (found : Option RealmRec). found >>= λ r. account_of_realm dir at r (name_of part realm.name)) is
    ∙ ap (λ (b : Bool). let asked : Option ℕ = if b then account_named dir at part else None in asked) (same_itself realm.name)

-- the requestor's account is the one that the question looks up
requestor_found : (dir : DirectoryValue) (at : ℕ) (realm : RealmRec) (part : List ℕ) (rec : TicketRec) → is_well_formed dir ≡ true → slice_get dir.realms at ≡ Some realm
    → rec.client ≡ name_of part realm.name → requestor_record dir at rec ≡ account_of dir (name_of part realm.name)
requestor_found dir at realm part rec well is client =
    ap (λ (name : Principal). record_at dir at (requestor_account dir at name)) client
    ∙ ap (record_at dir at) (requestor_is dir at realm part is) ∙ sym (account_of_is dir at realm part well is)

-- ---- the rows of the service

known_row : (found : Option AccountRec) (realm : RealmRec) (rec : TicketRec) → ((account : AccountRec) → found ≡ Some account → has_sid_of realm rec.subject account ≡ true)
    → holds_of (is_the_subject realm rec) found ≡ is_some found
known_row None realm rec sid = refl
known_row (Some account) realm rec sid = ap (λ (b : Bool). not (is_for_its_client rec) || b) (sid account refl) ∙ holds (is_for_its_client rec)
  where
    holds : (b : Bool) → (not b || true) ≡ true
    holds true = refl
    holds false = refl

local_row : (dir : DirectoryValue) (at : ℕ) (realm : RealmRec) (part : List ℕ) (rec : TicketRec) (test : RealmRec → Bool) → slice_get dir.realms at ≡ Some realm
    → rec.client ≡ name_of part realm.name → holds_of (λ r. not (is_local r rec) || test r) (slice_get dir.realms at) ≡ test realm
local_row dir at realm part rec test is client =
    ap (holds_of (λ r. not (is_local r rec) || test r)) is
    ∙ ap (λ (name : Principal). not (same_text name.realm realm.name) || test realm) client
    ∙ ap (λ (b : Bool). not b || test realm) (same_itself realm.name)

-- what is found by a name has it
named_at : (dir : DirectoryValue) (at account : ℕ) (realm : RealmRec) (part : List ℕ) → slice_get dir.realms at ≡ Some realm → account_named dir at part ≡ Some account
    → (found : AccountRec) × (slice_get realm.accounts account ≡ Some found) × (found.name ≡ part)
named_at dir at account realm part is named =
    let looked_up = ap (option_and_then (λ (r : RealmRec). position (λ (one : AccountRec). same_text one.name part) r.accounts)) is in
    let place = position_at (λ (one : AccountRec). same_text one.name part) realm.accounts account (sym looked_up ∙ named) in
    (place.0, place.1, equal_texts place.0.name part (sym place.2))

is_itself : (part realm : List ℕ) → is_user part realm (name_of part realm) ≡ true
is_itself part realm = ap (λ (b : Bool). (b && true) && same_text realm realm) (same_itself part) ∙ same_itself realm

served_row : (dir : DirectoryValue) (at : ℕ) (realm : RealmRec) (part : List ℕ) → slice_get dir.realms at ≡ Some realm → (account : Option ℕ) → account_named dir at part ≡ account
    → holds_of (is_served_client dir (name_of part realm.name)) (place_meant (account_meant (option_map (λ (number : ℕ). (at, number)) account))) ≡ holds_of has_spn (record_at dir at account)
served_row dir at realm part is None named = refl
served_row dir at realm part is (Some account) named =
    let found = named_at dir at account realm part is named in
    let served : AccountRec → Bool = λ one. is_user one.name realm.name (name_of part realm.name) && has_spn one in
    let own : is_user found.0.name realm.name (name_of part realm.name) ≡ true =
    ap (λ (name : List ℕ). is_user name realm.name (name_of part realm.name)) found.2 ∙ is_itself part realm.name in
    ap (holds_of (λ (r : RealmRec). holds_of (λ (one : AccountRec). is_user one.name r.name (name_of part realm.name) && has_spn one) (slice_get r.accounts account))) is
    ∙ ap (holds_of served) found.1
    ∙ ap (λ (b : Bool). b && has_spn found.0) own
    ∙ sym (ap (λ (r : Option RealmRec). holds_of has_spn (option_and_then (λ (one : RealmRec). slice_get one.accounts account) r)) is ∙ ap (holds_of has_spn) found.1)

server_row : (dir : DirectoryValue) (at : ℕ) (realm : RealmRec) (part : List ℕ) (wish : Wish) (rec : TicketRec) → is_well_formed dir ≡ true → slice_get dir.realms at ≡ Some realm
    → wish.server ≡ Some (name_of part realm.name) → rec.client ≡ name_of part realm.name
    → server_is_the_requestor dir at wish rec ≡ holds_of has_spn (account_of dir (name_of part realm.name))
server_row dir at realm part wish rec well is server client =
    ap (λ (asked : Option Principal). holds_of (is_served_client dir rec.client) (asked >>= resolve_account dir at)) server
    ∙ ap (λ (name : Principal). holds_of (is_served_client dir name) (resolve_account dir at (name_of part realm.name))) client
    ∙ served_row dir at realm part is (account_named dir at part) refl
    ∙ sym (ap (holds_of has_spn) (account_of_is dir at realm part well is))

-- ---- the rows of the user

asked_is : (part realm : List ℕ) → user_asked (name_of part realm) ≡ (part, realm)
unfolding user_asked
asked_is part realm = refl

local_is : (dir : DirectoryValue) (at : ℕ) (realm : RealmRec) (part of : List ℕ) → slice_get dir.realms at ≡ Some realm → user_is_local dir at (name_of part of) ≡ same_text of realm.name
local_is dir at realm part of is =
    ap (holds_of (λ (r : RealmRec). same_text (user_asked (name_of part of)).1 r.name)) is
    ∙ ap (λ (asked : List ℕ × List ℕ). same_text asked.1 realm.name) (asked_is part of)

record_is : (dir : DirectoryValue) (at : ℕ) (realm : RealmRec) (part of : List ℕ) → is_well_formed dir ≡ true → slice_get dir.realms at ≡ Some realm → same_text of realm.name ≡ true
    → user_record dir at (name_of part of) ≡ account_of dir (name_of part of)
unfolding user_record
record_is dir at realm part of well is here =
    ap (λ (found : Option RealmRec). found >>= λ r. user_record_in dir at r (user_asked (name_of part of))) is
    ∙ ap (user_record_in dir at realm) (asked_is part of)
    ∙ ap (λ (b : Bool). let found : Option AccountRec = if b then account_named dir at part >>= account_at dir at else None in found) here
    ∙ sym (ap (λ (name : List ℕ). account_of dir (name_of part name)) (equal_texts of realm.name (sym here)) ∙ account_of_is dir at realm part well is)

-- a row that asks something of the account of a user of this realm
user_row : (dir : DirectoryValue) (at : ℕ) (realm : RealmRec) (part of : List ℕ) (wish : Wish) (test : Option AccountRec → Bool) → is_well_formed dir ≡ true → slice_get dir.realms at ≡ Some realm
    → wish.user ≡ Some (name_of part of) → same_text of realm.name ≡ true
    → holds_of (λ user. not (user_is_local dir at user) || test (user_record dir at user)) wish.user ≡ test (account_of dir (name_of part of))
user_row dir at realm part of wish test well is user here =
    ap (holds_of (λ (name : Principal). not (user_is_local dir at name) || test (user_record dir at name))) user
    ∙ ap (λ (b : Bool). not b || test (user_record dir at (name_of part of))) (local_is dir at realm part of is ∙ here)
    ∙ ap test (record_is dir at realm part of well is here)

-- of two equal texts, what is not the one is not the other
other_text : (a b text : List ℕ) → same_text a b ≡ true → same_text text a ≡ false → same_text b text ≡ false
other_text a b text same other = by_test (same_text b text) refl
  where
    by_test : (t : Bool) → same_text b text ≡ t → same_text b text ≡ false
    by_test true e =
        let text_is_a : text ≡ a = sym (equal_texts b text (sym e)) ∙ sym (equal_texts a b (sym same)) in
        let agrees : same_text text a ≡ true = ap (λ (t : List ℕ). same_text t a) text_is_a ∙ same_itself a in
        absurd (cc)
    by_test false e = e

-- where the header is for its own client, of this realm, it is not for a user of another
not_for : (realm : RealmRec) (service part of : List ℕ) (rec : TicketRec) → rec.client ≡ name_of service realm.name → is_for_its_client rec ≡ true
    → same_text of realm.name ≡ false → is_user_of rec.subject (name_of part of) ≡ false
not_for realm service part of rec client own other =
    let its_own = sym (ap (is_user rec.subject.name rec.subject.realm) client) ∙ own in
    let realms = both (same_text service rec.subject.name && true) (same_text realm.name rec.subject.realm) its_own in
    ap (λ (asked : List ℕ × List ℕ). same_text rec.subject.realm asked.1 && same_text rec.subject.name asked.0) (asked_is part of)
    ∙ ap (λ (b : Bool). b && same_text rec.subject.name part) (other_text realm.name rec.subject.realm of realms.1 other)

realm_row : (dir : DirectoryValue) (at : ℕ) (realm : RealmRec) (service part of : List ℕ) (wish : Wish) (rec : TicketRec) → slice_get dir.realms at ≡ Some realm
    → wish.user ≡ Some (name_of part of) → rec.client ≡ name_of service realm.name → is_for_its_client rec ≡ true
    → holds_of (user_fits_header dir at rec) wish.user ≡ same_text of realm.name
realm_row dir at realm service part of wish rec is user client own =
    ap (holds_of (user_fits_header dir at rec)) user
    ∙ ap (λ (b : Bool). if b then is_for_its_client rec else is_user_of rec.subject (name_of part of)) (local_is dir at realm part of is)
    ∙ by_test (same_text of realm.name) refl
  where
    by_test : (t : Bool) → same_text of realm.name ≡ t → (if t then is_for_its_client rec else is_user_of rec.subject (name_of part of)) ≡ t
    by_test true e = own
    by_test false e = not_for realm service part of rec client own e

-- ---- the rules

agree : (a1 a2 a3 a4 a5 a6 b1 b2 b3 b4 b5 b6 : Bool) → a1 ≡ b1 → a2 ≡ b2 → a3 ≡ b3 → a4 ≡ b4 → (b4 ≡ true → a5 ≡ b5) → (b4 ≡ true → a6 ≡ b6)
    → first_failing ((G13, a1) ∷ (G14, a2) ∷ (S4, a3) ∷ (S5, a4) ∷ (S6, a5) ∷ (S7, a6) ∷ []) ≡ first_failing ((G13, b1) ∷ (G14, b2) ∷ (S4, b3) ∷ (S5, b4) ∷ (S6, b5) ∷ (S7, b6) ∷ [])
agree a1 a2 a3 a4 a5 a6 b1 b2 b3 true b5 b6 h1 h2 h3 h4 h5 h6 =
    λ i. first_failing ((G13, h1 i) ∷ (G14, h2 i) ∷ (S4, h3 i) ∷ (S5, h4 i) ∷ (S6, h5 refl i) ∷ (S7, h6 refl i) ∷ [])
agree a1 a2 a3 a4 a5 a6 b1 b2 b3 false b5 b6 h1 h2 h3 h4 h5 h6 =
    λ i. first_failing ((G13, h1 i) ∷ (G14, h2 i) ∷ (S4, h3 i) ∷ (S5, h4 i) ∷ (S6, a5) ∷ (S7, a6) ∷ [])

pub rules_agree : (dir : DirectoryValue) (at : ℕ) (realm : RealmRec) (service user user_realm : List ℕ) (wish : Wish) (rec : TicketRec) → is_well_formed dir ≡ true
    → Asks dir at realm (name_of service realm.name) (name_of user user_realm) wish rec → RulesAgree dir at (name_of service realm.name) (name_of user user_realm) wish rec
rules_agree dir at realm service user user_realm wish rec well h =
    let found = requestor_found dir at realm service rec well h.realm_is h.client in
    let account = account_of dir (name_of service realm.name) in
    agree (requestor_is_known dir at rec) (requestor_is_enabled dir at rec) (server_is_the_requestor dir at wish rec) (holds_of (user_fits_header dir at rec) wish.user)
    (holds_of (user_is_known dir at) wish.user) (holds_of (user_is_enabled dir at) wish.user)
    (is_some account) (holds_of is_enabled account) (holds_of has_spn account) (same_text user_realm realm.name)
    (is_some (account_of dir (name_of user user_realm))) (holds_of is_enabled (account_of dir (name_of user user_realm)))
    (local_row dir at realm service rec (λ r. holds_of (is_the_subject r rec) (requestor_record dir at rec)) h.realm_is h.client
    ∙ ap (holds_of (is_the_subject realm rec)) found ∙ known_row account realm rec h.sid)
    (local_row dir at realm service rec (λ r. holds_of is_enabled (requestor_record dir at rec)) h.realm_is h.client ∙ ap (holds_of is_enabled) found)
    (server_row dir at realm service wish rec well h.realm_is h.server h.client)
    (realm_row dir at realm service user user_realm wish rec h.realm_is h.named h.client h.own)
    (λ here. user_row dir at realm user user_realm wish is_some well h.realm_is h.named here)
    (λ here. user_row dir at realm user user_realm wish (holds_of is_enabled) well h.realm_is h.named here)

-- ---- the answer

abbrev is_trusted : AccountRec → Bool
is_trusted account = account.trusted_to_auth

aimed : (dir : DirectoryValue) (at : ℕ) (aim : Aim) (account : Option ℕ) → aim_at dir at (account_meant (option_map (λ (number : ℕ). (at, number)) account)) ≡ Some aim
    → aim_is_trusted dir at aim ≡ holds_of is_trusted (record_at dir at account)
aimed dir at aim None h = absurd (cc)
aimed dir at aim (Some account) h =
    let own : Some (Account account) ≡ Some aim = sym (ap (λ (b : Bool). let found : Option Aim = if b then Some (Account account) else hop_to dir at at in found) (eq-eqb at at refl)) ∙ h in
    sym (ap (aim_is_trusted dir at) (one_of (Account account) aim own))
  where
    one_of : (a b : Aim) → Some a ≡ Some b → a ≡ b
    one_of a b e = cc

trusted_row : (dir : DirectoryValue) (at : ℕ) (realm : RealmRec) (part : List ℕ) (wish : Wish) (aim : Aim) → is_well_formed dir ≡ true → slice_get dir.realms at ≡ Some realm
    → wish.server ≡ Some (name_of part realm.name) → aim_of dir at wish ≡ Some aim → aim_is_trusted dir at aim ≡ holds_of is_trusted (account_of dir (name_of part realm.name))
trusted_row dir at realm part wish aim well is server h =
    let asked = ap (λ (name : Option Principal). name >>= resolve dir at) server ∙ resolve_is dir at (name_of part realm.name) in
    aimed dir at aim (account_named dir at part) (sym asked ∙ h)
    ∙ sym (ap (holds_of is_trusted) (account_of_is dir at realm part well is))

mark_row : (dir : DirectoryValue) (at : ℕ) (realm : RealmRec) (part of : List ℕ) (wish : Wish) (rec : TicketRec) → is_well_formed dir ≡ true → slice_get dir.realms at ≡ Some realm
    → wish.user ≡ Some (name_of part of) → same_text of realm.name ≡ true
    → holds_of (user_may_be_delegated dir at rec) wish.user ≡ holds_of may_be_delegated (account_of dir (name_of part of))
mark_row dir at realm part of wish rec well is user here =
    ap (holds_of (user_may_be_delegated dir at rec)) user
    ∙ ap (λ (b : Bool). if b then holds_of may_be_delegated (user_record dir at (name_of part of)) else not (has_bit 17 rec.subject.control)) (local_is dir at realm part of is ∙ here)
    ∙ ap (holds_of may_be_delegated) (record_is dir at realm part of well is here)

bit_told : (b : Bool) → has_bit 1 (bit_if 1 b) ≡ b
bit_told true = refl
bit_told false = refl

together : (a b t : Bool) → ((a && b) && t) ≡ ((t && a) && b)
together true true true = refl
together true true false = refl
together true false true = refl
together true false false = refl
together false b true = refl
together false b false = refl

not_without : (a : Bool) → (a && false) ≡ false
not_without true = refl
not_without false = refl

forwardable_row : (service user : Option AccountRec)
    → (((true && holds_of may_be_delegated service) && holds_of may_be_delegated user) && holds_of is_trusted service) ≡ is_forwardable service user
forwardable_row None user = refl
forwardable_row (Some service) None = ap (λ (b : Bool). b && service.trusted_to_auth) (not_without (may_be_delegated service))
forwardable_row (Some service) (Some user) = together (may_be_delegated service) (may_be_delegated user) service.trusted_to_auth

passes : {R : Type 0} (rule : R) (b : Bool) (rows : List (R × Bool)) → first_failing ((rule, b) ∷ rows) ≡ None → (b ≡ true) × (first_failing rows ≡ None)
passes rule true rows h = (refl, h)
passes rule false rows h = absurd (cc)

fourth : (b1 b2 b3 b4 b5 b6 : Bool) → first_failing ((G13, b1) ∷ (G14, b2) ∷ (S4, b3) ∷ (S5, b4) ∷ (S6, b5) ∷ (S7, b6) ∷ []) ≡ None → b4 ≡ true
fourth b1 b2 b3 b4 b5 b6 h =
    let g13 = passes G13 b1 ((G14, b2) ∷ (S4, b3) ∷ (S5, b4) ∷ (S6, b5) ∷ (S7, b6) ∷ []) h in
    let g14 = passes G14 b2 ((S4, b3) ∷ (S5, b4) ∷ (S6, b5) ∷ (S7, b6) ∷ []) g13.1 in
    let s4 = passes S4 b3 ((S5, b4) ∷ (S6, b5) ∷ (S7, b6) ∷ []) g14.1 in
    (passes S5 b4 ((S6, b5) ∷ (S7, b6) ∷ []) s4.1).0

outcomes : (first : Option Rule) (a b : Bool) → (first ≡ None → a ≡ b) → outcome first a ≡ outcome first b
outcomes None a b h = ap (outcome None) (h refl)
outcomes (Some rule) a b h = refl

pub answers_agree : (dir : DirectoryValue) (at : ℕ) (realm : RealmRec) (service user user_realm : List ℕ) (wish : Wish) (rec : TicketRec) (aim : Aim) → is_well_formed dir ≡ true
    → Asks dir at realm (name_of service realm.name) (name_of user user_realm) wish rec → AnswersAgree dir at (name_of service realm.name) (name_of user user_realm) wish rec aim
answers_agree dir at realm service user user_realm wish rec aim well h option header aim_is =
    let account = account_of dir (name_of service realm.name) in
    let of_user = account_of dir (name_of user user_realm) in
    let flags = has_bit 1 (self_flags dir at wish rec aim) in
    let rows : Option Rule = first_failing (question_rules (self_question dir (name_of service realm.name) (name_of user user_realm))) in
    ap (λ (first : Option Rule). outcome first flags) (rules_agree dir at realm service user user_realm wish rec well h)
    ∙ outcomes rows flags (is_forwardable account of_user) (λ none.
    let here = fourth (is_some account) (holds_of is_enabled account) (holds_of has_spn account) (same_text user_realm realm.name) (is_some of_user) (holds_of is_enabled of_user) none in
    let mark = mark_row dir at realm user user_realm wish rec well h.realm_is h.named here in
    let trusted = trusted_row dir at realm service wish aim well h.realm_is h.server aim_is in
    bit_told ((may_be_forwardable wish rec && holds_of (user_may_be_delegated dir at rec) wish.user) && aim_is_trusted dir at aim)
    ∙ (λ i. ((option i && header i) && mark i) && trusted i)
    ∙ forwardable_row account of_user)
