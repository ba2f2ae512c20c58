-- What is granted can be written: the realms on the way of a ticket, and a delegation.
use Rattle.std.proofs.Common.{◌≡◌, ℕ, ◌<◌, ◌≤◌, Bool, true, false, ◌||◌, not, nat_lt, List, [], ◌∷◌, ◌++◌, length, get_or, ℤ, Option, Some, None, inl, inr, refl, ap, subst, sym, ◌∙◌, length-append, append-nil, arith}
use Rattle.std.specs.Prelude.{All, IfSome, if◌then◌else◌, option_to_list, position, slice_get}
use Rattle.std.specs.List.{AllByRecursion, flat_map, join_with_byte, list_all}
use Rattle.std.specs.Str.{IsUtf8, is_utf8}
use Rattle.std.proofs.lemmas.Bool.{and_from, and_parts, le-leb, ltb-true}
use Rattle.std.proofs.lemmas.List.Concat.{flat_map-cons}
use Rattle.std.proofs.lemmas.List.Elements.{All-from_recursion, All-nil, All-push}
use Rattle.std.proofs.lemmas.List.Folds.{list_all-append}
use Rattle.std.proofs.lemmas.List.Quantifiers.{position-Some}
use Rattle.std.proofs.lemmas.Str.{IsUtf8-append, IsUtf8-encode, IsUtf8-from_is_utf8, IsUtf8-nil, encode_ascii}
use lib.Pointwise.{bytes_decides}
use Rattle.der_core.specs.Forms.{text}
use Rattle.der_core.specs.Sizes.{size}
use Rattle.der_forms.specs.Names.{kerberos_string}
use Rattle.kdc_prelude.specs.Options.{holds_of}
use Rattle.kdc_prelude.specs.Texts.{same_text}
use Rattle.krb_names.specs.declared.principal.Principal.{Principal}
use Rattle.krb_names.specs.NameTexts.{name_text}
use Rattle.krb_names.specs.Pieces.{is_name}
use Rattle.krb_tickets.specs.Transited.{are_realms, is_realm}
use Rattle.ticket_laws.specs.Writable.{are_parts}
use Rattle.ticket_laws.proofs.Texts.{name_short, parts_fit, parts_within}
use Rattle.pac_logon.specs.Logon.{IsNdrText}
use Rattle.pac_laws.specs.Writable.{IsWritableDelegation}
use Rattle.kdc_records.specs.declared.subject.Delegation.{Delegation}
use Rattle.kdc_records.specs.declared.ticket_rec.TicketRec.{TicketRec}
use Rattle.dir_records.specs.declared.records.RealmRec.{RealmRec}
use Rattle.dir_records.specs.DirectoryValue.{DirectoryValue}
use Rattle.dir_records.specs.IsDirectory.{IsDirectory, IsRealm, IsRealmInRange}
use Rattle.dir_core.specs.Lookups.{is_reached, realm_named}
use Rattle.route_rules.specs.Cross.{if_cross, is_reached_way, issuing_realm, way_is_reached}
use Rattle.s4u_rules.specs.TgsRules.{is_local}
use Rattle.proxy_rules.specs.ProxyRules.{chain_is_short, delegation_made, services_of, target_text}
use Rattle.ticket_parts.specs.Parts.{delegation_of}
use Rattle.ticket_parts.specs.Sound.{IsSound}
use Rattle.ticket_parts.proofs.Names.{units_short}
use Rattle.ticket_codec.specs.Made.{IsTicketName}
use Rattle.tgs_core.specs.Grants.{way_behind}

-- ---- the realms on the way

-- a name that stands for a realm of these is a realm's
found_is : (realms : List RealmRec) (name : List ℕ) (i : ℕ) → AllByRecursion IsRealm realms → AllByRecursion IsRealmInRange realms
    → position (λ realm. same_text realm.name name) realms ≡ Some i → is_realm name ≡ true
found_is [] name i forms ranges found = absurd (cc)
found_is (first ∷ realms) name i forms ranges found =
    let at = position-Some (λ (realm : RealmRec). same_text realm.name name) (first ∷ realms) i first found in
    let realm : RealmRec = get_or (first ∷ realms) i first in
    let form = All-from_recursion IsRealm (first ∷ realms) forms i first at.0 in
    let range = All-from_recursion IsRealmInRange (first ∷ realms) ranges i first at.0 in
    subst (λ (text : List ℕ). is_realm text ≡ true) ((bytes_decides realm.name name).0 at.1) (and_from (is_utf8 realm.name) (is_name realm.name) range.name form.name)

-- one realm more behind fewer than 32
one_more : (realms : List (List ℕ)) (name : List ℕ) → are_realms realms ≡ true → length realms < 32 → is_realm name ≡ true → are_realms (realms ++ name ∷ []) ≡ true
one_more realms name are few is =
    let count : length (realms ++ name ∷ []) ≤ 32 = omega (arith, length-append realms (name ∷ [])) in
    let tests = and_parts _ (list_all is_realm realms) are in
    let all = list_all-append is_realm realms (name ∷ []) ∙ and_from (list_all is_realm realms) (list_all is_realm (name ∷ [])) tests.1 (and_from (is_realm name) true is refl) in
    and_from _ (list_all is_realm (realms ++ name ∷ [])) (le-leb (length (realms ++ name ∷ [])) 32 count) all

-- the issuing realm, where the directory has it
known_behind : (dir : DirectoryValue) (at : ℕ) (rec : TicketRec) (issuer : List ℕ) (found : Option ℕ) → IsDirectory dir → are_realms rec.transited ≡ true → realm_named dir issuer ≡ found
    → holds_of (λ from. way_is_reached dir at from rec) found ≡ true → are_realms (rec.transited ++ issuer ∷ []) ≡ true
known_behind dir at rec issuer None h are named reached = absurd (cc)
known_behind dir at rec issuer (Some from) h are named reached =
    let few = (and_parts (list_all (is_reached dir at from) rec.transited) (nat_lt (length rec.transited) 32) reached).1 in
    let is = found_is dir.realms issuer from h.consistent.forms.realms h.in_range.realms named in
    one_more rec.transited issuer are (ltb-true (length rec.transited) 32 few) is

issuer_behind : (dir : DirectoryValue) (at : ℕ) (rec : TicketRec) (issuer : Option (List ℕ)) → IsDirectory dir → are_realms rec.transited ≡ true
    → if_cross dir (λ from. way_is_reached dir at from rec) issuer ≡ true → are_realms (rec.transited ++ option_to_list issuer) ≡ true
issuer_behind dir at rec None h are reached = subst (λ (realms : List (List ℕ)). are_realms realms ≡ true) (sym (append-nil rec.transited)) are
issuer_behind dir at rec (Some issuer) h are reached = known_behind dir at rec issuer (realm_named dir issuer) h are refl reached

-- the realms on the way, and the one that issued the ticket behind them where that is to be appended
pub way_is : (dir : DirectoryValue) (at : ℕ) (rec : TicketRec) (append : Bool) → IsDirectory dir → IsSound rec → is_reached_way dir at rec ≡ true
    → are_realms (way_behind append rec) ≡ true
way_is dir at rec false h sound reached = sound.part.transited
way_is dir at rec true h sound reached = issuer_behind dir at rec (issuing_realm rec.holder) h sound.part.transited reached

-- ---- delegations

slash_is_text : IsUtf8 (47 ∷ [])
slash_is_text = subst IsUtf8 (encode_ascii 47 (omega arith)) (IsUtf8-encode 47 refl)

at_is_text : IsUtf8 (64 ∷ [])
at_is_text = subst IsUtf8 (encode_ascii 64 (omega arith)) (IsUtf8-encode 64 refl)

-- texts joined by `/` are a text
joined_is_text : (parts : List (List ℕ)) → AllByRecursion kerberos_string.Fits parts → IsUtf8 (join_with_byte 47 parts)
joined_is_text [] fits = IsUtf8-nil
joined_is_text (part ∷ []) fits = IsUtf8-from_is_utf8 part fits.0.0.1
joined_is_text (part ∷ next ∷ parts) fits =
    let others : List ℕ = join_with_byte 47 (next ∷ parts) in
    IsUtf8-append part (47 ∷ others) (IsUtf8-from_is_utf8 part fits.0.0.1) (IsUtf8-append (47 ∷ []) others slash_is_text (joined_is_text (next ∷ parts) fits.1))

-- they have no more bytes than their elements, with a tag before each
joined_within : (parts : List (List ℕ)) → length (join_with_byte 47 parts) ≤ length (flat_map text.spelling parts)
joined_within [] = omega arith
joined_within (part ∷ []) =
    omega (arith, ap length (flat_map-cons text.spelling part []), length-append (text.spelling part) [], length-append (size (length part)) part)
joined_within (part ∷ next ∷ parts) =
    omega (
      arith,
      joined_within (next ∷ parts),
      length-append part (47 ∷ join_with_byte 47 (next ∷ parts)),
      ap length (flat_map-cons text.spelling part (next ∷ parts)),
      length-append (text.spelling part) (flat_map text.spelling (next ∷ parts)),
      length-append (size (length part)) part,
    )

-- the parts of a name
parts_are_text : (kind : ℤ) (parts : List (List ℕ)) → are_parts kind parts ≡ true → IsUtf8 (join_with_byte 47 parts)
parts_are_text kind parts h =
    elim (parts_fit kind parts h) [
      | inl plain ↦ joined_is_text parts plain.0.0
      | inr lone ↦ subst (λ (texts : List (List ℕ)). IsUtf8 (join_with_byte 47 texts)) (sym lone.1.lone) (IsUtf8-from_is_utf8 lone.1.part lone.1.fits.0.1)
    ]

parts_short : (kind : ℤ) (parts : List (List ℕ)) → are_parts kind parts ≡ true → length (join_with_byte 47 parts) ≤ 2088
parts_short kind parts h = omega (arith, joined_within parts, parts_within kind parts h)

short_text : (text : List ℕ) → IsUtf8 text → length text ≤ 32767 → IsNdrText text
short_text text h few = record { utf8 = h; few = omega (arith, units_short text h) }

-- without the realm, and with it
target_is : (name : Principal) → are_parts name.kind name.parts ≡ true → IsNdrText (target_text name)
target_is name h =
    let few = parts_short name.kind name.parts h in
    short_text (target_text name) (parts_are_text name.kind name.parts h) (omega (arith, few))

name_is : (name : Principal) → are_parts name.kind name.parts ≡ true → is_realm name.realm ≡ true → IsNdrText (name_text name)
name_is name h k =
    let parts : List ℕ = join_with_byte 47 name.parts in
    let realm = and_parts (is_utf8 name.realm) (is_name name.realm) k in
    let behind = IsUtf8-append (64 ∷ []) name.realm at_is_text (IsUtf8-from_is_utf8 name.realm realm.0) in
    let few = parts_short name.kind name.parts h in
    let long = name_short name.realm realm.1 in
    short_text (name_text name) (IsUtf8-append parts (64 ∷ name.realm) (parts_are_text name.kind name.parts h) behind) (omega (arith, few, long, length-append parts (64 ∷ name.realm)))

-- services that can be written
record AreServices (services : List (List ℕ)) : Type 0 where
  few : length services ≤ 32
  texts : All (λ text. IsNdrText text) services

services_are : (made : Option Delegation) → IfSome made (λ delegation. IsWritableDelegation (delegation_of delegation)) → AreServices (services_of made)
services_are None h = record { few = omega arith; texts = All-nil (λ text. IsNdrText text) }
services_are (Some delegation) h = record { few = h.few; texts = h.services }

-- and one behind them where that is told, and they are fewer
one_behind : (b : Bool) (services : List (List ℕ)) (name : List ℕ) → AreServices services → IsNdrText name → (not b || nat_lt (length services) 32) ≡ true
    → AreServices (services ++ (if b then name ∷ [] else []))
one_behind true services name are is short =
    let few : length services < 32 = ltb-true (length services) 32 short in
    record { few = omega (arith, few, length-append services (name ∷ [])); texts = All-push (λ text. IsNdrText text) services name are.texts is }
one_behind false services name are is short = subst AreServices (sym (append-nil services)) are

-- to the name that is asked for, by the services that delegated and the requestor behind them where it is of this realm
pub delegation_is : (dir : DirectoryValue) (at : ℕ) (realm : RealmRec) (asked : Principal) (header evidence : TicketRec) → slice_get dir.realms at ≡ Some realm → IsTicketName realm.name asked
    → IsSound header → IsSound evidence → chain_is_short dir at header evidence ≡ true → IsWritableDelegation (delegation_of (delegation_made realm asked header evidence))
delegation_is dir at realm asked header evidence found named h k short =
    let services : List (List ℕ) = services_of evidence.delegation in
    let fewer = subst (λ (o : Option RealmRec). (not (holds_of (λ (r : RealmRec). is_local r header) o) || nat_lt (length services) 32) ≡ true) found short in
    let all = one_behind (is_local realm header) services (name_text header.client) (services_are evidence.delegation k.delegation) (name_is header.client h.part.cname_parts h.part.crealm) fewer in
    record { target = target_is asked named.parts; few = all.few; services = all.texts }
