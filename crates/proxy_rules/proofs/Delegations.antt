-- How long the texts of a new delegation are, and how many.
use Rattle.std.proofs.Common.{◌≡◌, ◌∙◌, ℕ, ◌*◌, ◌≤◌, ◌||◌, not, Bool, true, false, List, [], ◌∷◌, ◌++◌, length, refl, sym, ap, subst, length-append, arith}
use Rattle.std.specs.Prelude.{All, nat_lt, if◌then◌else◌}
use Rattle.std.specs.List.{AllByRecursion, join_with_byte}
use Rattle.std.specs.Str.{IsUtf8}
use Rattle.std.proofs.lemmas.Bool.{ltb-true}
use Rattle.std.proofs.lemmas.List.Elements.{All-cons, All-nil}
use Rattle.std.proofs.lemmas.Str.{IsUtf8-append, IsUtf8-encode, IsUtf8-nil, encode_ascii}
use Rattle.kdc_prelude.specs.Options.{holds_of}
use Rattle.krb_names.specs.declared.principal.Principal.{Principal}
use Rattle.krb_names.specs.NameTexts.{name_text}
use Rattle.dir_records.specs.declared.records.RealmRec.{RealmRec}
use Rattle.s4u_rules.specs.TgsRules.{is_local}
use Rattle.proxy_rules.specs.Delegations.{AreShortParts, HasFewServices, HasShortRequestor, HasShortTarget, IsShortName, IsTextWithin}
use Rattle.proxy_rules.specs.ProxyRules.{services_of}

-- ---- texts

slash : IsUtf8 (47 ∷ [])
slash = subst IsUtf8 (encode_ascii 47 (omega arith)) (IsUtf8-encode 47 refl)

at_sign : IsUtf8 (64 ∷ [])
at_sign = subst IsUtf8 (encode_ascii 64 (omega arith)) (IsUtf8-encode 64 refl)

-- two texts round a byte that is one
round : (b : ℕ) → IsUtf8 (b ∷ []) → (front back : List ℕ) → IsUtf8 front → IsUtf8 back → IsUtf8 (front ++ b ∷ back)
round b byte front back h k = IsUtf8-append front (b ∷ back) h (IsUtf8-append (b ∷ []) back byte k)

joined_utf8 : (parts : List (List ℕ)) → AllByRecursion (IsTextWithin 511) parts → IsUtf8 (join_with_byte 47 parts)
joined_utf8 [] h = IsUtf8-nil
joined_utf8 (part ∷ []) h = h.0.utf8
joined_utf8 (first ∷ second ∷ parts) h = round 47 slash first (join_with_byte 47 (second ∷ parts)) h.0.utf8 (joined_utf8 (second ∷ parts) h.1)

joined_short : (parts : List (List ℕ)) → AllByRecursion (IsTextWithin 511) parts → length (join_with_byte 47 parts) ≤ 512 * length parts
joined_short [] h = omega arith
joined_short (part ∷ []) h = omega (arith, h.0.short)
joined_short (first ∷ second ∷ parts) h =
    omega (arith, h.0.short, joined_short (second ∷ parts) h.1, length-append first (47 ∷ join_with_byte 47 (second ∷ parts)))

joined_within : (parts : List (List ℕ)) → AreShortParts parts → IsTextWithin 4096 (join_with_byte 47 parts)
joined_within parts h = record { utf8 = joined_utf8 parts h.texts; short = omega (arith, joined_short parts h.texts, h.few) }

pub short_target : HasShortTarget
short_target server h = joined_within server.parts h

-- ---- the requestor

named_within : (name : Principal) → IsShortName name → IsTextWithin 4352 (name_text name)
named_within name h =
    let joined = joined_within name.parts h.parts in
    record {
      utf8 = round 64 at_sign (join_with_byte 47 name.parts) name.realm joined.utf8 h.realm.utf8;
      short = omega (arith, joined.short, h.realm.short, length-append (join_with_byte 47 name.parts) (64 ∷ name.realm));
    }

lone_within : (b : Bool) (text : List ℕ) → IsTextWithin 4352 text → All (λ one. IsTextWithin 4352 one) (let texts : List (List ℕ) = if b then text ∷ [] else [] in texts)
lone_within true text h = All-cons (λ one. IsTextWithin 4352 one) text [] h (All-nil (λ one. IsTextWithin 4352 one))
lone_within false text h = All-nil (λ one. IsTextWithin 4352 one)

pub short_requestor : HasShortRequestor
short_requestor realm header h = lone_within (is_local realm header) (name_text header.client) (named_within header.client h)

-- ---- how many services

few_with : (b : Bool) (services : List (List ℕ)) (text : List ℕ) → length services ≤ 32 → (not b || nat_lt (length services) 32) ≡ true
    → length (services ++ (let texts : List (List ℕ) = if b then text ∷ [] else [] in texts)) ≤ 32
few_with true services text few short = omega (arith, ltb-true (length services) 32 short, length-append services (text ∷ []))
few_with false services text few short = omega (arith, few, length-append services [])

pub few_services : HasFewServices
few_services dir at realm server header evidence is few short =
    let local = ap (holds_of (λ (r : RealmRec). is_local r header)) is in
    few_with (is_local realm header) (services_of evidence.delegation) (name_text header.client) few
    (sym (ap (λ (b : Bool). not b || nat_lt (length (services_of evidence.delegation)) 32) local) ∙ short)
