-- What follows from an exact reading.
use Rattle.std.proofs.Common.{◌≡◌, ℕ, zero, suc, ◌≤◌, Bool, true, false, ◌&&◌, leb, List, [], ◌∷◌, length, replicate, Result, Ok, Err, refl, ap, subst, ◌∙◌, arith}
use Rattle.std.specs.Int.{w32}
use Rattle.std.proofs.lemmas.Bool.{leb-true}
use Rattle.std.specs.Prelude.{IfOk}
use Rattle.kdc_prelude.specs.Answers.{Answers}
use Rattle.ndr_core.specs.declared.fault.LogonFault.{LogonFault}
use Rattle.ndr_core.specs.declared.fault.LogonFault.TheVariants as faults
use Rattle.ndr_core.specs.Layout.{Layout}
use Rattle.ndr_core.specs.Gives.{Fails, Tells}
use Rattle.ndr_core.specs.Fields.{number}
use Rattle.ndr_core.specs.Arrays.{IsEach}
use Rattle.ndr_core.specs.Object.{object, IsObject}
use Rattle.ndr_core.specs.Laws.{IsBytes, IsLayout}
use Rattle.ndr_core.proofs.ObjectLaws.{object_found, object_only}
use Rattle.krb_names.specs.SidValue.{SidValue}
use Rattle.ndr_values.specs.Sids.{rpc_sid}
use Rattle.pac_logon.specs.declared.members.DomainHeads.{DomainHeads}
use Rattle.pac_logon.specs.declared.members.Members.{Members}
use Rattle.pac_logon.specs.declared.logon_info.Subject4.{Subject4}
use Rattle.pac_logon.specs.declared.logon_info.LogonInfo.{LogonInfo}
use Rattle.pac_logon.specs.Referents.{domain_behind, subject_behind}
use Rattle.pac_logon.specs.Logon.{logon}

-- a fault other than want of memory is the reading's
fails_is : {X : Type 0} (fault : LogonFault) (reading : Result X LogonFault) → Fails fault reading → (fault ≡ faults.NoMemory → ⊥) → reading ≡ Err fault
fails_is faults.NoMemory reading e other = absurd (other refl)
fails_is faults.BadText reading e other = e
fails_is (faults.Ndr r) reading e other = e

told : {X : Type 0} (r : Result X LogonFault) (reading : Result X LogonFault) → Tells (λ x. x) r reading → Answers faults.NoMemory r reading
told (Ok x) reading e = e
told (Err fault) reading e = fails_is fault reading e

pub is_found : {X : Type 0} (c : Layout X) (bytes : List ℕ) (r : Result X LogonFault) → IsLayout c → IsBytes bytes → Tells (λ x. x) r (object c bytes) → IfOk r (IsObject c bytes)
is_found c bytes (Ok x) lawful fits e = object_found c bytes x lawful fits e
is_found c bytes (Err fault) lawful fits e = tt

pub is_only : {X : Type 0} (c : Layout X) (bytes : List ℕ) (r : Result X LogonFault) → IsLayout c → Tells (λ x. x) r (object c bytes) → (x : X) → IsObject c bytes x → Answers faults.NoMemory r (Ok x)
is_only {X} c bytes r lawful given x d = told r (Ok x) (subst (λ (f : Result X LogonFault). Tells (λ x. x) r f) (object_only c bytes x lawful d) given)

-- ---- the domain's SID

both : (a b : Bool) → (a && b) ≡ true → (a ≡ true) × (b ≡ true)
both true b e = (refl, e)
both false b e = absurd cc

each_length : {X : Type 0} (c : Layout X) (n place : ℕ) (bytes : List ℕ) (xs : List X) → IsEach (λ (_ : Unit {0}). c) (replicate n tt) place bytes xs → length xs ≡ n
each_length c zero place bytes [] d = refl
each_length c zero place bytes (x ∷ xs) d = absurd d
each_length c (suc n) place bytes [] d = absurd d
each_length c (suc n) place bytes (x ∷ xs) d = ap suc (each_length c n _ _ xs d.second)

sid_few : (most place : ℕ) (bytes : List ℕ) (s : SidValue) → (rpc_sid most).IsNdr place bytes s → length s.numbers ≤ most
sid_few most place bytes s d =
    let body = d.spelt.second.second.second in
    let count = d.spelt.first.1 in
    let len : length body.parts.1 ≡ d.parts.0 = each_length (number w32) d.parts.0 _ _ body.parts.1 body.spelt.second in
    let made : length body.parts.1 ≡ length s.numbers = ap (λ (v : SidValue). length v.numbers) (body.made ∙ d.made) in
    let le : d.parts.0 ≤ most = leb-true _ _ (both (leb 1 d.parts.0) (leb d.parts.0 most) count).1 in
    omega arith

domain_few : (h : DomainHeads) (place : ℕ) (bytes : List ℕ) (x : List ℕ × SidValue) → (domain_behind h).IsNdr place bytes x → length x.1.numbers ≤ 14
unfolding domain_behind
domain_few h place bytes x d =
    subst (λ (v : List ℕ × SidValue). length v.1.numbers ≤ 14) d.made (sid_few 14 _ _ d.parts.1.1 d.spelt.second.second)

subject_few : (m : Members) (place : ℕ) (bytes : List ℕ) (s : Subject4) → (subject_behind m).IsNdr place bytes s → length s.domain_sid.numbers ≤ 14
unfolding subject_behind
subject_few m place bytes s d =
    subst (λ (v : Subject4). length v.domain_sid.numbers ≤ 14) d.made (domain_few m.domain _ _ d.parts.1.1.0 d.spelt.second.second.first)

logon_few : (bytes : List ℕ) (info : LogonInfo) → IsObject logon bytes info → length info.subject.domain_sid.numbers ≤ 14
logon_few bytes info d =
    let inside = d.inside.second in
    subst (λ (v : LogonInfo). length v.subject.domain_sid.numbers ≤ 14) inside.made (subject_few inside.parts.0 _ _ inside.parts.1 inside.spelt.second)

pub is_few : (bytes : List ℕ) (r : Result LogonInfo LogonFault) → IfOk r (IsObject logon bytes) → IfOk r (λ info. length info.subject.domain_sid.numbers ≤ 14)
is_few bytes (Ok info) d = logon_few bytes info d
is_few bytes (Err fault) d = tt
