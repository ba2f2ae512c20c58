-- The key of a holder, and the random block of a reply.
use Rattle.std.proofs.Common.{◌≡◌, ℕ, ◌<◌, ◌^◌, List, [], ◌∷◌, drop, Some, refl, subst, arith, length-drop, length-take}
use Rattle.std.specs.Prelude.{slice_get}
use Rattle.std.specs.List.{AllByRecursion}
use Rattle.aes_core.specs.Inverses.{AreBytes, IsBlock}
use Rattle.aes_core.proofs.Inverse.{byte_in}
use Rattle.der_core.specs.Laws.{IsBytes}
use Rattle.krb_crypto.proofs.CtsInverse.{bytes-drop, bytes-take}
use Rattle.krb_crypto.specs.BlockCipher.{IsKey}
use Rattle.kdc_records.specs.declared.decision.Aim.{Aim}
use Rattle.kdc_records.specs.declared.decision.Aim.TheVariants.{Krbtgt, Hop, Account}
use Rattle.kdc_records.specs.Parties.{version_of}
use Rattle.dir_records.specs.declared.records.RealmRec.{RealmRec}
use Rattle.dir_records.specs.DirectoryValue.{DirectoryValue}
use Rattle.dir_records.specs.IsDirectory.{IsAccountInRange, IsDirectory, IsKeyInRange, IsRealmInRange, IsTrustInRange}
use Rattle.ticket_codec.specs.declared.holding.Holding.{Holding}
use Rattle.ticket_codec.specs.Holdings.{account_holding, aim_holding, aim_holding_in, hop_holding, krbtgt_holding}
use Rattle.s4u_client.specs.Reads.{IsRandom}
use Rattle.tgs_core.specs.Grants.{reply_confounder, ticket_confounder}
use Rattle.tgs_core.proofs.FoundGrants.{at_index, mapped_of, some_is, step_of}

-- ---- the key of a holder

octets_are : (octets : List ℕ) → AllByRecursion (λ (octet : ℕ). octet < 256) octets → AreBytes octets
octets_are [] h = tt
octets_are (octet ∷ octets) h = (h.0, octets_are octets h.1)

-- a key of the type, whose version the holder has
pub record IsHeld (held : Holding) : Type 0 where
  pub key : IsKeyInRange held.key
  pub version : version_of held.holder ≡ held.key.version

held_in : (realm : RealmRec) (aim : Aim) (held : Holding) → IsRealmInRange realm → aim_holding_in realm aim ≡ Some held → IsHeld held
held_in realm Krbtgt held h e = subst IsHeld (some_is (krbtgt_holding realm) held e) (record { key = h.krbtgt; version = refl })
held_in realm (Hop at) held h e =
    let found = mapped_of (slice_get realm.trusts at) (hop_holding realm) held e in
    subst IsHeld found.is (record { key = (at_index IsTrustInRange realm.trusts at found.value h.trusts found.was).key; version = refl })
held_in realm (Account at) held h e =
    let found = mapped_of (slice_get realm.accounts at) (account_holding realm) held e in
    subst IsHeld found.is (record { key = (at_index IsAccountInRange realm.accounts at found.value h.accounts found.was).key; version = refl })

pub held_at : (dir : DirectoryValue) (at : ℕ) (aim : Aim) (held : Holding) → IsDirectory dir → aim_holding dir at aim ≡ Some held → IsHeld held
unfolding aim_holding
held_at dir at aim held h e =
    let realm = step_of (slice_get dir.realms at) (λ (realm : RealmRec). aim_holding_in realm aim) held e in
    held_in realm.value aim held (at_index IsRealmInRange dir.realms at realm.value h.in_range.realms realm.was) realm.is

pub held_key : (held : Holding) → IsHeld held → IsKey held.key.key
held_key held h = (h.key.size, octets_are held.key.key.raw h.key.octets)

pub held_version : (held : Holding) → IsHeld held → version_of held.holder < 2 ^ 32
held_version held h = let version = h.version in let few = h.key.version in omega (arith, version, few)

-- ---- the random block

pub random_bytes : (block : List ℕ) → IsRandom block → IsBytes block
random_bytes block r = λ i. byte_in block i r.octets

pub ticket_confounder_is : (block : List ℕ) → IsRandom block → IsBlock (ticket_confounder block)
ticket_confounder_is block r = let long = r.long in (omega (arith, length-take 16 (drop 32 block), length-drop 32 block, long), bytes-take 16 (drop 32 block) (bytes-drop 32 block r.octets))

pub reply_confounder_is : (block : List ℕ) → IsRandom block → IsBlock (reply_confounder block)
reply_confounder_is block r = let long = r.long in (omega (arith, length-take 16 (drop 48 block), length-drop 48 block, long), bytes-take 16 (drop 48 block) (bytes-drop 48 block r.octets))
