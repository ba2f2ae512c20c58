-- The ticket in the reply of an answered exchange opens to the part of its entry.
use Rattle.std.proofs.Common.{◌≡◌, ◌∙◌, ℕ, zero, suc, ◌<◌, ◌^◌, List, [], ◌∷◌, length, take, drop, None, Some, Ok, refl, sym, ap, subst, arith, length-drop, length-take}
use Rattle.std.specs.Prelude.{slice_get}
use Rattle.std.specs.List.{AllByRecursion}
use Rattle.aes_core.specs.Inverses.{AreBytes, IsBlock}
use Rattle.der_core.specs.Codec.{whole}
use Rattle.der_core.specs.Laws.{IsBytes}
use Rattle.der_core.specs.Steps.{IsBytes-front, IsBytes-rest}
use Rattle.std.proofs.lemmas.List.{take-append-drop}
use Rattle.krb_names.specs.declared.key.Key.{Key}
use Rattle.krb_crypto.proofs.ByteSums.{bytes_below}
use Rattle.krb_crypto.specs.BlockCipher.{IsKey}
use Rattle.krb_crypto.specs.Encryption.{opened, seal}
use Rattle.krb_tickets.specs.declared.enc_ticket_part.EncTicketPart.{EncTicketPart}
use Rattle.krb_tickets.specs.EncTicketPart.{enc_ticket_part}
use Rattle.krb_tickets.specs.Laws.{enc_ticket_part_lawful}
use Rattle.krb_messages.specs.KdcRep.{kdc_rep}
use Rattle.kdc_records.specs.declared.decision.Aim.{Aim}
use Rattle.kdc_records.specs.declared.decision.Aim.TheVariants.{Krbtgt, Hop, Account}
use Rattle.kdc_records.specs.declared.holder.Holder.{Holder}
use Rattle.kdc_records.specs.declared.ticket_rec.TicketRec.{TicketRec}
use Rattle.kdc_records.specs.Parties.{version_of}
use Rattle.dir_records.specs.declared.records.RealmRec.{RealmRec}
use Rattle.dir_records.specs.DirectoryValue.{DirectoryValue}
use Rattle.dir_records.specs.IsDirectory.{IsAccountInRange, IsDirectory, IsKeyInRange, IsRealmInRange, IsTrustInRange}
use Rattle.ticket_parts.specs.Parts.{part}
use Rattle.ticket_parts.specs.Records.{record_of}
use Rattle.ticket_parts.specs.Sound.{IsSound}
use Rattle.ticket_parts.proofs.ToldAgain.{record_back}
use Rattle.ticket_parts.proofs.Written.{part_short, part_writable, part_written}
use Rattle.ticket_codec.specs.declared.holding.Holding.{Holding}
use Rattle.ticket_codec.specs.Holdings.{account_holding, aim_holding, aim_holding_in, hop_holding, krbtgt_holding}
use Rattle.ticket_codec.proofs.PartBytes.{part_bytes}
use Rattle.ticket_codec.proofs.Sealed.{opened_sealed}
use Rattle.tgs_core.specs.Grants.{Grant, grant_in, granted_record, ticket_confounder}
use Rattle.tgs_core.specs.Replies.{reply_of}
use Rattle.tgs_core.specs.Verdicts.{verdict}
use Rattle.tgs_core.proofs.GrantedRequests.{granted_in_is_grant}
use Rattle.kdc_frames.specs.Exchanges.{Exchange}
use Rattle.history_laws.specs.Entries.{IsAnswered, entry_of}
use Rattle.history_laws.specs.Openings.{IsOpened, OpensLaw}
use Rattle.history_laws.proofs.Answered.{reply_granted}
use Rattle.history_laws.proofs.Grants.{entry_parts, entry_sound}
use Rattle.history_laws.proofs.GrantsOf.{grant_parts}
use Rattle.history_laws.proofs.ReadReplies.{reply_reads, whole_spelt}
use Rattle.history_laws.proofs.Steps.{mapped, one_of, stepped}

-- ---- the key of a holder

at_index : {X : Type 0} (P : X → Type 0) (xs : List X) (i : ℕ) (x : X) → AllByRecursion P xs → slice_get xs i ≡ Some x → P x
at_index P [] i x all e = absurd (cc)
at_index P (y ∷ ys) zero x all e = subst P (one_of y x e) all.0
at_index P (y ∷ ys) (suc i) x all e = at_index P ys i x all.1 e

octets_are : (octets : List ℕ) → AllByRecursion (λ (octet : ℕ). octet < 256) octets → AreBytes octets
octets_are [] h = tt
octets_are (octet ∷ octets) h = (h.0, octets_are octets h.1)

-- a key of the type, whose version the holder has
record IsHeld (held : Holding) : Type 0 where
  key : IsKeyInRange held.key
  version : version_of held.holder ≡ held.key.version

held_in : (realm : RealmRec) (aim : Aim) (held : Holding) → IsRealmInRange realm → aim_holding_in realm aim ≡ Some held → IsHeld held
held_in realm Krbtgt held h e = subst IsHeld (one_of (krbtgt_holding realm) held e) (record { key = h.krbtgt; version = refl })
held_in realm (Hop at) held h e =
    let found = mapped (hop_holding realm) (slice_get realm.trusts at) held e in
    subst IsHeld found.2 (record { key = (at_index IsTrustInRange realm.trusts at found.0 h.trusts found.1).key; version = refl })
held_in realm (Account at) held h e =
    let found = mapped (account_holding realm) (slice_get realm.accounts at) held e in
    subst IsHeld found.2 (record { key = (at_index IsAccountInRange realm.accounts at found.0 h.accounts found.1).key; version = refl })

aimed : (dir : DirectoryValue) (at : ℕ) (aim : Aim) (held : Holding) → IsDirectory dir → aim_holding dir at aim ≡ Some held → IsHeld held
unfolding aim_holding
aimed dir at aim held h e =
    let realm = stepped (slice_get dir.realms at) (λ (realm : RealmRec). aim_holding_in realm aim) held e in
    held_in realm.0 aim held (at_index IsRealmInRange dir.realms at realm.0 h.in_range.realms realm.1) realm.2

held_key : (held : Holding) → IsHeld held → IsKey held.key.key
held_key held h = (h.key.size, octets_are held.key.key.raw h.key.octets)

held_version : (held : Holding) → IsHeld held → version_of held.holder < 2 ^ 32
held_version held h = let version = h.version in let few = h.key.version in omega (arith, version, few)

-- ---- the confounder

confounder_is : (block : List ℕ) → IsBytes block → length block ≡ 64 → IsBlock (ticket_confounder block)
confounder_is block h long =
    let later : List ℕ = drop 32 block in
    let rest : IsBytes later = IsBytes-rest (take 32 block) later (subst IsBytes (sym (take-append-drop 32 block)) h) in
    let front : IsBytes (take 16 later) = IsBytes-front (take 16 later) (drop 16 later) (subst IsBytes (sym (take-append-drop 16 later)) rest) in
    (omega (arith, length-take 16 later, length-drop 32 block, long), bytes_below (take 16 later) front)

-- ---- the ticket

sealed_opens : (t : TicketRec) (key realm_key : Key) (conf : List ℕ) → IsSound t → IsKey key → IsBlock conf
    → opened key 2 (seal key 2 conf (enc_ticket_part.spelling (part t key realm_key))) ≡ Some (enc_ticket_part.spelling (part t key realm_key))
sealed_opens t key realm_key conf sound own block =
    let p : EncTicketPart = part t key realm_key in
    let bytes : List ℕ = enc_ticket_part.spelling p in
    opened_sealed key 2 conf bytes own block (bytes_below bytes (part_bytes p (part_writable t key realm_key sound)))

part_reads : (t : TicketRec) (key realm_key : Key) → IsSound t → whole enc_ticket_part (enc_ticket_part.spelling (part t key realm_key)) ≡ Ok (part t key realm_key)
part_reads t key realm_key sound =
    whole_spelt enc_ticket_part enc_ticket_part_lawful (part t key realm_key) (part_written t key realm_key sound) (omega (arith, part_short t key realm_key sound))

holder_is : (grant : Grant) (block : List ℕ) → (granted_record grant block).holder ≡ grant.holding.holder
unfolding granted_record
holder_is grant block = refl

cipher_is : (grant : Grant) (block : List ℕ) → (reply_of grant block).ticket.sealed.cipher
    ≡ seal grant.holding.key.key 2 (ticket_confounder block) (enc_ticket_part.spelling (part (granted_record grant block) grant.holding.key.key grant.realm.krbtgt.key))
unfolding reply_of
cipher_is grant block = refl

opened_as : (exchange : Exchange) (grant : Grant) → IsAnswered exchange → verdict exchange.directory exchange.moment exchange.request ≡ None
    → grant_in exchange.directory exchange.moment exchange.request ≡ Some grant → IsOpened exchange (entry_of exchange.directory exchange.moment exchange.block grant)
opened_as exchange grant answered none granted =
    let dir = exchange.directory in
    let block = exchange.block in
    let t : TicketRec = granted_record grant block in
    let key : Key = grant.holding.key.key in
    let realm_key : Key = grant.realm.krbtgt.key in
    let parts = grant_parts dir exchange.moment exchange.request grant granted in
    let sound = entry_sound exchange answered grant none granted in
    let given = granted_in_is_grant dir exchange.moment exchange.request grant answered.directory_is answered.request_is none granted in
    let held = aimed dir grant.request.realm grant.terms.aim grant.holding answered.directory_is parts.held in
    let own : IsKey key = held_key grant.holding held in
    let few : version_of t.holder < 2 ^ 32 = subst (λ (holder : Holder). version_of holder < 2 ^ 32) (sym (holder_is grant block)) (held_version grant.holding held) in
    let confounder : IsBlock (ticket_confounder block) = confounder_is block answered.block_is answered.block_has in
    let replied = answered.replied ∙ reply_granted dir exchange.moment block exchange.request grant none granted in
    record {
      replied = replied;
      reads_back = ap (whole kdc_rep) replied ∙ reply_reads grant block given sound own few confounder answered.block_has;
      held = parts.held;
      holder = holder_is grant block;
      opens = ap (opened key 2) (cipher_is grant block) ∙ sealed_opens t key realm_key (ticket_confounder block) sound own confounder;
      reads = part_reads t key realm_key sound;
      tells = ap (λ (held : Holder). record_of held (part t key realm_key)) (sym (holder_is grant block)) ∙ record_back t t.holder key realm_key sound;
    }

pub opens_at : OpensLaw
opens_at exchange entry answered e =
    let parts = entry_parts exchange entry answered e in
    subst (IsOpened exchange) parts.made (opened_as exchange parts.grant answered parts.none parts.granted)
