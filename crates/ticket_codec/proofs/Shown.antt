-- A ticket shows the record that it was made of.
use Rattle.std.proofs.Common.{◌≡◌, ℕ, ◌<◌, ◌^◌, Bool, true, false, cond, ◌&&◌, List, length, Option, Some, None, Result, Ok, Err, refl, ap, subst, ◌∙◌, arith, [], ◌∷◌, pos, nat_eq, option_map}
use Rattle.std.specs.Prelude.{is_ok, slice_get}
use Rattle.std.proofs.lemmas.Bool.{eq-eqb}
use Rattle.aes_core.specs.Inverses.{IsBlock}
use Rattle.kdc_prelude.specs.Answers.{or_fault}
use Rattle.kdc_prelude.specs.Options.{holds_of}
use Rattle.kdc_prelude.specs.Results.{◌>>=◌}
use Rattle.krb_names.specs.declared.key.Key.{Key}
use Rattle.krb_names.specs.Etypes.{etype_number}
use Rattle.krb_crypto.specs.BlockCipher.{IsKey}
use Rattle.krb_crypto.specs.Encryption.{seal}
use Rattle.krb_crypto.proofs.ByteSums.{bytes_below}
use Rattle.der_core.specs.Codec.{Codec, whole}
use Rattle.der_core.specs.CodecLaws.{alone_lawful}
use Rattle.der_core.specs.Laws.{IsCodec}
use Rattle.kdc_records.specs.declared.rule.Rule.{Rule}
use Rattle.dir_records.specs.declared.records.RealmRec.{RealmRec}
use Rattle.dir_records.specs.DirectoryValue.{DirectoryValue}
use Rattle.krb_tickets.specs.declared.enc_ticket_part.EncTicketPart.{EncTicketPart}
use Rattle.krb_tickets.specs.declared.ticket.Ticket.{Ticket}
use Rattle.krb_tickets.specs.EncTicketPart.{enc_ticket_part}
use Rattle.krb_tickets.specs.Laws.{enc_ticket_part_lawful}
use Rattle.krb_tickets.specs.Pac.{pac_of, without_pac}
use Rattle.pac_buffers.specs.Buffers.{pac}
use Rattle.pac_sign.specs.declared.fault.SignFault.{SignFault}
use Rattle.pac_sign.specs.Verified.{verified}
use Rattle.ticket_laws.specs.Writable.{IsWritablePart}
use Rattle.kdc_records.specs.declared.holder.Holder.{Holder}
use Rattle.kdc_records.specs.declared.holder.Holder.TheVariants.{Krbtgt, Trust, Account}
use Rattle.kdc_records.specs.declared.ticket_rec.TicketRec.{TicketRec}
use Rattle.kdc_records.specs.Parties.{version_of}
use Rattle.ticket_parts.specs.declared.reading.ReadRecord.{ReadRecord}
use Rattle.ticket_parts.specs.Parts.{is_service, part, part_with, signed_pac}
use Rattle.ticket_parts.specs.Records.{record_of}
use Rattle.ticket_parts.specs.Sound.{IsSound}
use Rattle.ticket_parts.proofs.ToldAgain.{all_verified, pac_in_part, record_back, server_verified, ticket_covers}
use Rattle.ticket_parts.proofs.Written.{part_short, part_writable, part_written}
use Rattle.ticket_codec.specs.declared.fault.Unopened.{Unopened}
use Rattle.ticket_codec.specs.declared.fault.Unopened.TheVariants.{WrongKey, Unreadable}
use Rattle.ticket_codec.specs.declared.holding.Holding.{Holding}
use Rattle.ticket_codec.specs.declared.opening.Opened.{Opened}
use Rattle.ticket_codec.specs.declared.presenting.Certified.{Certified}
use Rattle.ticket_codec.specs.declared.role.Role.{Role}
use Rattle.ticket_codec.specs.Laws.{IsRealmKey, ShownIsTold, TicketsAreShown}
use Rattle.ticket_codec.specs.Made.{ticket_of}
use Rattle.ticket_codec.specs.Opening.{is_for_key, opened_by, opened_of, part_in, part_of_text, part_read, ruled}
use Rattle.ticket_codec.specs.Presented.{are_right, are_signatures_right, certified, certified_of, presented, realm_key, shown, Shown, shown_of}
use Rattle.ticket_codec.specs.Roles.{holding, name_rule, pac_rule}
use Rattle.ticket_codec.proofs.PartBytes.{part_bytes}
use Rattle.ticket_codec.proofs.Sealed.{opened_sealed}
use Rattle.ticket_codec.proofs.Steps.{certified_is, presented_is, shown_is, shown_shows, unsealed_is}

-- ---- the ticket opens

whole_spelt : {X : Type 0} (c : Codec X) → IsCodec c → (x : X) → c.Fits x → length (c.spelling x) < 2 ^ 32 → whole c (c.spelling x) ≡ Ok x
whole_spelt c lawful x fits short = (alone_lawful c lawful).only (record { place = 0; bytes = c.spelling x }) x (lawful.spelt x fits short)

part_back : (key : Key) (conf : List ℕ) (p : EncTicketPart) → IsKey key → IsBlock conf → IsWritablePart p → enc_ticket_part.Fits p → length (enc_ticket_part.spelling p) < 2 ^ 32
    → part_in key (seal key 2 conf (enc_ticket_part.spelling p)) ≡ Some p
part_back key conf p hk hc writable fits short =
    let bytes : List ℕ = enc_ticket_part.spelling p in
    ap part_of_text (opened_sealed key 2 conf bytes hk hc (bytes_below bytes (part_bytes p writable)))
    ∙ ap part_read (whole_spelt enc_ticket_part enc_ticket_part_lawful p fits short)

both_true : (a b : Bool) → a ≡ true → b ≡ true → (a && b) ≡ true
both_true a b h k = rw (h, k) refl

is_its_key : (key : Key) (version : ℕ) (cipher : List ℕ)
    → is_for_key (record { key = key; version = version }) (record { etype = pos (etype_number key.etype); kvno = Some version; cipher = cipher }) ≡ true
is_its_key key version cipher =
    let number : ℕ = etype_number key.etype in
    both_true (nat_eq version version) (nat_eq number number) (eq-eqb version version refl) (eq-eqb number number refl)

opened_back : (ticket : Ticket) (held : Holding) (p : EncTicketPart) → is_for_key held.key ticket.sealed ≡ true → part_in held.key.key ticket.sealed.cipher ≡ Some p
    → opened_by ticket held ≡ Ok (opened_of held p)
opened_back ticket held p hk hp =
    let after : Option EncTicketPart → Result Opened Unopened = λ found. or_fault Unreadable (option_map (opened_of held) found) in
    let other : Result Opened Unopened = Err WrongKey in
    ap (λ (test : Bool). cond test (after (part_in held.key.key ticket.sealed.cipher)) other) hk ∙ ap after hp

-- ---- the signatures are right

-- what the ticket signature is over, where there is one
abbrev signed_for : Holder → List ℕ → Option (List ℕ)
signed_for held_by bytes = cond (is_service held_by) (Some bytes) None

same_over : (service : Bool) (a b : List ℕ) → (service ≡ true → (let over : Option (List ℕ) = cond service (Some a) None in over) ≡ Some b)
    → (let over : Option (List ℕ) = cond service (Some a) None in over) ≡ cond service (Some b) None
same_over true a b h = h refl
same_over false a b h = refl

right_by : (realm : RealmRec) (held_by : Holder) (key granting : Key) (over bytes : List ℕ) → IsRealmKey (realm_key realm held_by) granting
    → verified key (Some granting) (signed_for held_by over) bytes ≡ Ok tt → verified key None None bytes ≡ Ok tt
    → is_ok (verified key (realm_key realm held_by) (signed_for held_by over) bytes) ≡ true
right_by realm (Krbtgt name version) key granting over bytes same all server =
    ap (λ (r : Result (Unit {0}) SignFault). is_ok r) (ap (λ (k : Key). verified key (Some k) None bytes) same ∙ all)
right_by realm (Trust name partner version) key granting over bytes same all server = ap (λ (r : Result (Unit {0}) SignFault). is_ok r) server
right_by realm (Account name number version) key granting over bytes same all server =
    ap (λ (r : Result (Unit {0}) SignFault). is_ok r) (ap (λ (k : Key). verified key (Some k) (Some over) bytes) same ∙ all)

all_right : (t : TicketRec) (holder granting : Key) → IsSound t
    → verified holder (Some granting) (signed_for t.holder (enc_ticket_part.spelling (without_pac (part t holder granting)))) (pac (signed_pac t holder granting)) ≡ Ok tt
all_right t holder granting h =
    let over = same_over (is_service t.holder) (enc_ticket_part.spelling (part_with (0 ∷ []) t)) (enc_ticket_part.spelling (without_pac (part t holder granting))) (ticket_covers t holder granting h) in
    subst (λ (signed_text : Option (List ℕ)). verified holder (Some granting) signed_text (pac (signed_pac t holder granting)) ≡ Ok tt) over (all_verified t holder granting h)

right_back : (dir : DirectoryValue) (at : ℕ) (realm : RealmRec) (o : Opened) (bytes : List ℕ) → slice_get dir.realms at ≡ Some realm → pac_of o.part ≡ Some bytes → are_right realm o bytes ≡ true
    → are_signatures_right dir at o ≡ true
unfolding are_signatures_right
right_back dir at realm o bytes found has right =
    ap (holds_of (λ (r : RealmRec). holds_of (are_right r o) (pac_of o.part))) found
    ∙ ap (holds_of (are_right realm o)) has
    ∙ right

-- ---- what is shown

certified_back : (dir : DirectoryValue) (at : ℕ) (o : Opened) (read : ReadRecord) → are_signatures_right dir at o ≡ true → record_of o.holder o.part ≡ Some read → certified dir at o ≡ Some (certified_of read)
certified_back dir at o read right told =
    certified_is dir at o
    ∙ ap (λ (test : Bool). let found : Option Certified = cond test (option_map certified_of (record_of o.holder o.part)) None in found) right
    ∙ ap (option_map certified_of) told

shown_back : (dir : DirectoryValue) (at : ℕ) (role : Role) (ticket : Ticket) (held : Holding) (o : Opened) (c : Certified) → holding dir at role ticket ≡ Some held → opened_by ticket held ≡ Ok o
    → certified dir at o ≡ Some c → shown dir at role ticket ≡ Ok (shown_of o c)
shown_back dir at role ticket held o c found opens told =
    let next : Opened → Result Shown Rule = λ opened. presented dir at role opened >>= λ certified. Ok (shown_of opened certified) in
    let last : Result Certified Rule → Result Shown Rule = λ r. r >>= λ certified. Ok (shown_of o certified) in
    shown_is dir at role ticket
    ∙ ap (λ (r : Result Opened Rule). r >>= next) (unsealed_is dir at role ticket ∙ ap (λ (h : Option Holding). or_fault (name_rule role) h >>= λ own. ruled role (opened_by ticket own)) found ∙ ap (ruled role) opens)
    ∙ ap last (presented_is dir at role o ∙ ap (or_fault (pac_rule role)) told)

pub tickets_are_shown : TicketsAreShown
tickets_are_shown dir at realm role t sname issuer holder granting conf sound hk hc at_realm found same =
    let p : EncTicketPart = part t holder granting in
    let bytes : List ℕ = pac (signed_pac t holder granting) in
    let ticket : Ticket = ticket_of t sname issuer holder granting conf in
    let held : Holding = record { holder = t.holder; key = record { key = holder; version = version_of t.holder } } in
    let o : Opened = opened_of held p in
    let few : length (enc_ticket_part.spelling p) < 2 ^ 32 = omega (arith, part_short t holder granting sound) in
    let back : part_in holder ticket.sealed.cipher ≡ Some p = part_back holder conf p hk hc (part_writable t holder granting sound) (part_written t holder granting sound) few in
    let opens : opened_by ticket held ≡ Ok o = opened_back ticket held p (is_its_key holder (version_of t.holder) ticket.sealed.cipher) back in
    let right : are_right realm o bytes ≡ true = right_by realm t.holder holder granting (enc_ticket_part.spelling (without_pac p)) bytes same (all_right t holder granting sound) (server_verified t holder granting sound) in
    let told : certified dir at o ≡ Some (record { rec = t; agrees = true }) =
    certified_back dir at o (record { rec = t; agrees = true }) (right_back dir at realm o bytes at_realm (pac_in_part t holder granting sound) right) (record_back t t.holder holder granting sound) in
    shown_back dir at role ticket held o (record { rec = t; agrees = true }) found opens told

pub shown_is_told : ShownIsTold
shown_is_told dir at role ticket s h = (shown_shows dir at role ticket s h).told
