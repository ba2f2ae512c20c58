-- The record of a header is sound, and padata that are echoed can be written again.
use Rattle.std.proofs.Common.{◌≡◌, ℕ, ◌<◌, ◌≤◌, Bool, true, false, List, [], ◌∷◌, ◌++◌, length, Option, Some, None, Result, Ok, Err, refl, sym, ap, ◌∙◌, subst, length-append, arith}
use Rattle.std.specs.Prelude.{filter, if◌then◌else◌, option_and_then, option_map, pos, slice_get}
use Rattle.std.specs.List.{AllByRecursion}
use Rattle.aes_core.proofs.Inverse.{byte_in}
use Rattle.aes_core.specs.Inverses.{AreBytes}
use Rattle.kdc_prelude.specs.Steps.{◌>>=◌}
use Rattle.krb_names.specs.declared.key.Key.{Key}
use Rattle.krb_crypto.proofs.ByteSums.{bytes_below}
use Rattle.krb_crypto.proofs.DerivedKeys.{IsKey-dk}
use Rattle.krb_crypto.proofs.Opened.{opened_opens}
use Rattle.krb_crypto.specs.BlockCipher.{IsKey}
use Rattle.krb_crypto.specs.Encryption.{opened}
use Rattle.der_core.specs.declared.refusal.DerRefusal.{DerRefusal}
use Rattle.der_core.specs.Codec.{Codec, whole}
use Rattle.der_core.specs.CodecLaws.{IsBytes-content, alone_lawful}
use Rattle.der_core.specs.Elements.{element}
use Rattle.der_core.specs.Forms.{number_is}
use Rattle.der_core.specs.Laws.{IsBytes}
use Rattle.der_core.specs.Sizes.{size}
use Rattle.der_forms.specs.Fields.{tag_of}
use Rattle.der_forms.specs.Values.{flags}
use Rattle.krb_tickets.specs.declared.enc_ticket_part.EncTicketPart.{EncTicketPart}
use Rattle.krb_tickets.specs.declared.ticket.Ticket.{Ticket}
use Rattle.krb_tickets.specs.EncryptedData.{encrypted_data}
use Rattle.krb_tickets.specs.EncTicketPart.{enc_ticket_part}
use Rattle.krb_tickets.specs.Ticket.{ticket}
use Rattle.ticket_laws.proofs.Bytes.{end_keeps, field_keeps, field_passed}
use Rattle.ticket_laws.proofs.Parts.{read_part_is_writable}
use Rattle.ticket_laws.specs.Writable.{IsWritablePart}
use Rattle.krb_messages.specs.declared.ap_req.ApReq.{ApReq}
use Rattle.krb_messages.specs.declared.kdc_req.KdcReq.{KdcReq}
use Rattle.krb_messages.specs.declared.pa_data.PaData.{PaData}
use Rattle.krb_messages.specs.ApReq.{ap_req}
use Rattle.krb_messages.specs.Checksum.{checksum_form}
use Rattle.krb_messages.specs.Laws.{ap_req_lawful}
use Rattle.s4u_padata.specs.declared.for_user.ForUser.{ForUser}
use Rattle.s4u_padata.specs.declared.x509_user.X509User.{X509User}
use Rattle.s4u_padata.specs.ForUser.{for_user}
use Rattle.s4u_padata.specs.Laws.{x509_user_lawful}
use Rattle.s4u_padata.specs.X509User.{x509_user}
use Rattle.s4u_padata.specs.X509User as echo_form
use Rattle.kdc_records.specs.declared.decision.Aim.{Aim}
use Rattle.kdc_records.specs.declared.decision.Aim.TheVariants.{Krbtgt, Hop, Account}
use Rattle.kdc_records.specs.declared.holder.Holder.{Holder}
use Rattle.kdc_records.specs.declared.ticket_rec.TicketRec.{TicketRec}
use Rattle.dir_records.specs.declared.records.RealmRec.{RealmRec}
use Rattle.dir_records.specs.DirectoryValue.{DirectoryValue}
use Rattle.dir_records.specs.IsDirectory.{IsAccountInRange, IsDirectory, IsKeyInRange, IsRealmInRange, IsTrustInRange}
use Rattle.as_core.specs.Stamps.{items_of}
use Rattle.ticket_codec.specs.declared.holding.Holding.{Holding}
use Rattle.ticket_codec.specs.declared.opening.Opened.{Opened}
use Rattle.ticket_codec.specs.declared.presenting.Certified.{Certified}
use Rattle.ticket_codec.specs.declared.role.Role.{Role}
use Rattle.ticket_codec.specs.declared.role.Role.TheVariants.{Header as AsHeader}
use Rattle.ticket_codec.specs.Holdings.{account_holding, aim_holding, aim_holding_in, hop_holding, krbtgt_holding}
use Rattle.ticket_codec.specs.Opening.{opened_of, opened_with, part_in, part_of_text, part_read}
use Rattle.ticket_codec.specs.Presented.{are_signatures_right, certified, certified_of}
use Rattle.ticket_codec.specs.Roles.{holder_place, holding}
use Rattle.ticket_parts.specs.declared.reading.ReadRecord.{ReadRecord}
use Rattle.ticket_parts.proofs.ReadSound.{read_is_sound}
use Rattle.ticket_parts.proofs.Steps.{read_holder}
use Rattle.ticket_parts.specs.Records.{record_of}
use Rattle.ticket_parts.specs.Sound.{IsSound}
use Rattle.tgs_requests.specs.declared.asking.SelfAsked.{SelfAsked}
use Rattle.tgs_requests.specs.declared.header.Header.{Header}
use Rattle.tgs_requests.specs.Askings.{at_most_one, is_of_type, only, read_or_none, self_asked}
use Rattle.tgs_requests.specs.Headers.{agreed_record, ap_req_of, authenticator_in, header_by, header_in, header_of, header_with, record_in, ticket_opened}
use Rattle.tgs_core.specs.Grants.{IsEchoable, x509_asked, x509_in}
use Rattle.tgs_core.specs.Received.{IsReceived}
use Rattle.tgs_core.proofs.FoundGrants.{IsStep, at_index, mapped_of, some_is, step_of}
use Rattle.tgs_core.proofs.ReadRequests.{AreOfBytes}
use Rattle.tgs_core.proofs.ReceivedTickets.{ticket_keeps}

-- ---- padata of one type

-- what holds of all items holds of those that pass a test
filtered_by : {X : Type 0} (P : X → Type 0) (b : Bool) (x : X) (xs : List X) → P x → AllByRecursion P xs → AllByRecursion P (if b then x ∷ xs else xs)
filtered_by P true x xs h rest = (h, rest)
filtered_by P false x xs h rest = rest

all_filtered : {X : Type 0} (P : X → Type 0) (test : X → Bool) (xs : List X) → AllByRecursion P xs → AllByRecursion P (filter test xs)
all_filtered P test [] h = tt
all_filtered P test (x ∷ xs) h = filtered_by P (test x) x (filter test xs) h.0 (all_filtered P test xs h.1)

read_ok : {X : Type 0} (r : Result X DerRefusal) (x : X) → read_or_none r ≡ Some x → r ≡ Ok x
read_ok {X} (Ok y) x e = ap (λ (z : X). let made : Result X DerRefusal = Ok z in made) (some_is y x e)
read_ok (Err refusal) x e = absurd cc

-- a value that was read of padata of which something holds
pub record IsOfItem {X : Type 0} (form : Codec X) (P : PaData → Type 0) (x : X) : Type 0 where
  pub item : PaData
  pub holds : P item
  pub read : whole form item.padata_value ≡ Ok x

only_item : {X : Type 0} (form : Codec X) (P : PaData → Type 0) (items : List PaData) (x : X) → AllByRecursion P items
    → (only items >>= λ item. read_or_none (whole form item.padata_value)) ≡ Some x → IsOfItem form P x
only_item form P [] x h e = absurd cc
only_item form P (item ∷ []) x h e = record { item = item; holds = h.0; read = read_ok (whole form item.padata_value) x e }
only_item form P (item ∷ more ∷ items) x h e = absurd cc

one_item : {X : Type 0} (form : Codec X) (P : PaData → Type 0) (items : List PaData) (x : X) → AllByRecursion P items → at_most_one form items ≡ Some (Some x) → IsOfItem form P x
one_item form P [] x h e = absurd cc
one_item form P (item ∷ []) x h e =
    let read = mapped_of (read_or_none (whole form item.padata_value)) Some (Some x) e in
    record { item = item; holds = h.0; read = read_ok (whole form item.padata_value) x (read.was ∙ read.is) }
one_item form P (item ∷ more ∷ items) x h e = absurd cc

pub then_of : {A B : Type 0} (found : Option A) (f : A → Option B) (y : B) → option_and_then f found ≡ Some y → IsStep found f y
then_of None f y e = absurd cc
then_of (Some x) f y e = record { value = x; was = refl; is = e }

-- ---- the octets of a header's ticket

ap_req_keeps : (bytes : List ℕ) (ap : ApReq) → IsBytes bytes → whole ap_req bytes ≡ Ok ap → IsBytes ap.ticket.sealed.cipher
unfolding ap_req
ap_req_keeps bytes ap h e =
    let fields = field_passed 0 (number_is (pos 5)) _ _ (
    field_passed 1 (number_is (pos 14)) _ _ (
    field_passed 2 flags _ _ (
    field_keeps 3 ticket _ (λ t. IsBytes t.sealed.cipher) _ ticket_keeps (
    field_passed 4 encrypted_data _ _
    end_keeps)))) in
    let d = (alone_lawful ap_req ap_req_lawful).found (record { place = 0; bytes = bytes }) ap h e in
    let outer = IsBytes-content 110 bytes d.content h d.outside in
    let inner = IsBytes-content 48 d.content d.inside.content outer d.inside.outside in
    let own = fields.keeps d.inside.content d.inside.inside.parts inner d.inside.inside.spelt in
    subst (λ (ap : ApReq). IsBytes ap.ticket.sealed.cipher) d.inside.inside.made own.0

-- ---- the key of a holder

octets_are : (octets : List ℕ) → AllByRecursion (λ (octet : ℕ). octet < 256) octets → AreBytes octets
octets_are [] h = tt
octets_are (octet ∷ octets) h = (h.0, octets_are octets h.1)

held_in : (realm : RealmRec) (aim : Aim) (held : Holding) → IsRealmInRange realm → aim_holding_in realm aim ≡ Some held → IsKeyInRange held.key
held_in realm Krbtgt held h e = subst (λ (held : Holding). IsKeyInRange held.key) (some_is (krbtgt_holding realm) held e) h.krbtgt
held_in realm (Hop at) held h e =
    let found = mapped_of (slice_get realm.trusts at) (hop_holding realm) held e in
    subst (λ (held : Holding). IsKeyInRange held.key) found.is (at_index IsTrustInRange realm.trusts at found.value h.trusts found.was).key
held_in realm (Account at) held h e =
    let found = mapped_of (slice_get realm.accounts at) (account_holding realm) held e in
    subst (λ (held : Holding). IsKeyInRange held.key) found.is (at_index IsAccountInRange realm.accounts at found.value h.accounts found.was).key

aimed_key : (dir : DirectoryValue) (at : ℕ) (aim : Aim) (held : Holding) → IsDirectory dir → aim_holding dir at aim ≡ Some held → IsKey held.key.key
unfolding aim_holding
aimed_key dir at aim held h e =
    let realm = step_of (slice_get dir.realms at) (λ (realm : RealmRec). aim_holding_in realm aim) held e in
    let key = held_in realm.value aim held (at_index IsRealmInRange dir.realms at realm.value h.in_range.realms realm.was) realm.is in
    (key.size, octets_are held.key.key.raw key.octets)

holder_key : (dir : DirectoryValue) (at : ℕ) (role : Role) (t : Ticket) (held : Holding) → IsDirectory dir → holding dir at role t ≡ Some held → IsKey held.key.key
unfolding holding
holder_key dir at role t held h e =
    let place = step_of (holder_place dir at role t) (λ (place : ℕ × Aim). aim_holding dir place.0 place.1) held e in
    aimed_key dir place.value.0 place.value.1 held h place.is

-- ---- what a ticket says

part_ok : (r : Result EncTicketPart DerRefusal) (part : EncTicketPart) → part_read r ≡ Some part → r ≡ Ok part
part_ok (Ok read) part e = ap (λ (z : EncTicketPart). let made : Result EncTicketPart DerRefusal = Ok z in made) (some_is read part e)
part_ok (Err refusal) part e = absurd cc

text_writable : (key : Key) (cipher : List ℕ) (text : Option (List ℕ)) (part : EncTicketPart) → IsKey key → AreBytes cipher → opened key 2 cipher ≡ text → part_of_text text ≡ Some part
    → IsWritablePart part
text_writable key cipher None part h k was e = absurd cc
text_writable key cipher (Some text) part h k was e =
    let opens = (opened_opens key 2 cipher text (IsKey-dk key _ h) k).0 was in
    read_part_is_writable text part (λ i. byte_in text i opens.1.1) (part_ok (whole enc_ticket_part text) part e)

pub opened_writable : (dir : DirectoryValue) (at : ℕ) (role : Role) (t : Ticket) (found : Option Holding) (unsealed : Opened) → IsDirectory dir → IsBytes t.sealed.cipher
    → holding dir at role t ≡ found → option_and_then (opened_with t) found ≡ Some unsealed → IsWritablePart unsealed.part
opened_writable dir at role t None unsealed h bytes was e = absurd cc
opened_writable dir at role t (Some held) unsealed h bytes was e =
    let part = mapped_of (part_in held.key.key t.sealed.cipher) (opened_of held) unsealed e in
    let key = holder_key dir at role t held h was in
    let cipher : List ℕ = t.sealed.cipher in
    let writable = text_writable held.key.key cipher (opened held.key.key 2 cipher) part.value key (bytes_below cipher bytes) refl part.was in
    subst (λ (unsealed : Opened). IsWritablePart unsealed.part) part.is writable

-- ---- the record of a header

certified_sound : (right : Bool) (unsealed : Opened) (shown : Certified) → IsWritablePart unsealed.part → (if right then option_map certified_of (record_of unsealed.holder unsealed.part) else None) ≡ Some shown
    → IsSound shown.rec
certified_sound false unsealed shown w e = absurd cc
certified_sound true unsealed shown w e =
    let read = mapped_of (record_of unsealed.holder unsealed.part) certified_of shown e in
    subst (λ (shown : Certified). IsSound shown.rec) read.is (read_is_sound unsealed.holder unsealed.part read.value w read.was)

pub shown_sound : (dir : DirectoryValue) (at : ℕ) (unsealed : Opened) (shown : Certified) → IsWritablePart unsealed.part → certified dir at unsealed ≡ Some shown → IsSound shown.rec
unfolding certified
shown_sound dir at unsealed shown w e = certified_sound (are_signatures_right dir at unsealed) unsealed shown w e

-- what a record that was certified tells of the part
told_by : (right : Bool) (unsealed : Opened) (shown : Certified) → (if right then option_map certified_of (record_of unsealed.holder unsealed.part) else None) ≡ Some shown
    → record_of unsealed.holder unsealed.part ≡ Some (record { rec = shown.rec; agrees = shown.agrees })
told_by false unsealed shown e = absurd cc
told_by true unsealed shown e =
    let read = mapped_of (record_of unsealed.holder unsealed.part) certified_of shown e in
    read.was ∙ ap (λ (c : Certified). let told : Option ReadRecord = Some (record { rec = c.rec; agrees = c.agrees }) in told) read.is

certified_told : (dir : DirectoryValue) (at : ℕ) (unsealed : Opened) (shown : Certified) → certified dir at unsealed ≡ Some shown
    → record_of unsealed.holder unsealed.part ≡ Some (record { rec = shown.rec; agrees = shown.agrees })
unfolding certified
certified_told dir at unsealed shown e = told_by (are_signatures_right dir at unsealed) unsealed shown e

-- its holder is the one for whom the ticket is sealed
pub certified_holder : (dir : DirectoryValue) (at : ℕ) (unsealed : Opened) (shown : Certified) → certified dir at unsealed ≡ Some shown → shown.rec.holder ≡ unsealed.holder
certified_holder dir at unsealed shown e =
    read_holder unsealed.holder unsealed.part (record { rec = shown.rec; agrees = shown.agrees }) (certified_told dir at unsealed shown e)

pub certified_is_told : (dir : DirectoryValue) (at : ℕ) (unsealed : Opened) (shown : Certified) → certified dir at unsealed ≡ Some shown
    → record_of shown.rec.holder unsealed.part ≡ Some (record { rec = shown.rec; agrees = shown.agrees })
certified_is_told dir at unsealed shown e =
    ap (λ (holder : Holder). record_of holder unsealed.part) (certified_holder dir at unsealed shown e) ∙ certified_told dir at unsealed shown e

agreed_is : (agrees : Bool) (rec told : TicketRec) → (if agrees then Some rec else None) ≡ Some told → rec ≡ told
agreed_is true rec told e = some_is rec told e
agreed_is false rec told e = absurd cc

pub header_is_sound : (dir : DirectoryValue) (at : ℕ) (message : KdcReq) (header : Header) (rec : TicketRec) → IsDirectory dir → AreOfBytes (items_of message.padata)
    → header_in dir at message ≡ Some header → record_in header ≡ Some rec → IsSound rec
unfolding header_in ap_req_of
header_is_sound dir at message header rec h octets e shows =
    let items = filter (is_of_type 1) (items_of message.padata) in
    let shows_in = then_of (ap_req_of message) (header_of dir at) header e in
    let request : ApReq = shows_in.value in
    let of_item = only_item ap_req (λ item. IsBytes item.padata_value) items request (all_filtered (λ item. IsBytes item.padata_value) (is_of_type 1) (items_of message.padata) octets) shows_in.was in
    let cipher = ap_req_keeps of_item.item.padata_value request of_item.holds of_item.read in
    let unsealed = then_of (ticket_opened dir at request.ticket) (header_by dir at request.authenticator) header shows_in.is in
    let auth = mapped_of (authenticator_in unsealed.value.part.key request.authenticator) (header_with dir at unsealed.value) header unsealed.is in
    let writable = opened_writable dir at AsHeader request.ticket (holding dir at AsHeader request.ticket) unsealed.value h cipher refl unsealed.was in
    let is : header_with dir at unsealed.value auth.value ≡ header = auth.is in
    let shown = step_of header.certified agreed_record rec shows in
    let told : certified dir at unsealed.value ≡ Some shown.value = ap (λ (x : Header). x.certified) is ∙ shown.was in
    subst IsSound (agreed_is shown.value.agrees shown.value.rec rec shown.is) (shown_sound dir at unsealed.value shown.value writable told)

-- ---- what the record of a header tells

-- it is certified of what was opened
header_certified : (dir : DirectoryValue) (at : ℕ) (message : KdcReq) (header : Header) → header_in dir at message ≡ Some header → certified dir at header.opened ≡ header.certified
unfolding header_in
header_certified dir at message header e =
    let request = then_of (ap_req_of message) (header_of dir at) header e in
    let unsealed = then_of (ticket_opened dir at request.value.ticket) (header_by dir at request.value.authenticator) header request.is in
    let auth = mapped_of (authenticator_in unsealed.value.part.key request.value.authenticator) (header_with dir at unsealed.value) header unsealed.is in
    subst (λ (made : Header). certified dir at made.opened ≡ made.certified) auth.is refl

-- the record that was certified, and that it agrees
record IsAgreed (found : Option Certified) (rec : TicketRec) : Type 0 where
  shown : Certified
  was : found ≡ Some shown
  is : shown.rec ≡ rec
  agrees : shown.agrees ≡ true

agreed_by : (agrees : Bool) (shown : Certified) (rec : TicketRec) (found : Option Certified) → found ≡ Some shown → shown.agrees ≡ agrees → (if agrees then Some shown.rec else None) ≡ Some rec
    → IsAgreed found rec
agreed_by true shown rec found was agrees e = record { shown = shown; was = was; is = some_is shown.rec rec e; agrees = agrees }
agreed_by false shown rec found was agrees e = absurd cc

header_agreed : (header : Header) (rec : TicketRec) → record_in header ≡ Some rec → IsAgreed header.certified rec
header_agreed header rec shows =
    let shown = step_of header.certified agreed_record rec shows in
    agreed_by shown.value.agrees shown.value rec header.certified shown.was refl shown.is

-- its holder is the one for whom the ticket is sealed
pub header_holder : (dir : DirectoryValue) (at : ℕ) (message : KdcReq) (header : Header) (rec : TicketRec) → header_in dir at message ≡ Some header → record_in header ≡ Some rec
    → rec.holder ≡ header.opened.holder
header_holder dir at message header rec e shows =
    let agreed = header_agreed header rec shows in
    let told = certified_holder dir at header.opened agreed.shown (header_certified dir at message header e ∙ agreed.was) in
    sym (ap (λ (r : TicketRec). r.holder) agreed.is) ∙ told

-- the part tells it
pub header_is_told : (dir : DirectoryValue) (at : ℕ) (message : KdcReq) (header : Header) (rec : TicketRec) → header_in dir at message ≡ Some header → record_in header ≡ Some rec
    → record_of rec.holder header.opened.part ≡ Some (record { rec = rec; agrees = true })
header_is_told dir at message header rec e shows =
    let agreed = header_agreed header rec shows in
    let told = certified_is_told dir at header.opened agreed.shown (header_certified dir at message header e ∙ agreed.was) in
    let of_rec : record_of rec.holder header.opened.part ≡ Some (record { rec = rec; agrees = agreed.shown.agrees }) =
    subst (λ (r : TicketRec). record_of r.holder header.opened.part ≡ Some (record { rec = r; agrees = agreed.shown.agrees })) agreed.is told in
    subst (λ (agrees : Bool). record_of rec.holder header.opened.part ≡ Some (record { rec = rec; agrees = agrees })) agreed.agrees of_rec

-- ---- padata that are echoed

content_within : (tag : ℕ) (content : List ℕ) → length content ≤ length (element tag content)
content_within tag content = omega (arith, length-append (size (length content)) content)

id_within : (asked : X509User) → length asked.id_bytes ≤ length (x509_user.spelling asked)
id_within asked =
    let all : List ℕ = echo_form.parts.content.spelling (echo_form.parts_of asked) in
    let sum : List ℕ = element (tag_of 1) (checksum_form.spelling (record { cksumtype = asked.sum_type; checksum = asked.sum })) ++ [] in
    omega (arith, content_within 48 all, content_within (tag_of 0) asked.id_bytes, length-append (element (tag_of 0) asked.id_bytes) sum)

read_echoable : (bytes : List ℕ) (asked : X509User) → IsBytes bytes → length bytes ≤ 393216 → whole x509_user bytes ≡ Ok asked → IsEchoable asked
read_echoable bytes asked h few e =
    let d = (alone_lawful x509_user x509_user_lawful).found (record { place = 0; bytes = bytes }) asked h e in
    let longer = x509_user_lawful.no_longer bytes asked h d in
    record { fits = x509_user_lawful.fits bytes asked h d; few = omega (arith, few, longer, id_within asked) }

both_hold : (items : List PaData) → AllByRecursion (λ item. IsBytes item.padata_value) items → AllByRecursion (λ item. length item.padata_value ≤ 393216) items
    → AllByRecursion (λ item. IsBytes item.padata_value × (length item.padata_value ≤ 393216)) items
both_hold [] h k = tt
both_hold (item ∷ items) h k = ((h.0, k.0), both_hold items h.1 k.1)

x509_of : (found : Option SelfAsked) (asked : X509User) → x509_in found ≡ Some asked → IsStep found (λ all. all.x509_user) asked
x509_of None asked e = absurd cc
x509_of (Some all) asked e = record { value = all; was = refl; is = e }

pub asked_is_echoable : (message : KdcReq) (asked : X509User) → IsReceived message → x509_asked message ≡ Some asked → IsEchoable asked
unfolding self_asked
asked_is_echoable message asked received e =
    let of_name = filter (is_of_type 129) (items_of message.padata) in
    let of_id = filter (is_of_type 130) (items_of message.padata) in
    let both_read : Option ForUser → Option X509User → Option SelfAsked = λ (by_name : Option ForUser) (by_id : Option X509User). Some (record { for_user = by_name; x509_user = by_id }) in
    let all = x509_of (self_asked message) asked e in
    let by_name = step_of (at_most_one for_user of_name) (λ (by_name : Option ForUser). at_most_one x509_user of_id >>= both_read by_name) all.value all.was in
    let by_id = step_of (at_most_one x509_user of_id) (both_read by_name.value) all.value by_name.is in
    let is : by_id.value ≡ Some asked = ap (λ (x : SelfAsked). x.x509_user) (some_is _ all.value by_id.is) ∙ all.is in
    let P : PaData → Type 0 = λ (item : PaData). IsBytes item.padata_value × (length item.padata_value ≤ 393216) in
    let hold = all_filtered P (is_of_type 130) (items_of message.padata) (both_hold (items_of message.padata) received.octets received.short) in
    let of_item = one_item x509_user P of_id asked hold (by_id.was ∙ ap (λ (x : Option X509User). Some x) is) in
    read_echoable of_item.item.padata_value asked of_item.holds.0 of_item.holds.1 of_item.read
