-- A record that is told of a part can be made into one.
use Rattle.std.proofs.Common.{◌≡◌, ℕ, ◌+◌, ◌<◌, ◌≤◌, ◌^◌, Bool, true, false, cond, List, [], ◌∷◌, ◌++◌, length, map, drop, Option, Some, None, Ok, Err, refl, sym, ap, subst, ◌∙◌, length-append, arith}
use Rattle.std.specs.Prelude.{Result, IfOk, IfSome, nat_lt, option_map, unwrap_or}
use Rattle.std.specs.List.{AllByRecursion, filter}
use Rattle.std.proofs.lemmas.List.Concat.{flat_map-cons}
use Rattle.std.proofs.lemmas.List.Elements.{All-push}
use Rattle.der_core.specs.declared.refusal.DerRefusal.{DerRefusal}
use Rattle.der_core.specs.Codec.{whole}
use Rattle.der_core.specs.CodecLaws.{IsBytes-content, alone_lawful}
use Rattle.der_core.specs.Steps.{IsBytes-front, IsBytes-rest}
use Rattle.der_forms.specs.Lists.{AreItems, sequence_of}
use Rattle.der_forms.specs.ListLaws.{sequence_of_lawful}
use Rattle.kdc_prelude.specs.Steps.{◌>>=◌}
use Rattle.kdc_prelude.proofs.Bools.{both}
use Rattle.std.specs.Result.{result_ok}
use Rattle.krb_names.specs.Pieces.{is_name}
use Rattle.krb_names.specs.SidValue.{SidValue, followed_by}
use Rattle.krb_tickets.specs.declared.auth_item.AuthItem.{AuthItem}
use Rattle.krb_tickets.specs.declared.enc_ticket_part.EncTicketPart.{EncTicketPart}
use Rattle.krb_tickets.specs.AuthItem.{auth_item}
use Rattle.krb_tickets.specs.Laws.{auth_item_lawful}
use Rattle.krb_tickets.specs.Pac.{elements_in, elements_of, is_pac, is_relevant, or_none, pac_of, pacs, pacs_in, the_one}
use Rattle.ndr_core.specs.declared.fault.LogonFault.{LogonFault}
use Rattle.ndr_core.specs.Laws.{IsBytes}
use Rattle.ndr_core.specs.Object.{object}
use Rattle.pac_buffers.specs.declared.client_info.ClientInfo.{ClientInfo}
use Rattle.pac_buffers.specs.declared.delegation_info.DelegationInfo.{DelegationInfo}
use Rattle.pac_buffers.specs.declared.info_buffer.InfoBuffer.{InfoBuffer}
use Rattle.pac_buffers.specs.Container.{buffer_of, entry_of, slice_of}
use Rattle.pac_buffers.specs.Delegation.{delegation}
use Rattle.pac_laws.specs.Writable.{IsWritableDelegation}
use Rattle.pac_laws.proofs.Bytes.{IsBytes-drop}
use Rattle.pac_laws.proofs.Read.{delegation_can, logon_can}
use Rattle.pac_logon.specs.declared.logon_info.LogonInfo.{LogonInfo}
use Rattle.pac_logon.specs.Logon.{IsDomainSid, IsWritable, logon}
use Rattle.ticket_laws.specs.Writable.{IsWritableItem, IsWritablePart}
use Rattle.ticket_laws.proofs.Bytes.{AreOfBytes, item_keeps}
use Rattle.kdc_records.specs.declared.holder.Holder.{Holder}
use Rattle.ticket_parts.specs.declared.pac_values.PacValue.{PacValue}
use Rattle.ticket_parts.specs.declared.reading.ReadRecord.{ReadRecord}
use Rattle.ticket_parts.specs.Parts.{delegation_of}
use Rattle.ticket_parts.specs.Records.{client_in, delegation_from, delegation_reading, has_names, logon_in, pac_reading, read_with, record_by, record_of, record_with, subject_of, such_that, value_in}
use Rattle.ticket_parts.specs.Sound.{IsSound, IsSoundSubject, IsUserSid}
use Rattle.ticket_parts.proofs.Bytes.{IsBytes-take}
use Rattle.ticket_parts.proofs.Steps.{record_is}

some_is : {X : Type 0} (x y : X) → Some x ≡ Some y → x ≡ y
some_is x y e = cc

-- ---- the PAC of a part is of bytes

items_of_bytes : (bytes : List ℕ) (items : List AuthItem) → IsBytes bytes → AreItems auth_item.IsDer bytes items → AreOfBytes items
items_of_bytes bytes [] h d = tt
items_of_bytes bytes (x ∷ xs) h d =
    let all : IsBytes (d.front ++ d.rest) = subst IsBytes d.whole h in
    (item_keeps d.front x (IsBytes-front d.front d.rest all) d.first, items_of_bytes d.rest xs (IsBytes-rest d.front d.rest all) d.second)

read_by : (content : List ℕ) (r : Result (List AuthItem) DerRefusal) → IsBytes content → whole (sequence_of auth_item) content ≡ r → AreOfBytes (or_none r)
read_by content (Err refusal) h e = tt
read_by content (Ok elements) h e =
    let d = (alone_lawful (sequence_of auth_item) (sequence_of_lawful auth_item auth_item_lawful)).found (record { place = 0; bytes = content }) elements h e in
    items_of_bytes d.content elements (IsBytes-content 48 content d.content h d.outside) d.inside

chosen_of_bytes : (b : Bool) (items : List AuthItem) → AreOfBytes items → AreOfBytes (cond b items [])
chosen_of_bytes true items h = h
chosen_of_bytes false items h = tt

elements_of_bytes : (content : List ℕ) → IsBytes content → AreOfBytes (elements_in content)
unfolding elements_in
elements_of_bytes content h = chosen_of_bytes (nat_lt (length content) (2 ^ 32)) (or_none (whole (sequence_of auth_item) content)) (read_by content (whole (sequence_of auth_item) content) h refl)

abbrev AreBytes : List (List ℕ) → Type 0
AreBytes texts = AllByRecursion (λ text. IsBytes text) texts

append_of_bytes : (xs ys : List (List ℕ)) → AreBytes xs → AreBytes ys → AreBytes (xs ++ ys)
append_of_bytes [] ys h k = k
append_of_bytes (x ∷ xs) ys h k = (h.0, append_of_bytes xs ys h.1 k)

step_of_bytes : (b : Bool) (x : AuthItem) (xs : List AuthItem) → IsBytes x.content → AreBytes (map (λ item. item.content) xs) → AreBytes (map (λ item. item.content) (cond b (x ∷ xs) xs))
step_of_bytes true x xs h k = (h, k)
step_of_bytes false x xs h k = k

pacs_in_of_bytes : (elements : List AuthItem) → AreOfBytes elements → AreBytes (pacs_in elements)
pacs_in_of_bytes [] h = tt
pacs_in_of_bytes (x ∷ xs) h = step_of_bytes (is_pac x) x (filter is_pac xs) h.0 (pacs_in_of_bytes xs h.1)

pacs_of_bytes : (items : List AuthItem) → AllByRecursion IsWritableItem items → AreBytes (pacs items)
pacs_of_bytes [] h = tt
pacs_of_bytes (x ∷ xs) h =
    let within : AuthItem → List (List ℕ) = λ item. pacs_in (elements_of item) in
    let first : AreBytes (within x) = pacs_in_of_bytes (elements_of x) (chosen_of_bytes (is_relevant x) (elements_in x.content) (elements_of_bytes x.content h.0.content)) in
    subst AreBytes (sym (flat_map-cons within x xs)) (append_of_bytes (within x) (pacs xs) first (pacs_of_bytes xs h.1))

one_of_bytes : (texts : List (List ℕ)) (text : List ℕ) → AreBytes texts → the_one texts ≡ Some text → IsBytes text
one_of_bytes [] text h e = absurd cc
one_of_bytes (x ∷ []) text h e = subst IsBytes (some_is x text e) h.0
one_of_bytes (x ∷ y ∷ xs) text h e = absurd cc

-- ---- what is read of bytes

slice_by : (bytes content : List ℕ) (o : Option InfoBuffer) → IsBytes bytes → option_map (slice_of bytes) o ≡ Some content → IsBytes content
slice_by bytes content None h e = absurd cc
slice_by bytes content (Some b) h e = subst IsBytes (some_is (slice_of bytes b) content e) (IsBytes-take b.size (drop b.offset bytes) (IsBytes-drop b.offset bytes h))

ok_by : {X : Type 0} (r : Result X LogonFault) (x : X) → result_ok r ≡ Some x → r ≡ Ok x
ok_by (Ok y) x e = ap Ok (some_is y x e)
ok_by (Err fault) x e = absurd cc

logon_by : (bytes : List ℕ) (info : LogonInfo) (o : Option (List ℕ)) → IsBytes bytes → buffer_of 1 bytes ≡ o → (o >>= λ content. result_ok (object logon content)) ≡ Some info → IsWritable info
logon_by bytes info None h is e = absurd cc
logon_by bytes info (Some content) h is e = logon_can content info (slice_by bytes content (entry_of 1 bytes) h is) (ok_by (object logon content) info e)

delegation_by : (content : List ℕ) (r : Result DelegationInfo LogonFault) (d : Option DelegationInfo) → IsBytes content → object delegation content ≡ r → option_map Some (result_ok r) ≡ Some d → IfSome d (λ x. IsWritableDelegation x)
delegation_by content (Ok x) d h is e = subst (λ (o : Option DelegationInfo). IfSome o (λ x. IsWritableDelegation x)) (some_is (Some x) d e) (delegation_can content x h is)
delegation_by content (Err fault) d h is e = absurd cc

delegation_read_by : (bytes : List ℕ) (o : Option (List ℕ)) (d : Option DelegationInfo) → IsBytes bytes → buffer_of 11 bytes ≡ o → delegation_reading o ≡ Some d → IfSome d (λ x. IsWritableDelegation x)
delegation_read_by bytes None d h is e = subst (λ (o : Option DelegationInfo). IfSome o (λ x. IsWritableDelegation x)) (some_is None d e) tt
delegation_read_by bytes (Some content) d h is e = delegation_by content (object delegation content) d (slice_by bytes content (entry_of 11 bytes) h is) refl e

-- a value that was read can be written
record IsRead (value : PacValue) : Type 0 where
  logon : IsWritable value.logon
  delegation : IfSome value.delegation (λ d. IsWritableDelegation d)

value_by : (bytes : List ℕ) (i : Option LogonInfo) (n : Option ClientInfo) (d : Option (Option DelegationInfo)) (value : PacValue) → IsBytes bytes → logon_in bytes ≡ i → delegation_reading (buffer_of 11 bytes) ≡ d
    → (i >>= λ info. n >>= λ named. d >>= λ delegated. Some (record { logon = info; client = named; delegation = delegated })) ≡ Some value → IsRead value
value_by bytes None n d value h a b e = absurd cc
value_by bytes (Some info) None d value h a b e = absurd cc
value_by bytes (Some info) (Some named) None value h a b e = absurd cc
value_by bytes (Some info) (Some named) (Some delegated) value h a b e =
    let made : PacValue = record { logon = info; client = named; delegation = delegated } in
    let own : IsRead made = record { logon = logon_by bytes info (buffer_of 1 bytes) h refl a; delegation = delegation_read_by bytes (buffer_of 11 bytes) delegated h refl b } in
    subst IsRead (some_is made value e) own

named_by : (o : Option PacValue) (value : PacValue) → (o >>= such_that has_names) ≡ Some value → (o ≡ Some value) × (has_names value ≡ true)
named_by None value e = absurd cc
named_by (Some x) value e = by_test (has_names x) refl e
  where
    by_test : (b : Bool) → has_names x ≡ b → cond b (Some x) None ≡ Some value → (Some x ≡ Some value) × (has_names value ≡ true)
    by_test true named is = (is, subst (λ (v : PacValue). has_names v ≡ true) (some_is x value is) named)
    by_test false named is = absurd cc

unless_none : (b : Bool) (o : Option PacValue) (value : PacValue) → cond b o None ≡ Some value → o ≡ Some value
unless_none true o value e = e
unless_none false o value e = absurd cc

pac_read : (bytes : List ℕ) (value : PacValue) → IsBytes bytes → pac_reading bytes ≡ Some value → IsRead value × (has_names value ≡ true)
pac_read bytes value h e =
    let named = named_by (value_in bytes) value (unless_none _ (value_in bytes >>= such_that has_names) value e) in
    (value_by bytes (logon_in bytes) (client_in bytes) (delegation_reading (buffer_of 11 bytes)) value h refl refl named.0, named.1)

-- ---- the record

sid_sound : (sid : SidValue) (number : ℕ) → IsDomainSid sid → number < 2 ^ 32 → IsUserSid (followed_by sid number)
sid_sound sid number h small =
    let len : length (sid.numbers ++ number ∷ []) ≡ length sid.numbers + 1 = length-append sid.numbers (number ∷ []) in
    record {
      low = h.low;
      some = omega (arith, len, h.some);
      few = omega (arith, len, h.few);
      fits = All-push (λ n. n < 2 ^ 32) sid.numbers number h.fits small;
    }

subject_sound : (value : PacValue) → IsRead value → has_names value ≡ true → IsSoundSubject (subject_of value.logon)
subject_sound value h named =
    let names = both (is_name value.logon.subject.name) (is_name value.logon.subject.domain) named in
    let l = h.logon in
    record {
      name = record { utf8 = l.name.utf8; name = names.0 };
      realm = record { utf8 = l.domain.utf8; name = names.1 };
      sid = sid_sound value.logon.subject.domain_sid value.logon.subject.number l.domain_sid l.number;
      control = l.control;
      few = l.few;
      groups = l.groups;
    }

start_by : (start : Option ℕ) (auth : ℕ) → IfSome start (λ seconds. seconds ≤ 253402300799) → auth ≤ 253402300799 → unwrap_or start auth ≤ 253402300799
start_by None auth h k = k
start_by (Some seconds) auth h k = h

again_by : (d : Option DelegationInfo) → IfSome d (λ x. IsWritableDelegation x) → IfSome (option_map delegation_from d) (λ x. IsWritableDelegation (delegation_of x))
again_by None h = tt
again_by (Some d) h = h

with_sound : (holder : Holder) (p : EncTicketPart) (value : PacValue) → IsWritablePart p → IsRead value → has_names value ≡ true → IsSound (record_with holder p value)
with_sound holder p value w h named = record {
  part = record {
    flags = w.flags;
    key_length = w.key_length;
    key_octets = w.key_octets;
    key_padding = w.key_padding;
    crealm = w.crealm;
    cname_kind = w.cname_kind;
    cname_parts = w.cname_parts;
    transited = w.transited;
    auth = w.auth;
    start = start_by p.start p.auth w.start w.auth;
    end = w.end;
    items = tt;
  };
  subject = subject_sound value h named;
  delegation = again_by value.delegation h.delegation;
}

told_by : (held : Holder) (p : EncTicketPart) (read : ReadRecord) (bytes : List ℕ) (o : Option PacValue) → IsWritablePart p → IsBytes bytes → pac_reading bytes ≡ o → option_map (read_with held p) o ≡ Some read → IsSound read.rec
told_by held p read bytes None w h is e = absurd cc
told_by held p read bytes (Some value) w h is e =
    let said = pac_read bytes value h is in
    subst (λ (r : ReadRecord). IsSound r.rec) (some_is (read_with held p value) read e) (with_sound held p value w said.0 said.1)

pub read_is_sound : (held : Holder) (p : EncTicketPart) (read : ReadRecord) → IsWritablePart p → record_of held p ≡ Some read → IsSound read.rec
read_is_sound held p read w e = by_pac (pac_of p) refl (sym (record_is held p) ∙ e)
  where
    by_pac : (o : Option (List ℕ)) → pac_of p ≡ o → (o >>= record_by held p) ≡ Some read → IsSound read.rec
    by_pac None is told = absurd cc
    by_pac (Some bytes) is told = told_by held p read bytes (pac_reading bytes) w (one_of_bytes (pacs p.items) bytes (pacs_of_bytes p.items w.items) is) refl told

found_by : (held : Holder) (p : EncTicketPart) (found : Option ReadRecord) → found ≡ record_of held p → IsWritablePart p → IfSome found (λ read. IsSound read.rec)
found_by held p None e w = tt
found_by held p (Some read) e w = read_is_sound held p read w (sym e)

pub answer_is_sound : {E : Type 0} (held : Holder) (p : EncTicketPart) (r : Result (Option ReadRecord) E) → IfOk r (λ found. found ≡ record_of held p) → IsWritablePart p → IfOk r (λ found. IfSome found (λ read. IsSound read.rec))
answer_is_sound held p (Ok found) e w = found_by held p found e w
answer_is_sound held p (Err fault) e w = tt
