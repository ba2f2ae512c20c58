-- What a reply is made of can be written, and how long it is.
use Rattle.std.proofs.Common.{◌≡◌, ℕ, ◌+◌, ◌*◌, ◌<◌, ◌≤◌, ◌^◌, Bool, true, false, List, [], ◌∷◌, length, pos, Option, Some, None, refl, sym, ap, length-append, arith}
use Rattle.std.specs.Prelude.{FitsSigned, IfSome}
use Rattle.std.specs.Int.{w32}
use Rattle.std.specs.List.{flat_map, AllByRecursion}
use Rattle.std.specs.Str.{is_utf8}
use Rattle.std.proofs.lemmas.List.Concat.{flat_map-cons}
use Rattle.der_core.specs.BitStrings.{bit_string}
use Rattle.der_core.specs.Elements.{element}
use Rattle.der_core.specs.Forms.{int32, number_is, octets, text, uint32}
use Rattle.der_core.specs.Integers.{integer}
use Rattle.der_core.specs.IntegerLaws.{integer_spelt}
use Rattle.der_forms.specs.Choices.{tag_in}
use Rattle.der_forms.specs.Keys.{encryption_key}
use Rattle.der_forms.specs.Lists.{sequence_of}
use Rattle.der_forms.specs.Names.{realm}
use Rattle.der_forms.specs.Times.{kerberos_time}
use Rattle.der_forms.specs.Values.{flags as ticket_flags, nonce as nonce_number}
use Rattle.krb_names.specs.Keys.{is_padded}
use Rattle.krb_names.proofs.TimeLaw.{written_again}
use Rattle.krb_tickets.specs.declared.encrypted_data.EncryptedData.{EncryptedData}
use Rattle.krb_tickets.specs.EncryptedData.{encrypted_data}
use Rattle.krb_tickets.specs.EncryptedData as sealed_form
use Rattle.krb_tickets.specs.HostAddress.{host_address}
use Rattle.krb_tickets.specs.PrincipalName.{in_realm, name_of, principal_name}
use Rattle.krb_tickets.specs.Ticket.{ticket}
use Rattle.krb_tickets.specs.Transited.{is_realm}
use Rattle.ticket_laws.specs.Writable.{are_parts}
use Rattle.ticket_laws.proofs.Fields.{Within, dropped_within, end_within, field_within, optional_within}
use Rattle.ticket_laws.proofs.Sizes.{element_within}
use Rattle.ticket_laws.proofs.Texts.{realm_fits, realm_short}
use Rattle.ticket_laws.proofs.Values.{int32_fits, int32_within, key_fits, key_within, name_fits, name_within, number_fits, number_within, time_within, uint32_fits, uint32_within}
use Rattle.krb_messages.specs.declared.enc_kdc_rep.EncKdcRep.{EncKdcRep}
use Rattle.krb_messages.specs.declared.etype_info2.EtypeInfo2Entry.{EtypeInfo2Entry}
use Rattle.krb_messages.specs.declared.kdc_rep.KdcRep.{KdcRep}
use Rattle.krb_messages.specs.declared.last_req.LastReq.{LastReq}
use Rattle.krb_messages.specs.declared.pa_data.PaData.{PaData}
use Rattle.krb_messages.specs.EncKdcRep.{enc_kdc_rep, is_as_part}
use Rattle.krb_messages.specs.EncKdcRep as part_form
use Rattle.krb_messages.specs.EtypeInfo2Entry.{etype_info2_entry}
use Rattle.krb_messages.specs.EtypeInfo2Entry as entry_form
use Rattle.krb_messages.specs.KdcRep.{is_as_rep, kdc_rep, msg_type_of}
use Rattle.krb_messages.specs.KdcRep as reply_form
use Rattle.krb_messages.specs.LastReq.{last_req}
use Rattle.krb_messages.specs.LastReq as last_req_form
use Rattle.krb_messages.specs.PaData.{pa_data}
use Rattle.krb_messages.specs.PaData as pa_form

-- ---- times and numbers

time_fits : (time : Option ℕ) → IfSome time (λ seconds. seconds ≤ 253402300799) → IfSome time kerberos_time.Fits
time_fits None h = tt
time_fits (Some seconds) h = written_again seconds h

time_short : (time : Option ℕ) → IfSome time (λ seconds. length (kerberos_time.spelling seconds) ≤ 21)
time_short None = tt
time_short (Some seconds) = time_within seconds

kvno_fits : (kvno : Option ℕ) → IfSome kvno (λ n. n < 2 ^ 32) → IfSome kvno uint32.Fits
kvno_fits None h = tt
kvno_fits (Some n) h = uint32_fits n h

kvno_short : (kvno : Option ℕ) → IfSome kvno (λ n. n < 2 ^ 32) → IfSome kvno (λ n. length (uint32.spelling n) ≤ 14)
kvno_short None h = tt
kvno_short (Some n) h = uint32_within n h

flags_short : (flags : ℕ) → length (element 3 (bit_string flags)) ≤ 11
unfolding bit_string
flags_short flags = element_within 3 5 (bit_string flags) (omega arith)

-- ---- last-req

-- a time of a kind that can be written
pub record IsWritableTime (x : LastReq) : Type 0 where
  pub kind : FitsSigned w32 x.lr_type
  pub value : x.lr_value ≤ 253402300799

times_fit : (xs : List LastReq) → AllByRecursion IsWritableTime xs → AllByRecursion last_req.Fits xs
times_fit [] h = tt
times_fit (x ∷ xs) h = ((refl, (int32_fits x.lr_type h.0.kind, (written_again x.lr_value h.0.value, tt))), times_fit xs h.1)

one_time_short : (x : LastReq) → IsWritableTime x → length (last_req.spelling x) ≤ 53
one_time_short x h =
    let fields : Within last_req_form.parts (last_req_form.parts_of x) (6 + 14 + (6 + 21 + 0)) =
    field_within 0 int32 _ _ _ _ _ (int32_within x.lr_type h.kind) (field_within 1 kerberos_time _ _ _ _ _ (time_within x.lr_value) end_within) in
    omega (arith, element_within 48 47 (last_req_form.parts.content.spelling (last_req_form.parts_of x)) fields.le)

times_short : (xs : List LastReq) → AllByRecursion IsWritableTime xs → length (flat_map last_req.spelling xs) ≤ 53 * length xs
times_short [] h = omega arith
times_short (x ∷ xs) h =
    omega (arith, one_time_short x h.0, times_short xs h.1, ap length (flat_map-cons last_req.spelling x xs), length-append (last_req.spelling x) (flat_map last_req.spelling xs))

-- ---- EncKDCRepPart (RFC 4120, section 5.4.2)

-- what is sealed in a reply, in plain conditions
pub record IsWritableReplyPart (x : EncKdcRep) : Type 0 where
  pub tag : tag_in 0x79 0x7a (is_as_part x) ≡ x.tag
  pub key_length : length x.key.raw ≡ 32
  pub key_padding : is_padded x.key ≡ true
  pub last_req : AllByRecursion IsWritableTime x.last_req
  pub nonce : nonce_number.Fits (record { 0 = x.nonce })
  pub key_expiration : IfSome x.key_expiration (λ seconds. seconds ≤ 253402300799)
  pub flags : x.flags < 2 ^ 32
  pub authtime : x.authtime ≤ 253402300799
  pub starttime : IfSome x.starttime (λ seconds. seconds ≤ 253402300799)
  pub endtime : x.endtime ≤ 253402300799
  pub renew_till : IfSome x.renew_till (λ seconds. seconds ≤ 253402300799)
  pub srealm : is_realm x.srealm ≡ true
  pub same : x.sname.realm ≡ x.srealm
  pub sname_kind : FitsSigned w32 x.sname.kind
  pub sname_parts : are_parts x.sname.kind x.sname.parts ≡ true

-- the server's realm is srealm
part_again : (x : EncKdcRep) → IsWritableReplyPart x → part_form.make (is_as_part x) (part_form.parts_of x) ≡ x
part_again x w =
    λ i. record {
      tag = w.tag i;
      key = x.key;
      last_req = x.last_req;
      nonce = x.nonce;
      key_expiration = x.key_expiration;
      flags = x.flags;
      authtime = x.authtime;
      starttime = x.starttime;
      endtime = x.endtime;
      renew_till = x.renew_till;
      srealm = x.srealm;
      sname = in_realm (name_of x.sname) (sym w.same i);
    }

pub part_fits : (x : EncKdcRep) → IsWritableReplyPart x → enc_kdc_rep.Fits x
unfolding enc_kdc_rep
part_fits x w = (
  part_again x w,
  (
    key_fits x.key w.key_length w.key_padding,
    (
      times_fit x.last_req w.last_req,
      (
        w.nonce,
        (
          time_fits x.key_expiration w.key_expiration,
          (
            (refl, w.flags),
            (
              written_again x.authtime w.authtime,
              (
                time_fits x.starttime w.starttime,
                (
                  written_again x.endtime w.endtime,
                  (
                    time_fits x.renew_till w.renew_till,
                    (
                      realm_fits x.srealm w.srealm,
                      (
                        name_fits (name_of x.sname) w.sname_kind w.sname_parts,
                        (refl, (tt, (refl, (tt, tt)))),
                      ),
                    ),
                  ),
                ),
              ),
            ),
          ),
        ),
      ),
    ),
  ),
)

-- at most 2,760 bytes stand beside the times of last-req
part_within : (x : EncKdcRep) → IsWritableReplyPart x
    → Within part_form.parts (part_form.parts_of x)
    (6 + 70 + (6 + (6 + 53 * length x.last_req) + (6 + 14 + (6 + 21 + (6 + 11 + (6 + 21 + (6 + 21 + (6 + 21 + (6 + 21 + (6 + 261 + (6 + 2126 + 0)))))))))))
part_within x w =
    field_within 0 encryption_key _ _ _ _ _ (key_within x.key w.key_length) (
    field_within 1 (sequence_of last_req) _ _ _ _ _ (element_within 48 (53 * length x.last_req) (flat_map last_req.spelling x.last_req) (times_short x.last_req w.last_req)) (
    field_within 2 nonce_number _ _ _ _ _ (element_within 2 8 (integer x.nonce) (integer_spelt x.nonce w.nonce.1.0).few) (
    optional_within 3 kerberos_time _ _ _ _ _ (time_short x.key_expiration) (
    field_within 4 ticket_flags _ _ _ _ _ (flags_short x.flags) (
    field_within 5 kerberos_time _ _ _ _ _ (time_within x.authtime) (
    optional_within 6 kerberos_time _ _ _ _ _ (time_short x.starttime) (
    field_within 7 kerberos_time _ _ _ _ _ (time_within x.endtime) (
    optional_within 8 kerberos_time _ _ _ _ _ (time_short x.renew_till) (
    field_within 9 realm _ _ _ _ _ (element_within 27 255 x.srealm (realm_short x.srealm w.srealm)) (
    field_within 10 principal_name _ _ _ _ _ (name_within (name_of x.sname) w.sname_kind w.sname_parts) (
    dropped_within 11 (sequence_of host_address) _ _ _ (
    dropped_within 12 (sequence_of pa_data) _ _ _
    end_within))))))))))))

pub part_short : (x : EncKdcRep) → IsWritableReplyPart x → length (enc_kdc_rep.spelling x) ≤ 3000 + 53 * length x.last_req
unfolding enc_kdc_rep
part_short x w =
    let fields : List ℕ = part_form.parts.content.spelling (part_form.parts_of x) in
    let inside = element_within 48 (2800 + 53 * length x.last_req) fields (let le = (part_within x w).le in omega (arith, le)) in
    omega (arith, element_within (tag_in 0x79 0x7a (is_as_part x)) (6 + (2800 + 53 * length x.last_req)) (element 48 fields) inside)

-- ---- EncryptedData (RFC 4120, section 5.2.9)

pub record IsWritableSealed (x : EncryptedData) : Type 0 where
  pub etype : FitsSigned w32 x.etype
  pub kvno : IfSome x.kvno (λ n. n < 2 ^ 32)

sealed_fits : (x : EncryptedData) → IsWritableSealed x → encrypted_data.Fits x
sealed_fits x w = (refl, (int32_fits x.etype w.etype, (kvno_fits x.kvno w.kvno, (tt, tt))))

sealed_short : (x : EncryptedData) → IsWritableSealed x → length (encrypted_data.spelling x) ≤ 70 + length x.cipher
sealed_short x w =
    let n = 6 + 14 + (6 + 14 + (6 + (6 + length x.cipher) + 0)) in
    let fields : Within sealed_form.parts (sealed_form.parts_of x) n =
    field_within 0 int32 _ _ _ _ _ (int32_within x.etype w.etype) (
    optional_within 1 uint32 _ _ _ _ _ (kvno_short x.kvno w.kvno) (
    field_within 2 octets _ _ _ _ _ (element_within 4 (length x.cipher) x.cipher (omega arith))
    end_within)) in
    omega (arith, element_within 48 n (sealed_form.parts.content.spelling (sealed_form.parts_of x)) fields.le)

-- ---- PA-DATA (RFC 4120, section 5.2.7)

pub padata_fits : (x : PaData) → FitsSigned w32 x.padata_type → pa_data.Fits x
padata_fits x fits = (refl, (int32_fits x.padata_type fits, (tt, tt)))

pub padata_short : (x : PaData) → FitsSigned w32 x.padata_type → length (pa_data.spelling x) ≤ 38 + length x.padata_value
padata_short x fits =
    let n = 6 + 14 + (6 + (6 + length x.padata_value) + 0) in
    let fields : Within pa_form.parts (pa_form.parts_of x) n =
    field_within 1 int32 _ _ _ _ _ (int32_within x.padata_type fits) (
    field_within 2 octets _ _ _ _ _ (element_within 4 (length x.padata_value) x.padata_value (omega arith))
    end_within) in
    omega (arith, element_within 48 n (pa_form.parts.content.spelling (pa_form.parts_of x)) fields.le)

-- ---- ETYPE-INFO2-ENTRY (RFC 4120, section 5.2.7.5)

-- with a salt and no s2kparams
pub record IsWritableEntry (x : EtypeInfo2Entry) : Type 0 where
  pub etype : FitsSigned w32 x.etype
  pub utf8 : IfSome x.salt (λ salt. is_utf8 salt ≡ true)
  pub few : IfSome x.salt (λ salt. length salt ≤ 1024)
  pub s2kparams : IfSome x.s2kparams (λ octets. length octets ≤ 1024)

salt_fits : (salt : Option (List ℕ)) → IfSome salt (λ salt. is_utf8 salt ≡ true) → IfSome salt text.Fits
salt_fits None h = tt
salt_fits (Some salt) h = (tt, h)

octets_fit : (x : Option (List ℕ)) → IfSome x octets.Fits
octets_fit None = tt
octets_fit (Some x) = tt

string_short : (tag : ℕ) (x : Option (List ℕ)) → IfSome x (λ x. length x ≤ 1024) → IfSome x (λ x. length (element tag x) ≤ 1030)
string_short tag None h = tt
string_short tag (Some x) h = element_within tag 1024 x h

pub entry_fits : (x : EtypeInfo2Entry) → IsWritableEntry x → etype_info2_entry.Fits x
entry_fits x w = (refl, (int32_fits x.etype w.etype, (salt_fits x.salt w.utf8, (octets_fit x.s2kparams, tt))))

pub entry_short : (x : EtypeInfo2Entry) → IsWritableEntry x → length (etype_info2_entry.spelling x) ≤ 2098
entry_short x w =
    let fields : Within entry_form.parts (entry_form.parts_of x) (6 + 14 + (6 + 1030 + (6 + 1030 + 0))) =
    field_within 0 int32 _ _ _ _ _ (int32_within x.etype w.etype) (
    optional_within 1 text _ _ _ _ _ (string_short 27 x.salt w.few) (
    optional_within 2 octets _ _ _ _ _ (string_short 4 x.s2kparams w.s2kparams)
    end_within)) in
    omega (arith, element_within 48 2092 (entry_form.parts.content.spelling (entry_form.parts_of x)) fields.le)

-- ---- KDC-REP (RFC 4120, section 5.4.2)

-- a reply, in plain conditions
pub record IsWritableReply (x : KdcRep) : Type 0 where
  pub pvno : pos 5 ≡ x.pvno
  pub msg_type : msg_type_of (is_as_rep x) ≡ x.msg_type
  pub padata : IfSome x.padata (AllByRecursion (λ item. FitsSigned w32 item.padata_type))
  pub crealm : is_realm x.crealm ≡ true
  pub same : x.cname.realm ≡ x.crealm
  pub cname_kind : FitsSigned w32 x.cname.kind
  pub cname_parts : are_parts x.cname.kind x.cname.parts ≡ true
  pub ticket : ticket.Fits x.ticket
  pub enc_part : IsWritableSealed x.enc_part

type_fits : (is_as : Bool) → (number_is (msg_type_of is_as)).Fits tt
type_fits true = number_fits 11 (omega arith)
type_fits false = number_fits 13 (omega arith)

type_short : (is_as : Bool) → length ((number_is (msg_type_of is_as)).spelling tt) ≤ 14
type_short true = number_within 11 (omega arith)
type_short false = number_within 13 (omega arith)

items_fit : (items : List PaData) → AllByRecursion (λ item. FitsSigned w32 item.padata_type) items → AllByRecursion pa_data.Fits items
items_fit [] h = tt
items_fit (x ∷ xs) h = (padata_fits x h.0, items_fit xs h.1)

padata_all_fit : (padata : Option (List PaData)) → IfSome padata (AllByRecursion (λ item. FitsSigned w32 item.padata_type)) → IfSome padata (sequence_of pa_data).Fits
padata_all_fit None h = tt
padata_all_fit (Some items) h = items_fit items h

-- the client's realm is crealm
reply_again : (x : KdcRep) → IsWritableReply x → reply_form.make (is_as_rep x) (reply_form.parts_of x) ≡ x
reply_again x w =
    λ i. record {
      pvno = w.pvno i;
      msg_type = w.msg_type i;
      padata = x.padata;
      crealm = x.crealm;
      cname = in_realm (name_of x.cname) (sym w.same i);
      ticket = x.ticket;
      enc_part = x.enc_part;
    }

pub reply_fits : (x : KdcRep) → IsWritableReply x → kdc_rep.Fits x
unfolding kdc_rep
reply_fits x w = (
  reply_again x w,
  (
    number_fits 5 (omega arith),
    (
      type_fits (is_as_rep x),
      (
        padata_all_fit x.padata w.padata,
        (
          realm_fits x.crealm w.crealm,
          (
            name_fits (name_of x.cname) w.cname_kind w.cname_parts,
            (w.ticket, (sealed_fits x.enc_part w.enc_part, tt)),
          ),
        ),
      ),
    ),
  ),
)

-- at most so many bytes of padata and of the ticket
pub record IsShortReply (x : KdcRep) (m n : ℕ) : Type 0 where
  pub padata : IfSome x.padata (λ items. length ((sequence_of pa_data).spelling items) ≤ m)
  pub ticket : length (ticket.spelling x.ticket) ≤ n

pub reply_short : (x : KdcRep) (m n : ℕ) → IsWritableReply x → IsShortReply x m n → length (kdc_rep.spelling x) ≤ 3000 + m + n + length x.enc_part.cipher
unfolding kdc_rep
reply_short x m n w s =
    let k = 6 + 14 + (6 + 14 + (6 + m + (6 + 261 + (6 + 2126 + (6 + n + (6 + (70 + length x.enc_part.cipher) + 0)))))) in
    let fields : Within (reply_form.parts (is_as_rep x)) (reply_form.parts_of x) k =
    field_within 0 (number_is (pos 5)) _ _ _ _ _ (number_within 5 (omega arith)) (
    field_within 1 (number_is (msg_type_of (is_as_rep x))) _ _ _ _ _ (type_short (is_as_rep x)) (
    optional_within 2 (sequence_of pa_data) _ _ _ _ _ s.padata (
    field_within 3 realm _ _ _ _ _ (element_within 27 255 x.crealm (realm_short x.crealm w.crealm)) (
    field_within 4 principal_name _ _ _ _ _ (name_within (name_of x.cname) w.cname_kind w.cname_parts) (
    field_within 5 ticket _ _ _ _ _ s.ticket (
    field_within 6 encrypted_data _ _ _ _ _ (sealed_short x.enc_part w.enc_part)
    end_within)))))) in
    let spelling : List ℕ = (reply_form.parts (is_as_rep x)).content.spelling (reply_form.parts_of x) in
    omega (arith, element_within (tag_in 0x6b 0x6d (is_as_rep x)) (6 + k) (element 48 spelling) (element_within 48 k spelling fields.le))
