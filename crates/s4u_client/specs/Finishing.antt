-- How a client judges a reply (RFC 4120, sections 3.1.5, 3.3.4 and 5.4.2): in order, the first thing that is wrong.
use Rattle.std.specs.Prelude.{◌≡◌, ◌≢◌, ℕ, ◌≤◌, Bool, true, false, not, ◌&&◌, ◌||◌, nat_eq, List, [], ◌∷◌, length, codes, decimal, Option, None, Some, unwrap_or, Result, Ok, Err, MatchResult, if◌then◌else◌}
use Rattle.std.specs.Fmt.{signed_decimal}
use Rattle.std.specs.Ordering.{int_eq}
use Rattle.kdc_prelude.specs.Answers.{or_fault}
use Rattle.kdc_prelude.specs.Results.{◌>>=◌}
use Rattle.kdc_prelude.specs.Texts.{same_text}
use Rattle.kdc_prelude.specs.Verdicts.{first_failing}
use Rattle.der_core.specs.declared.refusal.DerRefusal.{DerRefusal}
use Rattle.der_core.specs.Codec.{whole}
use Rattle.der_forms.specs.Choices.{tag_in}
use Rattle.der_forms.specs.Fields.{begins}
use Rattle.krb_names.specs.declared.principal.Principal.{Principal}
use Rattle.krb_names.specs.declared.refusal.NameRefusal.{NameRefusal}
use Rattle.krb_names.specs.Etypes.{etype_number}
use Rattle.krb_names.specs.Keys.{is_padded}
use Rattle.krb_names.specs.NameTexts.{name_text}
use Rattle.krb_names.specs.Principals.{name_reading, same_principal}
use Rattle.krb_crypto.specs.Encryption.{opened}
use Rattle.krb_tickets.specs.NameString.{is_enterprise}
use Rattle.krb_tickets.specs.Pac.{is_number}
use Rattle.krb_tickets.specs.Ticket.{ticket}
use Rattle.krb_messages.specs.declared.enc_kdc_rep.EncKdcRep.{EncKdcRep}
use Rattle.krb_messages.specs.declared.kdc_rep.KdcRep.{KdcRep}
use Rattle.krb_messages.specs.declared.krb_error.KrbError.{KrbError}
use Rattle.krb_messages.specs.EncKdcRep.{enc_kdc_rep}
use Rattle.krb_messages.specs.KdcRep.{kdc_rep}
use Rattle.krb_messages.specs.KrbError.{krb_error}
use Rattle.s4u_client.specs.declared.cred.Cred.{Cred}
use Rattle.s4u_client.specs.declared.cred.Pending.{Pending}
use Rattle.s4u_client.specs.declared.cred.Want.{Want}
use Rattle.s4u_client.specs.declared.fault.Field.TheVariants.{Nonce, Client, Server, Etype}
use Rattle.s4u_client.specs.declared.fault.FinishFault.{FinishFault}
use Rattle.s4u_client.specs.declared.fault.FinishFault.TheVariants.{Denied, Differs, NoMemory, NotOpened, Unreadable}
use Rattle.s4u_client.specs.Requests.{asked_in}
use Rattle.s4u_client.specs.Writable.{IsName}

-- ---- what is read

-- a KRB-ERROR denies; its text may be absent
abbrev pub not_denied : Result KrbError DerRefusal → Result (Unit {0}) FinishFault
not_denied (Ok error) = Err (Denied error.error_code (unwrap_or error.e_text []))
not_denied (Err refusal) = Ok tt

-- of what does not read the place is told
abbrev pub readable : {X : Type 0} → Result X DerRefusal → Result X FinishFault
readable (Ok x) = Ok x
readable (Err refusal) = Err (Unreadable refusal.place)

-- whether the reply to an AS-REQ is awaited
abbrev pub awaits_as : Pending → Bool
awaits_as pending = nat_eq pending.usage 3

-- the reply of the kind that was asked for; another kind is unreadable at its first byte
abbrev pub reply_in : Bool → List ℕ → Result KdcRep FinishFault
reply_in is_as bytes = if begins (tag_in 0x6b 0x6d is_as) bytes then readable (whole kdc_rep bytes) else Err (Unreadable 0)

-- EncTGSRepPart, or either part of an AS-REP (RFC 4120, section 5.4.2)
abbrev pub part_in : Bool → List ℕ → Result EncKdcRep FinishFault
part_in is_as bytes = if is_as || not (begins 0x79 bytes) then readable (whole enc_kdc_rep bytes) else Err (Unreadable 0)

-- ---- what is compared

-- krbtgt of any realm, as the asked realm names it
abbrev pub names_krbtgt : List (List ℕ) → Bool
names_krbtgt (first ∷ realm ∷ []) = same_text first (codes "krbtgt")
names_krbtgt _ = false

-- a ticket-granting ticket of the asked realm
abbrev pub is_krbtgt_in : List ℕ → Principal → Bool
is_krbtgt_in realm name = names_krbtgt name.parts && same_text name.realm realm

-- the name `a` in C, where the one part of an asked name of kind 10 is `a@C`
abbrev pub is_joined_name : Principal → Result Principal NameRefusal → Bool
is_joined_name name (Ok joined) = same_principal name joined
is_joined_name name (Err refusal) = false

abbrev pub is_enterprise_of : List (List ℕ) → Principal → Bool
is_enterprise_of (part ∷ []) name = is_joined_name name (name_reading part)
is_enterprise_of _ name = false

-- the name of an asked enterprise name, of the asked realm
abbrev pub is_asked_enterprise : Want → Principal → Bool
is_asked_enterprise want name = is_enterprise want.server.kind && is_enterprise_of want.server.parts name && same_text name.realm want.realm

-- the server of what is sealed: the asked one, the one of an asked enterprise name, or a krbtgt, of the asked realm
abbrev pub server_is_right : Want → Principal → Bool
server_is_right want name =
    same_principal name (asked_in want.realm want.server) || is_asked_enterprise want name || is_krbtgt_in want.realm name

-- the client of the reply: the expected one, or, with a krbtgt, the one that asks
abbrev pub client_is_right : Pending → Principal → Principal → Bool
client_is_right pending server name =
    same_principal name pending.client || is_krbtgt_in pending.want.realm server && same_principal name pending.own

-- ---- what was sent and what came, and whether they agree; whatever the kinds of names

abbrev pub nonce_row : Pending → EncKdcRep → FinishFault × Bool
nonce_row pending part = (Differs Nonce (signed_decimal pending.want.nonce) (signed_decimal part.nonce), int_eq part.nonce pending.want.nonce)

abbrev pub client_row : Pending → KdcRep → EncKdcRep → FinishFault × Bool
client_row pending reply part = (Differs Client (name_text pending.client) (name_text reply.cname), client_is_right pending part.sname reply.cname)

abbrev pub server_row : Want → EncKdcRep → FinishFault × Bool
server_row want part = (Differs Server (name_text (asked_in want.realm want.server)) (name_text part.sname), server_is_right want part.sname)

abbrev pub ticket_row : KdcRep → EncKdcRep → FinishFault × Bool
ticket_row reply part = (Differs Server (name_text part.sname) (name_text reply.ticket.sname), same_principal reply.ticket.sname part.sname)

abbrev pub etype_row : Pending → KdcRep → FinishFault × Bool
etype_row pending reply =
    (Differs Etype (decimal (etype_number pending.key.etype)) (signed_decimal reply.enc_part.etype), is_number (etype_number pending.key.etype) reply.enc_part.etype)

-- in the order in which they are compared
abbrev pub comparisons : Pending → KdcRep → EncKdcRep → List (FinishFault × Bool)
comparisons pending reply part =
    nonce_row pending part
    ∷ client_row pending reply part
    ∷ server_row pending.want part
    ∷ ticket_row reply part
    ∷ etype_row pending reply
    ∷ []

-- a call that compares: the fault where they do not agree, unless memory is wanted
abbrev pub Compares : Result (Unit {0}) FinishFault → FinishFault × Bool → Type 0
Compares result row = MatchResult result (λ done. row.1 ≡ true) (λ fault. fault ≢ NoMemory → (row.1 ≡ false) × (row.0 ≡ fault))

-- ---- what comes of it

abbrev pub cred_of : KdcRep → EncKdcRep → Cred
cred_of reply part = record {
  client = reply.cname;
  server = part.sname;
  ticket = reply.ticket;
  session = part.key;
  flags = part.flags;
  end = part.endtime;
}

-- the credential, unless something differs
abbrev pub unless_differing : Option FinishFault → Cred → Result Cred FinishFault
unless_differing None cred = Ok cred
unless_differing (Some fault) cred = Err fault

-- the part of the reply that the key opens
abbrev pub part_of : Pending → KdcRep → Result EncKdcRep FinishFault
part_of pending reply = or_fault NotOpened (opened pending.key pending.usage reply.enc_part.cipher) >>= λ text. part_in (awaits_as pending) text

unfoldable pub finished : Pending → List ℕ → Result Cred FinishFault
finished pending bytes =
    not_denied (whole krb_error bytes) >>= λ _.
    reply_in (awaits_as pending) bytes >>= λ reply.
    part_of pending reply >>= λ part.
    unless_differing (first_failing (comparisons pending reply part)) (cred_of reply part)

-- ---- what is known of it

-- what a reply of these bytes is: its ticket is written in no more bytes, and what is sealed in it is no longer
pub record IsReply (bytes : List ℕ) (reply : KdcRep) : Type 0 where
  pub fits : kdc_rep.Fits reply
  pub short : length (ticket.spelling reply.ticket) ≤ length bytes
  pub sealed : length reply.enc_part.cipher ≤ length bytes

-- a credential that a reply of these bytes gives can be used in a request
pub record IsFound (bytes : List ℕ) (cred : Cred) : Type 0 where
  pub client : IsName cred.client
  pub server : IsName cred.server
  pub fits : ticket.Fits cred.ticket
  pub short : length (ticket.spelling cred.ticket) ≤ length bytes
  pub key_padding : is_padded cred.session ≡ true

-- what was sent is not what came, also in words
abbrev pub TextsDiffer : FinishFault → Type 0
TextsDiffer (Differs field sent got) = sent ≢ got
TextsDiffer (Denied code text) = Unit {0}
TextsDiffer (Unreadable place) = Unit {0}
TextsDiffer NotOpened = Unit {0}
TextsDiffer NoMemory = Unit {0}
