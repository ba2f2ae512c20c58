-- The part of a record tells of the record, and its signatures verify.
use Rattle.std.proofs.Common.{◌≡◌, ℕ, ◌^◌, pos, Bool, true, false, ◌&&◌, cond, List, [], ◌∷◌, length, Option, Some, None, Ok, refl, sym, ap, subst, ◌∙◌, arith, lt-ltb}
use Rattle.std.specs.Prelude.{◌==◌, Result, IfSome, is_none, is_some, nat_lt, option_map}
use Rattle.std.proofs.lemmas.Bool.{eq-eqb}
use Rattle.std.specs.Result.{result_ok}
use lib.Pointwise.{bytes_decides}
use Rattle.kdc_prelude.specs.Steps.{◌>>=◌}
use Rattle.kdc_prelude.specs.Texts.{same_text}
use Rattle.kdc_prelude.specs.Verdicts.{first_failing}
use Rattle.krb_names.specs.declared.key.Key.{Key}
use Rattle.krb_names.specs.Pieces.{is_name}
use Rattle.krb_tickets.specs.declared.enc_ticket_part.EncTicketPart.{EncTicketPart}
use Rattle.krb_tickets.specs.EncTicketPart.{enc_ticket_part}
use Rattle.krb_tickets.specs.Pac.{pac_of, without_pac}
use Rattle.ndr_core.specs.declared.fault.LogonFault.{LogonFault}
use Rattle.ndr_core.specs.Object.{object, packed, packed_spelling, spelling}
use Rattle.pac_buffers.specs.declared.client_info.ClientInfo.{ClientInfo}
use Rattle.pac_buffers.specs.declared.delegation_info.DelegationInfo.{DelegationInfo}
use Rattle.pac_buffers.specs.declared.refusal.PacRefusal.{PacRefusal}
use Rattle.pac_buffers.specs.Buffers.{built, content_of, is_signature, pac}
use Rattle.pac_buffers.specs.Client.{client}
use Rattle.pac_buffers.specs.Container.{buffer_of, pac_fault}
use Rattle.pac_buffers.specs.Delegation.{delegation}
use Rattle.pac_buffers.proofs.Built.{few_together}
use Rattle.pac_buffers.proofs.Contents.{buffer_is}
use Rattle.pac_buffers.proofs.Faults.{no_fault}
use Rattle.pac_laws.specs.Writable.{IsWritableDelegation}
use Rattle.pac_laws.proofs.Written.{client_read, delegation_read}
use Rattle.pac_logon.specs.declared.logon_info.LogonInfo.{LogonInfo}
use Rattle.pac_logon.specs.Logon.{logon}
use Rattle.pac_logon.proofs.Fitting.{logon_again}
use Rattle.pac_sign.specs.declared.fault.SignFault.TheVariants.{Server, Kdc, Ticket}
use Rattle.pac_sign.specs.Signed.{signed}
use Rattle.pac_sign.specs.Sums.{sum_type}
use Rattle.pac_sign.specs.Verified.{or_wrong, server_holds, kdc_asked, ticket_asked, verified}
use Rattle.pac_sign.proofs.Verifies.{built_right, others_stay}
use Rattle.ticket_laws.proofs.LonePacs.{pac_is_found, pac_is_zeroed}
use Rattle.kdc_records.specs.declared.holder.Holder.{Holder}
use Rattle.kdc_records.specs.declared.subject.Delegation.{Delegation}
use Rattle.kdc_records.specs.declared.subject.Subject.{Subject}
use Rattle.kdc_records.specs.declared.ticket_rec.TicketRec.{TicketRec}
use Rattle.ticket_parts.specs.declared.pac_values.PacValue.{PacValue}
use Rattle.ticket_parts.specs.declared.reading.ReadRecord.{ReadRecord}
use Rattle.ticket_parts.specs.Names.{filetime}
use Rattle.ticket_parts.specs.Parts.{bare_part, client_of, delegation_of, is_service, logon_of, part, part_with, signed_pac, signed_part, unsigned_pac}
use Rattle.ticket_parts.specs.Records.{are_signatures_in, client_agrees, client_in, delegation_from, delegation_reading, has_names, logon_in, pac_reading, read_with, record_of, record_with, such_that, value_in}
use Rattle.ticket_parts.specs.Sound.{IsSound}
use Rattle.ticket_parts.proofs.Contents.{built_delegation, signatures_read}
use Rattle.ticket_parts.proofs.Steps.{part_is, record_with_pac}
use Rattle.ticket_parts.proofs.Values.{client_writable, delegation_back, delegation_writable, logon_writable, subject_again}
use Rattle.ticket_parts.proofs.Written.{client_few, logon_few, short_by, signed_pac_short, signed_pac_sound}

-- ---- the buffers

-- a buffer that is no signature is the one that was built
other_is : (t : TicketRec) (holder realm : Key) (kind : ℕ) → IsSound t → is_signature kind ≡ false → buffer_of kind (pac (signed_pac t holder realm)) ≡ content_of kind (unsigned_pac t holder realm)
unfolding signed_pac
other_is t holder realm kind h other = buffer_is kind (signed_pac t holder realm) (signed_pac_sound t holder realm h) ∙ others_stay holder realm (signed_part t) (unsigned_pac t holder realm) kind other

logon_told : (t : TicketRec) (holder realm : Key) → IsSound t → logon_in (pac (signed_pac t holder realm)) ≡ Some (logon_of t)
logon_told t holder realm h =
    ap (λ (o : Option (List ℕ)). o >>= λ content. result_ok (object logon content)) (other_is t holder realm 1 h refl)
    ∙ ap (λ (r : Result LogonInfo LogonFault). result_ok r) (logon_again (logon_of t) (logon_writable t h))

client_told : (t : TicketRec) (holder realm : Key) → IsSound t → client_in (pac (signed_pac t holder realm)) ≡ Some (client_of t)
client_told t holder realm h =
    ap (λ (o : Option (List ℕ)). o >>= λ content. result_ok (packed client content)) (other_is t holder realm 10 h refl)
    ∙ ap (λ (r : Result ClientInfo LogonFault). result_ok r) (client_read (client_of t) (client_writable t h))

reading_by : (o : Option DelegationInfo) → IfSome o (λ d. IsWritableDelegation d) → delegation_reading (option_map (spelling delegation) o) ≡ Some o
reading_by None h = refl
reading_by (Some d) h = ap (λ (r : Result DelegationInfo LogonFault). option_map Some (result_ok r)) (delegation_read d h)

delegation_told : (t : TicketRec) (holder realm : Key) → IsSound t → delegation_reading (buffer_of 11 (pac (signed_pac t holder realm))) ≡ Some (option_map delegation_of t.delegation)
delegation_told t holder realm h =
    let d : Option DelegationInfo = option_map delegation_of t.delegation in
    ap delegation_reading (other_is t holder realm 11 h refl ∙ built_delegation (spelling logon (logon_of t)) (packed_spelling client (client_of t)) (option_map (spelling delegation) d) (is_service t.holder) (pos (sum_type holder.etype)) (pos (sum_type realm.etype)))
    ∙ reading_by d (delegation_writable t h)

abbrev value_of : TicketRec → PacValue
value_of t = record { logon = logon_of t; client = client_of t; delegation = option_map delegation_of t.delegation }

value_by : (bytes : List ℕ) (info : LogonInfo) (named : ClientInfo) (delegated : Option DelegationInfo) → logon_in bytes ≡ Some info → client_in bytes ≡ Some named → delegation_reading (buffer_of 11 bytes) ≡ Some delegated
    → value_in bytes ≡ Some (record { logon = info; client = named; delegation = delegated })
value_by bytes info named delegated a b c =
    let made : LogonInfo → ClientInfo → Option DelegationInfo → Option PacValue = λ i n d. Some (record { logon = i; client = n; delegation = d }) in
    ap (λ (o : Option LogonInfo). o >>= λ i. client_in bytes >>= λ n. delegation_reading (buffer_of 11 bytes) >>= λ d. made i n d) a
    ∙ ap (λ (o : Option ClientInfo). o >>= λ n. delegation_reading (buffer_of 11 bytes) >>= λ d. made info n d) b ∙ ap (λ (o : Option (Option DelegationInfo)). o >>= λ d. made info named d) c

-- ---- the PAC

signatures_told : (t : TicketRec) (holder realm : Key) → IsSound t → are_signatures_in (pac (signed_pac t holder realm)) ≡ true
unfolding signed_pac
signatures_told t holder realm h =
    signatures_read holder realm (is_service t.holder) (enc_ticket_part.spelling (part_with (0 ∷ []) t)) (spelling logon (logon_of t)) (packed_spelling client (client_of t))
    (option_map (spelling delegation) (option_map delegation_of t.delegation)) (signed_pac_sound t holder realm h)

has_names_told : (t : TicketRec) → IsSound t → has_names (value_of t) ≡ true
has_names_told t h = ap (λ (b : Bool). b && is_name t.subject.realm) h.subject.name.name ∙ h.subject.realm.name

pub pac_told : (t : TicketRec) (holder realm : Key) → IsSound t → pac_reading (pac (signed_pac t holder realm)) ≡ Some (value_of t)
pac_told t holder realm h =
    let bytes : List ℕ = pac (signed_pac t holder realm) in
    let few : nat_lt (length bytes) (2 ^ 32) ≡ true = lt-ltb _ _ (omega (arith, signed_pac_short t holder realm h)) in
    let stands : pac_fault bytes ≡ None = no_fault (signed_pac t holder realm) (signed_pac_sound t holder realm h) in
    let value : value_in bytes ≡ Some (value_of t) = value_by bytes (logon_of t) (client_of t) (option_map delegation_of t.delegation) (logon_told t holder realm h) (client_told t holder realm h) (delegation_told t holder realm h) in
    ap (λ (b : Bool). cond (b && is_none (pac_fault bytes) && are_signatures_in bytes) (value_in bytes >>= such_that has_names) None) few
    ∙ ap (λ (o : Option PacRefusal). cond (is_none o && are_signatures_in bytes) (value_in bytes >>= such_that has_names) None) stands
    ∙ ap (λ (b : Bool). cond b (value_in bytes >>= such_that has_names) None) (signatures_told t holder realm h)
    ∙ ap (λ (o : Option PacValue). o >>= such_that has_names) value
    ∙ ap (λ (b : Bool). cond b (Some (value_of t)) None) (has_names_told t h)

-- ---- the record

pac_within : (t : TicketRec) (holder realm : Key) → IsSound t → pac_of (part_with (pac (signed_pac t holder realm)) t) ≡ Some (pac (signed_pac t holder realm))
pac_within t holder realm h = pac_is_found (bare_part t) (pac (signed_pac t holder realm)) (omega (arith, signed_pac_short t holder realm h))

pub pac_in_part : (t : TicketRec) (holder realm : Key) → IsSound t → pac_of (part t holder realm) ≡ Some (pac (signed_pac t holder realm))
pac_in_part t holder realm h = ap pac_of (part_is t holder realm) ∙ pac_within t holder realm h

agrees_told : (t : TicketRec) (bytes : List ℕ) → client_agrees (part_with bytes t) (value_of t) ≡ true
agrees_told t bytes =
    let time : (filetime t.auth == filetime t.auth) ≡ true = eq-eqb _ _ refl in
    ap (λ (b : Bool). b && same_text (client_of t).name (client_of t).name) time ∙ (bytes_decides (client_of t).name (client_of t).name).1 refl

record_told : (t : TicketRec) (held : Holder) (bytes : List ℕ) → IsSound t → record_with held (part_with bytes t) (value_of t) ≡ record t { holder = held }
record_told t held bytes h =
    let made : Subject → Option Delegation → TicketRec = λ s d. record t { holder = held; subject = s; delegation = d } in
    ap (λ (s : Subject). made s (option_map delegation_from (option_map delegation_of t.delegation))) (subject_again t h) ∙ ap (λ (d : Option Delegation). made t.subject d) (delegation_back t.delegation)

pub record_back : (t : TicketRec) (held : Holder) (holder realm : Key) → IsSound t → record_of held (part t holder realm) ≡ Some (record { rec = record t { holder = held }; agrees = true })
record_back t held holder realm h =
    let bytes : List ℕ = pac (signed_pac t holder realm) in
    let p : EncTicketPart = part_with bytes t in
    let made : TicketRec → Bool → Option ReadRecord = λ r b. Some (record { rec = r; agrees = b }) in
    ap (record_of held) (part_is t holder realm)
    ∙ record_with_pac held p bytes (pac_within t holder realm h)
    ∙ ap (λ (o : Option PacValue). option_map (read_with held p) o) (pac_told t holder realm h)
    ∙ ap (λ (r : TicketRec). made r (client_agrees p (value_of t))) (record_told t held bytes h) ∙ ap (made (record t { holder = held })) (agrees_told t bytes)

-- ---- the signatures

some_if : (b : Bool) (x : List ℕ) → is_some (cond b (Some x) None) ≡ b
some_if true x = refl
some_if false x = refl

pub all_verified : (t : TicketRec) (holder realm : Key) → IsSound t → verified holder (Some realm) (signed_part t) (pac (signed_pac t holder realm)) ≡ Ok tt
unfolding signed_pac
all_verified t holder realm h =
    let over : Option (List ℕ) = signed_part t in
    let delegated : Option (List ℕ) = option_map (spelling delegation) (option_map delegation_of t.delegation) in
    let first : List ℕ = spelling logon (logon_of t) in
    let second : List ℕ = packed_spelling client (client_of t) in
    subst (λ (b : Bool). verified holder (Some realm) over (pac (signed holder realm over (built first second delegated b (pos (sum_type holder.etype)) (pos (sum_type realm.etype))))) ≡ Ok tt)
    (some_if (is_service t.holder) (enc_ticket_part.spelling (part_with (0 ∷ []) t)))
    (built_right holder realm over delegated first second (few_together first second delegated (logon_few t h) (client_few t h) (short_by (option_map delegation_of t.delegation) (delegation_writable t h))))

server_by : (s k t : Bool) → or_wrong (first_failing ((Server, s) ∷ (Kdc, k) ∷ (Ticket, t) ∷ [])) ≡ Ok tt → or_wrong (first_failing ((Server, s) ∷ (Kdc, true) ∷ (Ticket, true) ∷ [])) ≡ Ok tt
server_by true k t h = refl
server_by false k t h = absurd cc

pub server_verified : (t : TicketRec) (holder realm : Key) → IsSound t → verified holder None None (pac (signed_pac t holder realm)) ≡ Ok tt
server_verified t holder realm h =
    let bytes : List ℕ = pac (signed_pac t holder realm) in
    server_by (server_holds holder bytes) (kdc_asked holder (Some realm) bytes) (ticket_asked (Some realm) (signed_part t) bytes) (all_verified t holder realm h)

-- the ticket signature is over the part with one zero byte for its PAC
pub ticket_covers : (t : TicketRec) (holder realm : Key) → IsSound t → is_service t.holder ≡ true → signed_part t ≡ Some (enc_ticket_part.spelling (without_pac (part t holder realm)))
ticket_covers t holder realm h service =
    let zeroed : EncTicketPart = part_with (0 ∷ []) t in
    ap (λ (b : Bool). let over : Option (List ℕ) = cond b (Some (enc_ticket_part.spelling zeroed)) None in over) service
    ∙ ap (λ (p : EncTicketPart). let over : Option (List ℕ) = Some (enc_ticket_part.spelling p) in over)
    (sym (ap without_pac (part_is t holder realm) ∙ pac_is_zeroed (bare_part t) (pac (signed_pac t holder realm)) (omega (arith, signed_pac_short t holder realm h))))
