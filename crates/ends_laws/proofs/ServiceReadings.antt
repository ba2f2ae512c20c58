-- What a service reads of a ticket that was granted, and of an authenticator.
use Rattle.std.proofs.Common.{◌≡◌, ◌∙◌, ℕ, Bool, true, false, cond, List, [], ◌∷◌, Option, None, Some, Ok, refl, sym, ap, arith}
use Rattle.std.specs.Prelude.{option_map}
use Rattle.kdc_prelude.specs.Steps.{◌>>=◌}
use Rattle.kdc_prelude.specs.Verdicts.{first_failing}
use Rattle.aes_core.specs.Inverses.{IsBlock}
use Rattle.der_core.specs.Codec.{Codec, whole}
use Rattle.krb_names.specs.declared.key.Key.{Key}
use Rattle.krb_crypto.proofs.ByteSums.{bytes_below}
use Rattle.krb_crypto.specs.BlockCipher.{IsKey}
use Rattle.krb_crypto.specs.Encryption.{opened, seal}
use Rattle.krb_tickets.specs.declared.enc_ticket_part.EncTicketPart.{EncTicketPart}
use Rattle.krb_tickets.specs.EncTicketPart.{enc_ticket_part}
use Rattle.krb_tickets.specs.Laws.{enc_ticket_part_lawful}
use Rattle.krb_tickets.specs.Pac.{pac_of}
use Rattle.der_forms.proofs.Readings.{is_again}
use Rattle.kdc_records.specs.declared.ticket_rec.TicketRec.{TicketRec}
use Rattle.pac_buffers.specs.Buffers.{pac}
use Rattle.pac_sign.specs.declared.fault.SignFault.TheVariants.{Server, Kdc, Ticket}
use Rattle.pac_sign.specs.Verified.{or_wrong, server_holds}
use Rattle.ticket_codec.proofs.PartBytes.{part_bytes}
use Rattle.ticket_codec.proofs.Sealed.{opened_sealed}
use Rattle.ticket_parts.specs.declared.pac_values.PacValue.{PacValue}
use Rattle.ticket_parts.specs.Parts.{client_of, delegation_of, logon_of, part, part_with, signed_pac}
use Rattle.ticket_parts.specs.Records.{pac_reading}
use Rattle.ticket_parts.specs.Sound.{IsSound}
use Rattle.ticket_parts.proofs.Steps.{part_is}
use Rattle.ticket_parts.proofs.ToldAgain.{pac_in_part, pac_told, server_verified}
use Rattle.ticket_parts.proofs.Written.{part_short, part_writable, part_written}
use Rattle.tgs_requests.specs.Askings.{read_or_none}
use Rattle.tgs_core.proofs.FoundGrants.{some_is}
use Rattle.s4u_client.specs.Reads.{OpenAs}
use Rattle.service_end.specs.Readings.{opened_as, pac_shown, signed_reading}

-- ---- what was sealed

opened_by : {X : Type 0} (form : Codec X) (text : Option (List ℕ)) (x : X) → option_map (whole form) text ≡ Some (Ok x) → (text >>= λ bytes. read_or_none (whole form bytes)) ≡ Some x
opened_by form None x h = absurd (cc)
opened_by form (Some text) x h = ap read_or_none (some_is (whole form text) (Ok x) h)

pub opened_is : {X : Type 0} (form : Codec X) (key : Key) (usage : ℕ) (cipher : List ℕ) (x : X) → OpenAs form key usage cipher x → opened_as form key usage cipher ≡ Some x
opened_is form key usage cipher x h = opened_by form (opened key usage cipher) x h

-- the part of a record, with its PAC
abbrev pub part_sealed : TicketRec → Key → Key → EncTicketPart
part_sealed t holder realm = part_with (pac (signed_pac t holder realm)) t

part_opens : (t : TicketRec) (holder realm : Key) (conf : List ℕ) → IsSound t → IsKey holder → IsBlock conf
    → opened holder 2 (seal holder 2 conf (enc_ticket_part.spelling (part t holder realm))) ≡ Some (enc_ticket_part.spelling (part t holder realm))
part_opens t holder realm conf sound own block =
    let p : EncTicketPart = part t holder realm in
    let text : List ℕ = enc_ticket_part.spelling p in
    opened_sealed holder 2 conf text own block (bytes_below text (part_bytes p (part_writable t holder realm sound)))

part_reads : (t : TicketRec) (holder realm : Key) → IsSound t → whole enc_ticket_part (enc_ticket_part.spelling (part t holder realm)) ≡ Ok (part t holder realm)
part_reads t holder realm sound =
    let few = part_short t holder realm sound in
    is_again enc_ticket_part enc_ticket_part_lawful (part t holder realm) (part_written t holder realm sound) (omega (arith, few))

pub ticket_opens : (t : TicketRec) (holder realm : Key) (conf : List ℕ) → IsSound t → IsKey holder → IsBlock conf
    → opened_as enc_ticket_part holder 2 (seal holder 2 conf (enc_ticket_part.spelling (part t holder realm))) ≡ Some (part_sealed t holder realm)
ticket_opens t holder realm conf sound own block =
    ap (λ (text : Option (List ℕ)). text >>= λ (bytes : List ℕ). read_or_none (whole enc_ticket_part bytes)) (part_opens t holder realm conf sound own block)
    ∙ ap read_or_none (part_reads t holder realm sound)
    ∙ ap (λ (p : EncTicketPart). let found : Option EncTicketPart = Some p in found) (part_is t holder realm)

-- ---- the PAC

abbrev pub pac_value : TicketRec → PacValue
pac_value t = record { logon = logon_of t; client = client_of t; delegation = option_map delegation_of t.delegation }

server_first : (s : Bool) → or_wrong (first_failing ((Server, s) ∷ (Kdc, true) ∷ (Ticket, true) ∷ [])) ≡ Ok tt → s ≡ true
server_first true h = refl
server_first false h = absurd (cc)

pub pac_is_shown : (t : TicketRec) (holder realm : Key) → IsSound t → pac_shown holder (part_sealed t holder realm) ≡ Some (pac_value t)
unfolding pac_shown
pac_is_shown t holder realm sound =
    let bytes : List ℕ = pac (signed_pac t holder realm) in
    let found : pac_of (part_sealed t holder realm) ≡ Some bytes = ap pac_of (sym (part_is t holder realm)) ∙ pac_in_part t holder realm sound in
    let right : server_holds holder bytes ≡ true = server_first (server_holds holder bytes) (server_verified t holder realm sound) in
    ap (λ (found : Option (List ℕ)). found >>= signed_reading holder) found
    ∙ ap (λ (b : Bool). cond b (pac_reading bytes) None) right
    ∙ pac_told t holder realm sound
