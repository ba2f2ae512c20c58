-- Tickets whose PAC says nothing to a service.
use Rattle.std.proofs.Common.{◌≡◌, ◌∙◌, ℕ, Bool, true, false, List, Some, None, refl, ap, cond}
use Rattle.std.specs.Prelude.{IfNone, Option}
use Rattle.kdc_prelude.specs.Steps.{◌>>=◌}
use Rattle.krb_names.specs.declared.key.Key.{Key}
use Rattle.krb_tickets.specs.declared.enc_ticket_part.EncTicketPart.{EncTicketPart}
use Rattle.krb_tickets.specs.Pac.{pac_of}
use Rattle.pac_sign.specs.Verified.{server_holds}
use Rattle.ticket_parts.specs.declared.pac_values.PacValue.{PacValue}
use Rattle.ticket_parts.specs.Records.{pac_reading}
use Rattle.service_end.specs.Readings.{pac_shown, signed_reading}

shown_by : (key : Key) (part : EncTicketPart) (found : Option (List ℕ)) → pac_of part ≡ found → pac_shown key part ≡ (found >>= signed_reading key)
unfolding pac_shown
shown_by key part found h = ap (λ (o : Option (List ℕ)). o >>= signed_reading key) h

pub none_shown : {X : Type 0} (r : Option X) (part : EncTicketPart) → pac_of part ≡ None → IfNone r ((key : Key) → pac_shown key part ≡ None)
none_shown None part h = λ key. shown_by key part None h
none_shown (Some x) part h = tt

nothing : (b : Bool) (o : Option PacValue) → o ≡ None → cond b o None ≡ None
nothing true o h = h
nothing false o h = refl

pub unread : (part : EncTicketPart) (bytes : List ℕ) → pac_of part ≡ Some bytes → pac_reading bytes ≡ None → (key : Key) → pac_shown key part ≡ None
unread part bytes h k key = shown_by key part (Some bytes) h ∙ nothing (server_holds key bytes) (pac_reading bytes) k
