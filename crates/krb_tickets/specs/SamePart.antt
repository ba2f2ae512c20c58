-- When two parts are the same: in each field, lists item by item, keys by their type and all 32 octets.
use Rattle.std.specs.Prelude.{ℕ, Option, Some, None, Bool, true, false, ◌&&◌, nat_eq}
use Rattle.std.specs.Ordering.{int_eq}
use Rattle.std.specs.Cmp.Lexicographic.{pointwise}
use Rattle.kdc_prelude.specs.Texts.{same_text}
use Rattle.krb_names.specs.declared.key.Key.{Key}
use Rattle.krb_names.specs.declared.principal.Principal.{Principal}
use Rattle.krb_names.specs.Etypes.{etype_number}
use Rattle.krb_names.specs.Principals.{same_principal}
use Rattle.krb_tickets.specs.declared.enc_ticket_part.EncTicketPart.{EncTicketPart}
use Rattle.krb_tickets.specs.SameItem.{same_item}

abbrev pub same_key : Key → Key → Bool
same_key a b = nat_eq (etype_number a.etype) (etype_number b.etype) && same_text a.raw b.raw

-- the kinds too
abbrev pub same_name : Principal → Principal → Bool
same_name a b = int_eq a.kind b.kind && same_principal a b

abbrev pub same_time : Option ℕ → Option ℕ → Bool
same_time None None = true
same_time None (Some n) = false
same_time (Some m) None = false
same_time (Some m) (Some n) = nat_eq m n

unfoldable pub same_part : EncTicketPart → EncTicketPart → Bool
same_part a b =
    nat_eq a.flags b.flags
    && (same_key a.key b.key
    && (same_name a.client b.client
    && (pointwise same_text a.transited b.transited
    && (nat_eq a.auth b.auth
    && (same_time a.start b.start
    && (nat_eq a.end b.end
    && pointwise same_item a.items b.items))))))
