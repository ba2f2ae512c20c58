-- What can be written, in plain conditions.
use Rattle.std.specs.Prelude.{◌≡◌, ℕ, ◌<◌, ◌≤◌, ◌^◌, ℤ, List, [], ◌∷◌, length, Bool, true, false, ◌&&◌, ◌||◌, nat_le, IfSome, FitsSigned}
use Rattle.std.specs.Int.{w32}
use Rattle.std.specs.List.{list_all, AllByRecursion}
use Rattle.std.specs.Str.{is_utf8}
use Rattle.der_core.specs.Laws.{IsBytes}
use Rattle.krb_names.specs.Keys.{is_padded}
use Rattle.krb_tickets.specs.declared.auth_item.AuthItem.{AuthItem}
use Rattle.krb_tickets.specs.declared.enc_ticket_part.EncTicketPart.{EncTicketPart}
use Rattle.krb_tickets.specs.declared.ticket.Ticket.{Ticket}
use Rattle.krb_tickets.specs.NameString.{is_joined, is_enterprise}
use Rattle.krb_tickets.specs.Transited.{is_realm, are_realms}

-- ---- names (RFC 4120, sections 5.2.2 and 6.2)

-- 1 to 8 texts that may stand in a name, as a realm's may (own choice)
abbrev pub are_texts : List (List ℕ) → Bool
are_texts parts = nat_le 1 (length parts) && nat_le (length parts) 8 && list_all is_realm parts

-- one text, a name and a realm that are joined by `@`
abbrev pub is_lone_joined : List (List ℕ) → Bool
is_lone_joined [] = false
is_lone_joined (part ∷ []) = is_utf8 part && is_joined part
is_lone_joined (part ∷ other ∷ parts) = false

-- the parts of a name of this kind; the one of NT-ENTERPRISE may be joined
abbrev pub are_parts : ℤ → List (List ℕ) → Bool
are_parts kind parts = are_texts parts || (is_enterprise kind && is_lone_joined parts)

-- ---- EncTicketPart (RFC 4120, section 5.3)

-- AuthorizationData's elements (RFC 4120, section 5.2.6)
pub record IsWritableItem (item : AuthItem) : Type 0 where
  pub kind : FitsSigned w32 item.kind
  pub content : IsBytes item.content

-- times go to 9999-12-31T23:59:59 (RFC 4120, section 5.2.3), and zeros stand behind the octets of the key up to 32
pub record IsWritablePart (p : EncTicketPart) : Type 0 where
  pub flags : p.flags < 2 ^ 32
  pub key_length : length p.key.raw ≡ 32
  pub key_octets : IsBytes p.key.raw
  pub key_padding : is_padded p.key ≡ true
  pub crealm : is_realm p.client.realm ≡ true
  pub cname_kind : FitsSigned w32 p.client.kind
  pub cname_parts : are_parts p.client.kind p.client.parts ≡ true
  pub transited : are_realms p.transited ≡ true
  pub auth : p.auth ≤ 253402300799
  pub start : IfSome p.start (λ seconds. seconds ≤ 253402300799)
  pub end : p.end ≤ 253402300799
  pub items : AllByRecursion IsWritableItem p.items

-- ---- Ticket (RFC 4120, section 5.3)

-- the service is of the ticket's realm, which stands in it once
pub record IsWritableTicket (t : Ticket) : Type 0 where
  pub realm : is_realm t.realm ≡ true
  pub sname_realm : t.sname.realm ≡ t.realm
  pub sname_kind : FitsSigned w32 t.sname.kind
  pub sname_parts : are_parts t.sname.kind t.sname.parts ≡ true
  pub etype : FitsSigned w32 t.sealed.etype
  pub kvno : IfSome t.sealed.kvno (λ n. n < 2 ^ 32)
  pub cipher : IsBytes t.sealed.cipher
