use Rattle.std.proofs.Common.{◌≡◌, ℕ, zero, suc, pos, List, [], ◌∷◌, replicate, Some, refl, sym, subst, arith, lit<}
use Rattle.std.specs.Str.{chars, is_utf8}
use Rattle.krb_names.specs.declared.etype.Etype.TheVariants.{Aes256}
use Rattle.krb_names.specs.declared.key.Key.{Key}
use Rattle.krb_names.specs.declared.principal.Principal.{Principal}
use Rattle.krb_names.specs.Keys.{key_of}
use Rattle.krb_tickets.specs.declared.enc_ticket_part.EncTicketPart.{EncTicketPart}
use Rattle.ndr_core.specs.Laws.{IsBytes}
use Rattle.pac_laws.proofs.Bytes.{IsBytes-append, IsBytes-cons, IsBytes-nil}
use Rattle.ticket_laws.specs.Writable.{IsWritablePart}
use Rattle.ticket_tests.proofs.parts.record.Goals as goal

abbrev web : Principal
web = record { kind = pos 1; parts = (119 ∷ 101 ∷ 98 ∷ []) ∷ []; realm = 82 ∷ [] }

abbrev octets : List ℕ
octets = replicate 32 3

abbrev session_key : Key
session_key = key_of Aes256 octets

threes : (n : ℕ) → IsBytes (replicate n 3)
threes zero = IsBytes-nil
threes (suc n) = IsBytes-cons 3 (replicate n 3) (omega arith) (threes n)

abbrev part_of : Key → Principal → List (List ℕ) → ℕ → ℕ → ℕ → EncTicketPart
part_of session client transited auth start end =
    record { flags = 1075838976; key = session; client = client; transited = transited; auth = auth; start = Some start; end = end; items = [] }

written : IsWritablePart (part_of session_key web [] 1000 2000 3000)
unfolding chars is_utf8 lib.Utf8.encode
written = record {
  flags = lit< tt;
  key_length = refl;
  key_octets = IsBytes-append octets [] (threes 32) IsBytes-nil;
  key_padding = refl;
  crealm = refl;
  cname_kind = record { sfits = omega arith };
  cname_parts = refl;
  transited = refl;
  auth = omega arith;
  start = omega arith;
  end = omega arith;
  items = tt;
}

made_writable : (session : Key) (client : Principal) (transited : List (List ℕ)) (auth start end : ℕ) → session ≡ session_key → client ≡ web → transited ≡ [] → auth ≡ 1000 → start ≡ 2000 → end ≡ 3000
    → IsWritablePart (part_of session client transited auth start end)
made_writable session client transited auth start end one two three four five six =
    let same : part_of session client transited auth start end ≡ part_of session_key web [] 1000 2000 3000 = cc in
    subst IsWritablePart (sym same) written

pub returns : goal.returns
returns c = record {
  part = made_writable c.new.result c.in_ok-client.field-0 c.new-5.result c.new-2.result c.new-3.result c.new-4.result c.new.ensures c.in_ok-client.ensures c.new-5.ensures c.new-2.ensures c.new-3.ensures c.new-4.ensures;
  subject = c.in_ok-user.ensures;
  delegation = c.requires;
}
