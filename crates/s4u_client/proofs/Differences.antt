-- Where something differs, so do the texts that are told of it.
use Rattle.std.proofs.Common.{◌≡◌, ◌≢◌, ℕ, ◌<◌, ◌^◌, ℤ, pos, Bool, true, false, ◌||◌, List, [], ◌∷◌, Option, Some, None, Result, Ok, Err, refl, sym, ap, subst, arith}
use Rattle.std.specs.Prelude.{IfErr, IsErr, IsErrAnd, if◌then◌else◌, not, unwrap_or}
use Rattle.std.specs.Fmt.{signed_decimal}
use Rattle.std.specs.Int.Signed.{mag}
use Rattle.std.specs.List.{AllByRecursion}
use Rattle.std.specs.Ordering.{int_eq}
use Rattle.std.proofs.lemmas.Cmp.{int_eq_equiv}
use Rattle.std.proofs.lemmas.Fmt.{signed_decimal_injective}
use Rattle.kdc_prelude.specs.Answers.{or_fault}
use Rattle.kdc_prelude.specs.Results.{◌>>=◌}
use Rattle.kdc_prelude.specs.Verdicts.{first_failing}
use Rattle.der_core.specs.declared.refusal.DerRefusal.{DerRefusal}
use Rattle.der_core.specs.Codec.{whole}
use Rattle.der_core.specs.Steps.{neither}
use Rattle.der_forms.specs.Choices.{tag_in}
use Rattle.der_forms.specs.Fields.{begins}
use Rattle.krb_names.specs.declared.etype.Etype.{Etype}
use Rattle.krb_names.specs.declared.etype.Etype.TheVariants.{Aes128, Aes256}
use Rattle.krb_names.specs.declared.principal.Principal.{Principal}
use Rattle.krb_names.specs.Etypes.{etype_number}
use Rattle.krb_names.specs.NameTexts.{name_text}
use Rattle.krb_names.specs.Principals.{same_principal}
use Rattle.krb_crypto.specs.Encryption.{opened}
use Rattle.krb_tickets.specs.declared.ticket.Ticket.{Ticket}
use Rattle.krb_tickets.specs.Pac.{is_number}
use Rattle.krb_tickets.specs.Ticket.{ticket}
use Rattle.krb_tickets.specs.Transited.{is_realm}
use Rattle.ticket_laws.proofs.Texts.{parts_only, realm_only}
use Rattle.ticket_laws.proofs.Values.{int32_only}
use Rattle.krb_messages.specs.declared.enc_kdc_rep.EncKdcRep.{EncKdcRep}
use Rattle.krb_messages.specs.declared.kdc_rep.KdcRep.{KdcRep}
use Rattle.krb_messages.specs.declared.krb_error.KrbError.{KrbError}
use Rattle.krb_messages.specs.EncKdcRep.{enc_kdc_rep}
use Rattle.krb_messages.specs.KdcRep.{kdc_rep}
use Rattle.s4u_client.specs.declared.cred.Pending.{Pending}
use Rattle.s4u_client.specs.declared.cred.Want.{Want}
use Rattle.s4u_client.specs.declared.fault.FinishFault.{FinishFault}
use Rattle.s4u_client.specs.declared.fault.FinishFault.TheVariants.{Denied, Differs, NoMemory, NotOpened, Unreadable}
use Rattle.s4u_client.specs.Finishing.{TextsDiffer, awaits_as, client_row, comparisons, etype_row, is_asked_enterprise, is_krbtgt_in, nonce_row, not_denied, part_in, part_of, readable, reply_in, server_row, ticket_row}
use Rattle.s4u_client.specs.Requests.{asked_in}
use Rattle.s4u_client.specs.Writable.{IsName, IsWant}
use Rattle.s4u_client.proofs.DifferingTexts.{names_differ}
use Rattle.s4u_client.proofs.Replies.{client_is_name, server_is_name}

-- ---- numbers

int_same : (a b : ℤ) → a ≡ b → int_eq a b ≡ true
int_same a b e = subst (λ (n : ℤ). int_eq n b ≡ true) (sym e) (int_eq_equiv.refl b)

numbers_differ : (sent got : ℤ) → mag sent < 2 ^ 63 → mag got < 2 ^ 63 → int_eq got sent ≡ false → signed_decimal sent ≢ signed_decimal got
numbers_differ sent got few less other e =
    let same = int_same got sent (sym (signed_decimal_injective sent got few less e)) in
    absurd cc

nonces_differ : (pending : Pending) (part : EncKdcRep) → IsWant pending.want → enc_kdc_rep.Fits part → (nonce_row pending part).1 ≡ false → TextsDiffer (nonce_row pending part).0
unfolding enc_kdc_rep
nonces_differ pending part w fits other =
    numbers_differ pending.want.nonce part.nonce (let h = w.nonce.1.0.sfits in omega (arith, h)) (let h = fits.1.1.1.0.1.0.sfits in omega (arith, h)) other

type_same : (e : Etype) → is_number (etype_number e) (pos (etype_number e)) ≡ true
type_same Aes128 = refl
type_same Aes256 = refl

type_small : (e : Etype) → mag (pos (etype_number e)) < 2 ^ 63
type_small Aes128 = omega arith
type_small Aes256 = omega arith

etypes_differ : (pending : Pending) (reply : KdcRep) → kdc_rep.Fits reply → (etype_row pending reply).1 ≡ false → TextsDiffer (etype_row pending reply).0
unfolding kdc_rep
etypes_differ pending reply fits other e =
    let came : ℤ = reply.enc_part.etype in
    let small = (int32_only came fits.1.1.1.1.1.1.1.0.1.0).sfits in
    let number : ℤ = pos (etype_number pending.key.etype) in
    let same : number ≡ came = signed_decimal_injective number came (type_small pending.key.etype) (omega (arith, small)) e in
    let found = subst (λ (n : ℤ). is_number (etype_number pending.key.etype) n ≡ true) same (type_same pending.key.etype) in
    absurd cc

-- ---- names

asked_is_name : (want : Want) → IsWant want → IsName (asked_in want.realm want.server)
asked_is_name want w = record { kind = w.kind; parts = w.parts; realm = w.realm }

ticket_is_name : (x : Ticket) → ticket.Fits x → IsName x.sname
ticket_is_name x fits =
    let of_name = fits.1.1.1.0 in
    let same : x.realm ≡ x.sname.realm = ap (λ (y : Ticket). y.sname.realm) fits.0 in
    record {
      kind = int32_only x.sname.kind of_name.1.0;
      parts = parts_only x.sname.kind x.sname.parts of_name.1.1.0;
      realm = subst (λ (name : List ℕ). is_realm name ≡ true) same (realm_only x.realm fits.1.1.0);
    }

of_reply : (x : KdcRep) → kdc_rep.Fits x → ticket.Fits x.ticket
unfolding kdc_rep
of_reply x fits = fits.1.1.1.1.1.1.0

texts_differ : (sent got : Principal) → IsName sent → IsName got → same_principal got sent ≡ false → name_text sent ≢ name_text got
texts_differ sent got w v other e = names_differ got sent v w other (sym e)

clients_differ : (pending : Pending) (reply : KdcRep) (part : EncKdcRep) → IsName pending.client → kdc_rep.Fits reply → (client_row pending reply part).1 ≡ false → TextsDiffer (client_row pending reply part).0
clients_differ pending reply part w fits other =
    texts_differ pending.client reply.cname w (client_is_name reply fits) (neither (same_principal reply.cname pending.client) _ other).0

servers_differ : (want : Want) (part : EncKdcRep) → IsWant want → enc_kdc_rep.Fits part → (server_row want part).1 ≡ false → TextsDiffer (server_row want part).0
servers_differ want part w fits other =
    let name : Principal = part.sname in
    let asked : Principal = asked_in want.realm want.server in
    let front = (neither (same_principal name asked || is_asked_enterprise want name) (is_krbtgt_in want.realm name) other).0 in
    texts_differ asked name (asked_is_name want w) (server_is_name part fits) (neither (same_principal name asked) (is_asked_enterprise want name) front).0

tickets_differ : (reply : KdcRep) (part : EncKdcRep) → kdc_rep.Fits reply → enc_kdc_rep.Fits part → (ticket_row reply part).1 ≡ false → TextsDiffer (ticket_row reply part).0
tickets_differ reply part fits own other = texts_differ part.sname reply.ticket.sname (server_is_name part own) (ticket_is_name reply.ticket (of_reply reply fits)) other

-- ---- the first that differs

abbrev Holds : FinishFault × Bool → Type 0
Holds row = row.1 ≡ false → TextsDiffer row.0

some_is : (a b : FinishFault) → Some a ≡ Some b → a ≡ b
some_is a b e = ap (λ (o : Option FinishFault). unwrap_or o a) e

by_test : (test : Bool) (here : FinishFault) (later : Option FinishFault) (fault : FinishFault) → (test ≡ false → TextsDiffer here) → (later ≡ Some fault → TextsDiffer fault)
    → (if test then later else Some here) ≡ Some fault → TextsDiffer fault
by_test true here later fault h k e = k e
by_test false here later fault h k e = subst TextsDiffer (some_is here fault e) (h refl)

first_differs : (rows : List (FinishFault × Bool)) (fault : FinishFault) → AllByRecursion Holds rows → first_failing rows ≡ Some fault → TextsDiffer fault
first_differs [] fault h e = absurd cc
first_differs (row ∷ rows) fault h e = by_test row.1 row.0 (first_failing rows) fault h.0 (first_differs rows fault h.1) e

compared : (pending : Pending) (reply : KdcRep) (part : EncKdcRep) → IsName pending.client → IsWant pending.want → kdc_rep.Fits reply → enc_kdc_rep.Fits part → AllByRecursion Holds (comparisons pending reply part)
compared pending reply part w want fits own = (
  nonces_differ pending part want own,
  (
    clients_differ pending reply part w fits,
    (servers_differ pending.want part want own, (tickets_differ reply part fits own, (etypes_differ pending reply fits, tt))),
  ),
)

-- ---- of a call that answers a fault, where want of memory is free

free : (fault : FinishFault) → (fault ≢ NoMemory → TextsDiffer fault) → TextsDiffer fault
free (Denied code text) h = tt
free (Unreadable place) h = tt
free NotOpened h = tt
free (Differs field sent got) h = h (λ e. absurd cc)
free NoMemory h = tt

pub compared_told : (pending : Pending) (reply : KdcRep) (part : EncKdcRep) (fault : FinishFault) → IsName pending.client → IsWant pending.want → kdc_rep.Fits reply → enc_kdc_rep.Fits part
    → (fault ≢ NoMemory → first_failing (comparisons pending reply part) ≡ Some fault) → TextsDiffer fault
compared_told pending reply part fault w want fits own h =
    free fault (λ other. first_differs (comparisons pending reply part) fault (compared pending reply part w want fits own) (h other))

pub told : {X : Type 0} (result : Result X FinishFault) (fault : FinishFault) → IsErr result × IsErrAnd result (λ told. told ≡ fault) → TextsDiffer fault → IfErr result TextsDiffer
told (Ok x) fault h differ = tt
told (Err other) fault h differ = subst TextsDiffer (sym h.1) differ

-- a reading has no such fault
abbrev Plain : {X : Type 0} → Result X FinishFault → Type 0
Plain r = IfErr r TextsDiffer

plain_told : {X : Type 0} (r : Result X FinishFault) (fault : FinishFault) → Plain r → r ≡ Err fault → TextsDiffer fault
plain_told {X} r fault plain e = subst (λ (q : Result X FinishFault). IfErr q TextsDiffer) e plain

pub step_told : {X : Type 0} (r : Result X FinishFault) (fault : FinishFault) → Plain r → (fault ≢ NoMemory → r ≡ Err fault) → TextsDiffer fault
step_told r fault plain h = free fault (λ other. plain_told r fault plain (h other))

pub denied_plain : (r : Result KrbError DerRefusal) → Plain (not_denied r)
denied_plain (Ok error) = tt
denied_plain (Err refusal) = tt

readable_plain : {X : Type 0} (r : Result X DerRefusal) → Plain (readable r)
readable_plain (Ok x) = tt
readable_plain (Err refusal) = tt

chosen_plain : {X : Type 0} (test : Bool) (r : Result X DerRefusal) → Plain (if test then readable r else Err (Unreadable 0))
chosen_plain true r = readable_plain r
chosen_plain false r = tt

pub reply_plain : (is_as : Bool) (bytes : List ℕ) → Plain (reply_in is_as bytes)
reply_plain is_as bytes = chosen_plain (begins (tag_in 0x6b 0x6d is_as) bytes) (whole kdc_rep bytes)

opened_plain : (is_as : Bool) (text : Option (List ℕ)) → Plain (or_fault NotOpened text >>= λ bytes. part_in is_as bytes)
opened_plain is_as None = tt
opened_plain is_as (Some bytes) = chosen_plain (is_as || not (begins 0x79 bytes)) (whole enc_kdc_rep bytes)

pub part_plain : (pending : Pending) (reply : KdcRep) → Plain (part_of pending reply)
part_plain pending reply = opened_plain (awaits_as pending) (opened pending.key pending.usage reply.enc_part.cipher)
