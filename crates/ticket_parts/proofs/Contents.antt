-- The buffers of a PAC that was built and signed.
use Rattle.std.proofs.Common.{◌≡◌, ℕ, ◌⊎◌, inl, inr, ℤ, pos, Bool, true, false, ◌||◌, ◌&&◌, cond, List, ◌++◌, length, take, Option, Some, None, refl, ap, ◌∙◌, arith}
use Rattle.std.specs.Prelude.{Result, is_none, is_some, option_map}
use Rattle.std.proofs.lemmas.List.{length-take-le}
use Rattle.std.specs.Result.{result_ok}
use Rattle.kdc_prelude.specs.Steps.{◌>>=◌}
use Rattle.krb_crypto.specs.Derivation.{checksum_key}
use Rattle.krb_crypto.specs.KeyedHash.{hmac_sha1}
use Rattle.krb_crypto.proofs.Opening.{length-sha1}
use Rattle.krb_names.specs.declared.etype.Etype.{Etype}
use Rattle.krb_names.specs.declared.etype.Etype.TheVariants.{Aes128, Aes256}
use Rattle.krb_names.specs.declared.key.Key.{Key}
use Rattle.krb_names.specs.Keys.{key_bytes}
use Rattle.ndr_core.specs.declared.fault.LogonFault.{LogonFault}
use Rattle.pac_buffers.specs.declared.signature_data.SignatureData.{SignatureData}
use Rattle.pac_buffers.specs.Buffers.{Buffer, built, content_of, pac, unsigned, with_sum, with_value, IsSound as IsSoundPac}
use Rattle.pac_buffers.specs.Container.{buffer_of}
use Rattle.pac_buffers.specs.Signature.{front_of, signature}
use Rattle.pac_buffers.proofs.Contents.{buffer_is}
use Rattle.pac_buffers.proofs.Sums.{length-sum, sum_sound}
use Rattle.pac_laws.proofs.Written.{signature_read}
use Rattle.pac_sign.specs.Signed.{cleared, server_sum, signed, with_server}
use Rattle.pac_sign.specs.Sums.{sum_of, sum_type}
use Rattle.pac_sign.proofs.Signatures.{content_other, content_own}
use Rattle.ticket_parts.specs.Records.{are_signatures_in, is_signature_in, is_signature_or_absent}

-- ---- what is built

pub built_server : (logon client : List ℕ) (delegation : Option (List ℕ)) (ticket : Bool) (s r : ℤ) → content_of 6 (built logon client delegation ticket s r) ≡ Some (unsigned 6 s).content
built_server logon client None ticket s r = refl
built_server logon client (Some d) ticket s r = refl

pub built_kdc : (logon client : List ℕ) (delegation : Option (List ℕ)) (ticket : Bool) (s r : ℤ) → content_of 7 (built logon client delegation ticket s r) ≡ Some (unsigned 7 r).content
built_kdc logon client None ticket s r = refl
built_kdc logon client (Some d) ticket s r = refl

built_ticket : (logon client : List ℕ) (delegation : Option (List ℕ)) (s r : ℤ) → content_of 16 (built logon client delegation true s r) ≡ Some (unsigned 16 r).content
built_ticket logon client None s r = refl
built_ticket logon client (Some d) s r = refl

built_no_ticket : (logon client : List ℕ) (delegation : Option (List ℕ)) (s r : ℤ) → content_of 16 (built logon client delegation false s r) ≡ None
built_no_ticket logon client None s r = refl
built_no_ticket logon client (Some d) s r = refl

pub built_delegation : (logon client : List ℕ) (delegation : Option (List ℕ)) (ticket : Bool) (s r : ℤ) → content_of 11 (built logon client delegation ticket s r) ≡ delegation
built_delegation logon client None true s r = refl
built_delegation logon client None false s r = refl
built_delegation logon client (Some d) ticket s r = refl

-- ---- what is signed

sum_length : (key : Key) (text : List ℕ) → length (sum_of key text) ≡ 12
sum_length key text =
    let long : length (hmac_sha1 (key_bytes (checksum_key key 17)) text) ≡ 20 = length-sha1 _ in
    length-take-le 12 (hmac_sha1 (key_bytes (checksum_key key 17)) text) (omega arith)

server_size : (holder realm : Key) (bs : List Buffer) → IsSoundPac bs → length (pac (with_server holder realm bs)) ≡ length (pac bs)
server_size holder realm bs sound =
    let s : List ℕ = server_sum holder bs in
    let twelve : length s ≡ 12 = sum_length holder (pac (cleared bs)) in
    length-sum 7 (sum_of realm s) (with_sum 6 s bs) (sum_sound 6 s bs sound refl twelve) refl (sum_length realm s) ∙ length-sum 6 s bs sound refl twelve

-- a PAC is as long once it is signed
pub signed_size : (holder realm : Key) (part : Option (List ℕ)) (bs : List Buffer) → IsSoundPac bs → length (pac (signed holder realm part bs)) ≡ length (pac bs)
unfolding signed
signed_size holder realm None bs sound = server_size holder realm bs sound
signed_size holder realm (Some part) bs sound =
    let x : List ℕ = sum_of realm part in
    server_size holder realm (with_sum 16 x bs) (sum_sound 16 x bs sound refl (sum_length realm part)) ∙ length-sum 16 x bs sound refl (sum_length realm part)

-- the signature buffer of this type has a checksum in the place of the zeros
pub record IsSigned (kind : ℕ) (type : ℤ) (bs : List Buffer) : Type 0 where
  pub sum : List ℕ
  pub sized : length sum ≡ 12
  pub found : content_of kind bs ≡ Some (with_value kind sum (unsigned kind type)).content

six_seven : ◌≡◌ {A = ℕ} 6 7 → ⊥
six_seven e = omega arith

seven_six : ◌≡◌ {A = ℕ} 7 6 → ⊥
seven_six e = omega arith

six_sixteen : ◌≡◌ {A = ℕ} 6 16 → ⊥
six_sixteen e = omega arith

seven_sixteen : ◌≡◌ {A = ℕ} 7 16 → ⊥
seven_sixteen e = omega arith

sixteen_six : ◌≡◌ {A = ℕ} 16 6 → ⊥
sixteen_six e = omega arith

sixteen_seven : ◌≡◌ {A = ℕ} 16 7 → ⊥
sixteen_seven e = omega arith

abbrev renewed : List ℕ → Option (List ℕ) → Option (List ℕ)
renewed sum o = option_map (λ content. take 4 content ++ sum) o

server_by : (holder realm : Key) (bs : List Buffer) (type : ℤ) → content_of 6 bs ≡ Some (unsigned 6 type).content → IsSigned 6 type (with_server holder realm bs)
server_by holder realm bs type e =
    let s : List ℕ = server_sum holder bs in
    record {
      sum = s;
      sized = sum_length holder (pac (cleared bs));
      found = content_other 6 7 (sum_of realm s) (with_sum 6 s bs) six_seven ∙ content_own 6 s bs ∙ ap (renewed s) e;
    }

kdc_by : (holder realm : Key) (bs : List Buffer) (type : ℤ) → content_of 7 bs ≡ Some (unsigned 7 type).content → IsSigned 7 type (with_server holder realm bs)
kdc_by holder realm bs type e =
    let s : List ℕ = server_sum holder bs in
    let k : List ℕ = sum_of realm s in
    record {
      sum = k;
      sized = sum_length realm s;
      found = content_own 7 k (with_sum 6 s bs) ∙ ap (renewed k) (content_other 7 6 s bs seven_six ∙ e);
    }

server_signed : (holder realm : Key) (part : Option (List ℕ)) (bs : List Buffer) (type : ℤ) → content_of 6 bs ≡ Some (unsigned 6 type).content → IsSigned 6 type (signed holder realm part bs)
unfolding signed
server_signed holder realm None bs type e = server_by holder realm bs type e
server_signed holder realm (Some part) bs type e = server_by holder realm (with_sum 16 (sum_of realm part) bs) type (content_other 6 16 (sum_of realm part) bs six_sixteen ∙ e)

kdc_signed : (holder realm : Key) (part : Option (List ℕ)) (bs : List Buffer) (type : ℤ) → content_of 7 bs ≡ Some (unsigned 7 type).content → IsSigned 7 type (signed holder realm part bs)
unfolding signed
kdc_signed holder realm None bs type e = kdc_by holder realm bs type e
kdc_signed holder realm (Some part) bs type e = kdc_by holder realm (with_sum 16 (sum_of realm part) bs) type (content_other 7 16 (sum_of realm part) bs seven_sixteen ∙ e)

past_server : (holder realm : Key) (bs : List Buffer) → content_of 16 (with_server holder realm bs) ≡ content_of 16 bs
past_server holder realm bs =
    let s : List ℕ = server_sum holder bs in
    content_other 16 7 (sum_of realm s) (with_sum 6 s bs) sixteen_seven ∙ content_other 16 6 s bs sixteen_six

ticket_signed : (holder realm : Key) (part : List ℕ) (bs : List Buffer) (type : ℤ) → content_of 16 bs ≡ Some (unsigned 16 type).content → IsSigned 16 type (signed holder realm (Some part) bs)
unfolding signed
ticket_signed holder realm part bs type e =
    let x : List ℕ = sum_of realm part in
    record {
      sum = x;
      sized = sum_length realm part;
      found = past_server holder realm (with_sum 16 x bs) ∙ content_own 16 x bs ∙ ap (renewed x) e;
    }

no_ticket : (holder realm : Key) (bs : List Buffer) → content_of 16 bs ≡ None → content_of 16 (signed holder realm None bs) ≡ None
unfolding signed
no_ticket holder realm bs e = past_server holder realm bs ∙ e

-- ---- the signatures read

read_signature : (kind : ℕ) (type : ℤ) (bs : List Buffer) → IsSoundPac bs → (type ≡ pos 15) ⊎ (type ≡ pos 16) → IsSigned kind type bs → is_signature_in (pac bs) kind ≡ true
read_signature kind type bs sound is h =
    let content : List ℕ = (with_value kind h.sum (unsigned kind type)).content in
    ap (λ (o : Option (List ℕ)). is_some (o >>= λ c. result_ok (front_of signature c))) (buffer_is kind bs sound ∙ h.found)
    ∙ ap (λ (r : Result SignatureData LogonFault). is_some (result_ok r)) (signature_read kind type h.sum is h.sized)

pub type_is : (e : Etype) → (pos (sum_type e) ≡ pos 15) ⊎ (pos (sum_type e) ≡ pos 16)
type_is Aes128 = inl refl
type_is Aes256 = inr refl

or_true : (a b : Bool) → b ≡ true → (a || b) ≡ true
or_true true b e = refl
or_true false b e = e

-- the buffers that are built for these keys; a part is signed where there is a ticket signature
abbrev pub built_for : Key → Key → Bool → List ℕ → List ℕ → Option (List ℕ) → List Buffer
built_for holder realm ticket logon client delegation = built logon client delegation ticket (pos (sum_type holder.etype)) (pos (sum_type realm.etype))

ticket_reads : (holder realm : Key) (ticket : Bool) (part logon client : List ℕ) (delegation : Option (List ℕ))
    → IsSoundPac (signed holder realm (cond ticket (Some part) None) (built_for holder realm ticket logon client delegation))
    → is_signature_or_absent (pac (signed holder realm (cond ticket (Some part) None) (built_for holder realm ticket logon client delegation))) 16 ≡ true
ticket_reads holder realm true part logon client delegation sound =
    let bs : List Buffer = built_for holder realm true logon client delegation in
    let type : ℤ = pos (sum_type realm.etype) in
    let h = ticket_signed holder realm part bs type (built_ticket logon client delegation (pos (sum_type holder.etype)) type) in
    or_true _ _ (read_signature 16 type (signed holder realm (Some part) bs) sound (type_is realm.etype) h)
ticket_reads holder realm false part logon client delegation sound =
    let bs : List Buffer = built_for holder realm false logon client delegation in
    let all : List Buffer = signed holder realm None bs in
    let none : buffer_of 16 (pac all) ≡ None = buffer_is 16 all sound ∙ no_ticket holder realm bs (built_no_ticket logon client delegation (pos (sum_type holder.etype)) (pos (sum_type realm.etype))) in
    ap (λ (o : Option (List ℕ)). is_none o || is_signature_in (pac all) 16) none

pub signatures_read : (holder realm : Key) (ticket : Bool) (part logon client : List ℕ) (delegation : Option (List ℕ))
    → IsSoundPac (signed holder realm (cond ticket (Some part) None) (built_for holder realm ticket logon client delegation))
    → are_signatures_in (pac (signed holder realm (cond ticket (Some part) None) (built_for holder realm ticket logon client delegation))) ≡ true
signatures_read holder realm ticket part logon client delegation sound =
    let s : ℤ = pos (sum_type holder.etype) in
    let r : ℤ = pos (sum_type realm.etype) in
    let bs : List Buffer = built logon client delegation ticket s r in
    let over : Option (List ℕ) = cond ticket (Some part) None in
    let all : List Buffer = signed holder realm over bs in
    let six : is_signature_in (pac all) 6 ≡ true = read_signature 6 s all sound (type_is holder.etype) (server_signed holder realm over bs s (built_server logon client delegation ticket s r)) in
    let seven : is_signature_in (pac all) 7 ≡ true = read_signature 7 r all sound (type_is realm.etype) (kdc_signed holder realm over bs r (built_kdc logon client delegation ticket s r)) in
    let sixteen : is_signature_or_absent (pac all) 16 ≡ true = ticket_reads holder realm ticket part logon client delegation sound in
    ap (λ (t : Bool). t && is_signature_in (pac all) 7 && is_signature_or_absent (pac all) 16) six ∙ ap (λ (t : Bool). t && is_signature_or_absent (pac all) 16) seven ∙ sixteen
