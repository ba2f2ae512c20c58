-- What was signed verifies.
use Rattle.std.proofs.Common.{◌≡◌, ℕ, pos, true, List, [], ◌++◌, length, take, replicate, Option, Some, None, refl, ap, ◌∙◌, arith}
use Rattle.std.specs.Prelude.{is_some, option_map, unwrap_or}
use Rattle.std.specs.Int.{w32, from_le_bytes}
use Rattle.krb_names.specs.declared.etype.Etype.{Etype}
use Rattle.krb_names.specs.declared.etype.Etype.TheVariants.{Aes128, Aes256}
use Rattle.krb_names.specs.declared.key.Key.{Key}
use Rattle.krb_crypto.specs.Derivation.{checksum_key}
use Rattle.krb_names.specs.Keys.{key_bytes}
use Rattle.krb_crypto.specs.KeyedHash.{hmac_sha1}
use Rattle.krb_crypto.proofs.Opening.{length-sha1}
use Rattle.std.proofs.lemmas.List.{length-take-le}
use Rattle.pac_buffers.specs.Container.{buffer_of}
use Rattle.pac_buffers.specs.Buffers.{Buffer, pac, with_sum, content_of, is_signature, unsigned, built, IsSound}
use Rattle.std.specs.Prelude.{nat_eq, ◌||◌}
use Rattle.std.proofs.lemmas.Bool.{eqb-false}
use Rattle.pac_buffers.proofs.Lists.{not_first, not_second}
use Rattle.pac_buffers.proofs.Built.{built_is_sound}
use Rattle.pac_buffers.proofs.Contents.{buffer_is}
use Rattle.pac_buffers.proofs.Sums.{sum_sound, wholes}
use Rattle.pac_sign.specs.Sums.{sum_type, sum_of, covered}
use Rattle.pac_sign.specs.Signed.{cleared, server_sum, with_server, signed}
use Rattle.pac_sign.specs.Verified.{value_for, is_value, server_holds, kdc_holds, ticket_holds}
use Rattle.pac_sign.specs.Laws.{type_of, IsFor, SignedIsSound, OthersStay, SignedVerifies, BuiltVerifies}
use Rattle.krb_crypto.proofs.Texts.{text_itself}
use Rattle.pac_sign.proofs.Covered.{covered_is}
use Rattle.pac_sign.proofs.Signatures.{content_own, content_other, signature_whole, sum_twice, sums_commute, value_is}

length-sum_of : (key : Key) (text : List ℕ) → length (sum_of key text) ≡ 12
length-sum_of key text =
    let own : Key = checksum_key key 17 in
    let long : length (hmac_sha1 (key_bytes own) text) ≡ 20 = length-sha1 _ in
    length-take-le 12 (hmac_sha1 (key_bytes own) text) (omega arith)

-- a signature whose type is known
record IsTyped (kind : ℕ) (key : Key) (bs : List Buffer) : Type 0 where
  content : List ℕ
  found : content_of kind bs ≡ Some content
  kind_is : from_le_bytes w32 content ≡ sum_type key.etype

number_is : (a b : ℕ) → Some a ≡ Some b → a ≡ b
number_is a b e = cc

typed_by : (kind : ℕ) (key : Key) (bs : List Buffer) (o : Option (List ℕ)) → content_of kind bs ≡ o → option_map (λ content. from_le_bytes w32 content) o ≡ Some (sum_type key.etype) → IsTyped kind key bs
typed_by kind key bs None is e = absurd cc
typed_by kind key bs (Some content) is e = record { content = content; found = is; kind_is = number_is _ _ e }

typed : (kind : ℕ) (key : Key) (bs : List Buffer) → type_of kind bs ≡ Some (sum_type key.etype) → IsTyped kind key bs
typed kind key bs e = typed_by kind key bs (content_of kind bs) refl e

-- the value that was put is read
value_read : (kind : ℕ) (key : Key) (sum : List ℕ) (bs : List Buffer) → IsSound bs → is_signature kind ≡ true → length sum ≡ 12 → type_of kind bs ≡ Some (sum_type key.etype) → value_for key (content_of kind (with_sum kind sum bs)) ≡ Some sum
value_read kind key sum bs sound signature twelve e =
    let t = typed kind key bs e in
    ap (value_for key) (content_own kind sum bs ∙ ap (option_map (λ (c : List ℕ). take 4 c ++ sum)) t.found) ∙ value_is key t.content sum (signature_whole kind bs t.content sound signature t.found) twelve t.kind_is

six_seven : ◌≡◌ {A = ℕ} 6 7 → ⊥
six_seven e = omega arith

seven_six : ◌≡◌ {A = ℕ} 7 6 → ⊥
seven_six e = omega arith

six_sixteen : ◌≡◌ {A = ℕ} 6 16 → ⊥
six_sixteen e = omega arith

seven_sixteen : ◌≡◌ {A = ℕ} 7 16 → ⊥
seven_sixteen e = omega arith

sixteen_six : ◌≡◌ {A = ℕ} 16 6 → ⊥
sixteen_six e = omega arith

sixteen_seven : ◌≡◌ {A = ℕ} 16 7 → ⊥
sixteen_seven e = omega arith

-- the values of the two signatures do not count for what is covered
cleared_same : (s k : List ℕ) (bs : List Buffer) → IsSound bs → length s ≡ 12 → cleared (with_sum 7 k (with_sum 6 s bs)) ≡ cleared bs
cleared_same s k bs sound twelve =
    let zeros : List ℕ = replicate 12 0 in
    let six : with_sum 6 zeros (with_sum 6 s bs) ≡ with_sum 6 zeros bs = sum_twice 6 zeros s bs (wholes 6 bs refl sound.signed) in
    let kept : IsSound (with_sum 6 zeros bs) = sum_sound 6 zeros bs sound refl refl in
    ap (with_sum 7 zeros) (sums_commute 6 7 zeros k (with_sum 6 s bs) six_seven ∙ ap (with_sum 7 k) six) ∙ sum_twice 7 zeros k (with_sum 6 zeros bs) (wholes 7 (with_sum 6 zeros bs) refl kept.signed)

-- ---- the three signatures

server_right : (server realm : Key) (bs : List Buffer) → IsSound bs → type_of 6 bs ≡ Some (sum_type server.etype)
    → (value_for server (buffer_of 6 (pac (with_server server realm bs))) ≡ Some (server_sum server bs)) × (server_holds server (pac (with_server server realm bs)) ≡ true)
server_right server realm bs sound e =
    let s : List ℕ = server_sum server bs in
    let k : List ℕ = sum_of realm s in
    let first : IsSound (with_sum 6 s bs) = sum_sound 6 s bs sound refl (length-sum_of server (pac (cleared bs))) in
    let p : List Buffer = with_server server realm bs in
    let kept : IsSound p = sum_sound 7 k (with_sum 6 s bs) first refl (length-sum_of realm s) in
    let value : value_for server (buffer_of 6 (pac p)) ≡ Some s =
    ap (value_for server) (buffer_is 6 p kept ∙ content_other 6 7 k (with_sum 6 s bs) six_seven) ∙ value_read 6 server s bs sound refl (length-sum_of server (pac (cleared bs))) e in
    let same : sum_of server (covered (pac p)) ≡ s = ap (sum_of server) (covered_is p kept ∙ ap pac (cleared_same s k bs sound (length-sum_of server (pac (cleared bs))))) in
    (value, ap (λ (o : Option (List ℕ)). is_value o (sum_of server (covered (pac p)))) value ∙ ap (λ (x : List ℕ). is_value (Some s) x) same ∙ text_itself s)

kdc_right : (server realm : Key) (bs : List Buffer) → IsSound bs → type_of 6 bs ≡ Some (sum_type server.etype) → type_of 7 bs ≡ Some (sum_type realm.etype) → kdc_holds server realm (pac (with_server server realm bs)) ≡ true
kdc_right server realm bs sound e f =
    let s : List ℕ = server_sum server bs in
    let k : List ℕ = sum_of realm s in
    let first : IsSound (with_sum 6 s bs) = sum_sound 6 s bs sound refl (length-sum_of server (pac (cleared bs))) in
    let p : List Buffer = with_server server realm bs in
    let kept : IsSound p = sum_sound 7 k (with_sum 6 s bs) first refl (length-sum_of realm s) in
    let moved : type_of 7 (with_sum 6 s bs) ≡ Some (sum_type realm.etype) = ap (option_map (λ (c : List ℕ). from_le_bytes w32 c)) (content_other 7 6 s bs seven_six) ∙ f in
    let value : value_for realm (buffer_of 7 (pac p)) ≡ Some k = ap (value_for realm) (buffer_is 7 p kept) ∙ value_read 7 realm k (with_sum 6 s bs) first refl (length-sum_of realm s) moved in
    ap (λ (o : Option (List ℕ)). is_value o (sum_of realm (unwrap_or (value_for server (buffer_of 6 (pac p))) []))) value
    ∙ ap (λ (o : Option (List ℕ)). is_value (Some k) (sum_of realm (unwrap_or o []))) (server_right server realm bs sound e).0 ∙ text_itself k

ticket_right : (server realm : Key) (part : List ℕ) (bs : List Buffer) → IsSound bs → type_of 16 bs ≡ Some (sum_type realm.etype)
    → ticket_holds realm part (pac (with_server server realm (with_sum 16 (sum_of realm part) bs))) ≡ true
ticket_right server realm part bs sound e =
    let x : List ℕ = sum_of realm part in
    let t : List Buffer = with_sum 16 x bs in
    let ticketed : IsSound t = sum_sound 16 x bs sound refl (length-sum_of realm part) in
    let s : List ℕ = server_sum server t in
    let k : List ℕ = sum_of realm s in
    let first : IsSound (with_sum 6 s t) = sum_sound 6 s t ticketed refl (length-sum_of server (pac (cleared t))) in
    let p : List Buffer = with_server server realm t in
    let kept : IsSound p = sum_sound 7 k (with_sum 6 s t) first refl (length-sum_of realm s) in
    let value : value_for realm (buffer_of 16 (pac p)) ≡ Some x =
    ap (value_for realm) (buffer_is 16 p kept ∙ content_other 16 7 k (with_sum 6 s t) sixteen_seven ∙ content_other 16 6 s t sixteen_six) ∙ value_read 16 realm x bs sound refl (length-sum_of realm part) e in
    ap (λ (o : Option (List ℕ)). is_value o x) value ∙ text_itself x

type_other : (kind other : ℕ) (sum : List ℕ) (bs : List Buffer) (n : ℕ) → (kind ≡ other → ⊥) → type_of kind bs ≡ Some n → type_of kind (with_sum other sum bs) ≡ Some n
type_other kind other sum bs n apart e = ap (option_map (λ (c : List ℕ). from_le_bytes w32 c)) (content_other kind other sum bs apart) ∙ e

pub signed_right : SignedVerifies
unfolding signed
signed_right server realm None bs sound types =
    let first = (server_right server realm bs sound types.server_type).1 in
    let second = kdc_right server realm bs sound types.server_type types.kdc_type in
    rw (first, second) refl
signed_right server realm (Some part) bs sound types =
    let x : List ℕ = sum_of realm part in
    let t : List Buffer = with_sum 16 x bs in
    let ticketed : IsSound t = sum_sound 16 x bs sound refl (length-sum_of realm part) in
    let six = type_other 6 16 x bs (sum_type server.etype) six_sixteen types.server_type in
    let seven = type_other 7 16 x bs (sum_type realm.etype) seven_sixteen types.kdc_type in
    let first = (server_right server realm t ticketed six).1 in
    let second = kdc_right server realm t ticketed six seven in
    let third = ticket_right server realm part bs sound types.ticket_type in
    rw (first, second, third) refl

-- ---- PACs that are built

type_built : (e : Etype) (kind : ℕ) → from_le_bytes w32 (unsigned kind (pos (sum_type e))).content ≡ sum_type e
type_built Aes128 kind = refl
type_built Aes256 kind = refl

built_for : (server realm : Key) (part delegation : Option (List ℕ)) (logon client : List ℕ) → IsFor server realm part (built logon client delegation (is_some part) (pos (sum_type server.etype)) (pos (sum_type realm.etype)))
built_for server realm None None logon client = record { server_type = ap Some (type_built server.etype 6); kdc_type = ap Some (type_built realm.etype 7); ticket_type = tt }
built_for server realm None (Some d) logon client = record { server_type = ap Some (type_built server.etype 6); kdc_type = ap Some (type_built realm.etype 7); ticket_type = tt }
built_for server realm (Some part) None logon client = record { server_type = ap Some (type_built server.etype 6); kdc_type = ap Some (type_built realm.etype 7); ticket_type = ap Some (type_built realm.etype 16) }
built_for server realm (Some part) (Some d) logon client = record { server_type = ap Some (type_built server.etype 6); kdc_type = ap Some (type_built realm.etype 7); ticket_type = ap Some (type_built realm.etype 16) }

pub built_right : BuiltVerifies
built_right server realm part delegation logon client few =
    let bs : List Buffer = built logon client delegation (is_some part) (pos (sum_type server.etype)) (pos (sum_type realm.etype)) in
    signed_right server realm part bs (built_is_sound logon client delegation (is_some part) (pos (sum_type server.etype)) (pos (sum_type realm.etype)) few) (built_for server realm part delegation logon client)

-- ---- the other buffers

with_server_sound : (server realm : Key) (bs : List Buffer) → IsSound bs → IsSound (with_server server realm bs)
with_server_sound server realm bs sound =
    let s : List ℕ = server_sum server bs in
    sum_sound 7 (sum_of realm s) (with_sum 6 s bs) (sum_sound 6 s bs sound refl (length-sum_of server (pac (cleared bs)))) refl (length-sum_of realm s)

pub signed_sound : SignedIsSound
unfolding signed
signed_sound server realm None bs sound = with_server_sound server realm bs sound
signed_sound server realm (Some part) bs sound = with_server_sound server realm (with_sum 16 (sum_of realm part) bs) (sum_sound 16 (sum_of realm part) bs sound refl (length-sum_of realm part))

with_server_others : (server realm : Key) (bs : List Buffer) (kind : ℕ) → (◌≡◌ {A = ℕ} kind 6 → ⊥) → (◌≡◌ {A = ℕ} kind 7 → ⊥) → content_of kind (with_server server realm bs) ≡ content_of kind bs
with_server_others server realm bs kind not_six not_seven =
    let s : List ℕ = server_sum server bs in
    content_other kind 7 (sum_of realm s) (with_sum 6 s bs) not_seven ∙ content_other kind 6 s bs not_six

pub others_stay : OthersStay
unfolding signed
others_stay server realm None bs kind other =
    let two = not_first (nat_eq kind 6 || nat_eq kind 7) (nat_eq kind 16) other in
    with_server_others server realm bs kind (eqb-false _ _ (not_first (nat_eq kind 6) (nat_eq kind 7) two)) (eqb-false _ _ (not_second (nat_eq kind 6) (nat_eq kind 7) two))
others_stay server realm (Some part) bs kind other =
    let two = not_first (nat_eq kind 6 || nat_eq kind 7) (nat_eq kind 16) other in
    with_server_others server realm (with_sum 16 (sum_of realm part) bs) kind (eqb-false _ _ (not_first (nat_eq kind 6) (nat_eq kind 7) two)) (eqb-false _ _ (not_second (nat_eq kind 6) (nat_eq kind 7) two))
    ∙ content_other kind 16 (sum_of realm part) bs (eqb-false _ _ (not_second (nat_eq kind 6 || nat_eq kind 7) (nat_eq kind 16) other))
