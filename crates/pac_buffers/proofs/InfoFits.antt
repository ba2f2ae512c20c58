-- Which values can be written, and that they are read again.
use Rattle.std.proofs.Common.{◌≡◌, ℕ, ◌+◌, ◌*◌, ◌/◌, ◌%◌, ◌<◌, ◌≤◌, ◌^◌, ◌⊎◌, inl, inr, ℤ, pos, true, false, not, eqb, leb, List, [], ◌∷◌, length, map, Some, Ok, append-nil, refl, sym, ap, ◌∙◌, arith}
use Rattle.std.specs.List.{All}
use Rattle.std.proofs.lemmas.Bool.{eq-eqb, eqb-true, le-leb, leb-true}
use Rattle.std.proofs.lemmas.List.{nil_from_length}
use Rattle.std.proofs.lemmas.List.Elements.{All-head, All-tail}
use Rattle.kdc_prelude.proofs.Bools.{both}
use Rattle.krb_names.specs.Utf16.{utf16le_reading, utf16le_text}
use Rattle.ndr_core.specs.Layout.{Layout}
use Rattle.ndr_core.specs.Fields.{is_between}
use Rattle.ndr_core.specs.Arrays.{repeated, each}
use Rattle.ndr_core.specs.Object.{blank, object, spelling, packed, packed_spelling}
use Rattle.ndr_core.specs.Laws.{IsLayout}
use Rattle.ndr_core.proofs.ObjectLaws.{object_again, packed_spelt, packed_only}
use Rattle.ndr_values.specs.Sids.{packed_sid}
use Rattle.ndr_values.specs.Texts.{string_head, text_of, head_of}
use Rattle.ndr_values.proofs.TextLaws.{string_head_fits, one_of, pointed_fits, not_false}
use Rattle.pac_buffers.specs.declared.client_info.ClientInfo.{ClientInfo}
use Rattle.pac_buffers.specs.declared.delegation_info.DelegationInfo.{DelegationInfo}
use Rattle.pac_buffers.specs.declared.requestor.Requestor.{Requestor}
use Rattle.pac_buffers.specs.declared.signature_data.SignatureData.{SignatureData}
use Rattle.pac_buffers.specs.Client.{client}
use Rattle.pac_buffers.specs.Delegation.{listed, delegation}
use Rattle.pac_buffers.specs.Requestor.{requestor}
use Rattle.pac_buffers.specs.Signature.{signature, front_of, natural}
use Rattle.pac_buffers.proofs.InfoLaws.{client_lawful, delegation_lawful, requestor_lawful, signature_lawful}
use Rattle.pac_buffers.proofs.Readings.{front_only}
use Rattle.pac_buffers.proofs.Sizes.{packed_sid_most, client_most, signature_most, delegation_most}

packed_again : {X : Type 0} (c : Layout X) (x : X) → IsLayout c → c.Fits x → length (packed_spelling c x) < 2 ^ 31 → packed c (packed_spelling c x) ≡ Ok x
packed_again c x lawful fits short = packed_only c (packed_spelling c x) x lawful (packed_spelt c x lawful fits short)

pub requestor_again : (r : Requestor) → packed_sid.Fits r.sid → packed requestor (packed_spelling requestor r) ≡ Ok r
requestor_again r fits =
    let few : length r.sid.numbers ≤ 15 = leb-true _ _ (both (leb 1 (length r.sid.numbers)) (leb (length r.sid.numbers) 15) fits.1.1.0.1).1 in
    packed_again requestor r requestor_lawful (refl, fits) (omega (arith, packed_sid_most blank r.sid few))

client_fits : (c : ClientInfo) → c.time < 2 ^ 64 → utf16le_reading (utf16le_text c.name) ≡ Some c.name → length (utf16le_text c.name) ≤ 65534 → client.Fits c
client_fits c time back few =
    let whole : c.time % 2 ^ 32 + c.time / 2 ^ 32 * 2 ^ 32 ≡ c.time = omega arith in
    let with_time : ℕ → ClientInfo = λ t. record { time = t; name = c.name } in
    (ap with_time whole, (omega arith, (omega arith, (omega arith, (back, refl)))))

pub client_again : (c : ClientInfo) → c.time < 2 ^ 64 → utf16le_reading (utf16le_text c.name) ≡ Some c.name → length (utf16le_text c.name) ≤ 65534 → packed client (packed_spelling client c) ≡ Ok c
client_again c time back few = packed_again client c client_lawful (client_fits c time back few) (omega (arith, client_most blank c few))

kind_fits : (z : ℤ) → (z ≡ pos 15) ⊎ (z ≡ pos 16) → (pos (natural z) ≡ z) × (natural z < 2 ^ 32) × (is_between 15 16 (natural z) ≡ true)
kind_fits z (inl e) = (ap (λ y. pos (natural y)) e ∙ sym e, omega (arith, ap natural e), ap (λ y. is_between 15 16 (natural y)) e)
kind_fits z (inr e) = (ap (λ y. pos (natural y)) e ∙ sym e, omega (arith, ap natural e), ap (λ y. is_between 15 16 (natural y)) e)

signature_fits : (x : SignatureData) → (x.sum_type ≡ pos 15) ⊎ (x.sum_type ≡ pos 16) → length x.sum ≡ 12 → signature.Fits x
signature_fits x kind sized =
    let k = kind_fits x.sum_type kind in
    let with_kind : ℤ → SignatureData = λ z. record { sum_type = z; sum = x.sum } in
    (ap with_kind k.0, ((k.1, k.2), sized))

pub signature_again : (x : SignatureData) → (x.sum_type ≡ pos 15) ⊎ (x.sum_type ≡ pos 16) → length x.sum ≡ 12 → front_of signature (packed_spelling signature x) ≡ Ok x
signature_again x kind sized =
    let spelt = packed_spelt signature x signature_lawful (signature_fits x kind sized) (omega (arith, signature_most blank x sized)) in
    front_only signature (packed_spelling signature x) x signature_lawful (record { front = packed_spelling signature x; rest = []; whole = sym (append-nil (packed_spelling signature x)); is_ndr = spelt })

-- ---- delegation information

heads_fit : (texts : List (List ℕ)) → All (λ t. length (utf16le_text t) ≤ 65534) texts → (repeated (length texts) string_head).Fits (map head_of texts)
heads_fit [] short = tt
heads_fit (t ∷ ts) short =
    (string_head_fits t (All-head (λ u. length (utf16le_text u) ≤ 65534) t ts short), heads_fit ts (All-tail (λ u. length (utf16le_text u) ≤ 65534) t ts short))

texts_fit : (texts : List (List ℕ)) → All (λ t. (text_of (head_of t)).Fits t) texts → (each text_of (map head_of texts)).Fits texts
texts_fit [] fit = tt
texts_fit (t ∷ ts) fit =
    (All-head (λ u. (text_of (head_of u)).Fits u) t ts fit, texts_fit ts (All-tail (λ u. (text_of (head_of u)).Fits u) t ts fit))

listed_fits : (texts : List (List ℕ)) → length texts ≤ 32 → All (λ t. length (utf16le_text t) ≤ 65534) texts → All (λ t. (text_of (head_of t)).Fits t) texts → (listed (length texts)).Fits texts
listed_fits texts few short fit =
    (refl, (((omega arith, eq-eqb (length texts) (length texts) refl), le-leb (length texts) 1024 (omega arith)), (heads_fit texts short, texts_fit texts fit)))

no_services : (texts : List (List ℕ)) → not (eqb (length texts) 0) ≡ false → texts ≡ []
no_services texts none = nil_from_length texts (eqb-true _ _ (not_false _ none))

delegation_fits : (d : DelegationInfo) → length (utf16le_text d.target) ≤ 65534 → length d.services ≤ 32 → All (λ t. length (utf16le_text t) ≤ 65534) d.services
    → (text_of (head_of d.target)).Fits d.target → All (λ t. (text_of (head_of t)).Fits t) d.services → delegation.Fits d
delegation_fits d target few short target_fits fit =
    let low = le-leb 0 (length d.services) (omega arith) in
    let high = le-leb (length d.services) 32 few in
    let size : is_between 0 32 (length d.services) ≡ true = rw (low, high) refl in
    (refl, ((string_head_fits d.target target, ((omega arith, size), (tt, one_of (eqb (length d.services) 0)))), (target_fits, pointed_fits _ (listed (length d.services)) [] d.services (listed_fits d.services few short fit) (no_services d.services))))

pub delegation_again : (d : DelegationInfo) → length (utf16le_text d.target) ≤ 65534 → length d.services ≤ 32 → All (λ t. length (utf16le_text t) ≤ 65534) d.services
    → (text_of (head_of d.target)).Fits d.target → All (λ t. (text_of (head_of t)).Fits t) d.services → object delegation (spelling delegation d) ≡ Ok d
delegation_again d target few short target_fits fit =
    object_again delegation d delegation_lawful (delegation_fits d target few short target_fits fit) (omega (arith, delegation_most d target few short))
