-- What a server signature covers.
use Rattle.std.proofs.Common.{◌≡◌, ℕ, ◌+◌, ◌-◌, true, List, ◌++◌, take, drop, replicate, Option, Some, None, min, refl, sym, ap, ◌∙◌, append_assoc, arith}
use Rattle.std.specs.Prelude.{option_map}
use Rattle.std.specs.declared.ops.Range.{Range}
use Rattle.krb_crypto.specs.Checksums.{zeroed}
use Rattle.pac_buffers.specs.declared.info_buffer.InfoBuffer.{InfoBuffer}
use Rattle.pac_buffers.specs.Container.{entry_of}
use Rattle.pac_buffers.specs.Places.{place_of}
use Rattle.pac_buffers.specs.Buffers.{Buffer, pac, with_sum, is_signature, IsSound}
use Rattle.pac_buffers.proofs.Sums.{sum_put, not_put, signature_lies, sum_sound, entry_same}
use Rattle.pac_sign.specs.Sums.{value_place, value_place_in, covered}
use Rattle.pac_sign.specs.Signed.{cleared}

abbrev zeroed_at : Range ℕ → List ℕ → List ℕ
zeroed_at p bytes = zeroed p.start p.end bytes

one_zeroed_by : (kind : ℕ) (bs : List Buffer) (o : Option InfoBuffer) → IsSound bs → is_signature kind ≡ true → entry_of kind (pac bs) ≡ o → zeroed_at (value_place (option_map place_of o)) (pac bs) ≡ pac (with_sum kind (replicate 12 0) bs)
one_zeroed_by kind bs None sound signature is = ap pac (sym (not_put kind (replicate 12 0) bs sound is))
one_zeroed_by kind bs (Some e) sound signature is =
    let lies = signature_lies kind bs e sound signature is in
    let from : min (e.offset + 4) (e.offset + e.size) ≡ e.offset + 4 = omega (arith, lies.0) in
    let to : min (e.offset + 16) (e.offset + e.size) ≡ e.offset + 4 + 12 = omega (arith, lies.0) in
    let gap : e.offset + 4 + 12 - (e.offset + 4) ≡ 12 = omega arith in
    ap (λ (n : ℕ). zeroed n (min (e.offset + 16) (e.offset + e.size)) (pac bs)) from
    ∙ ap (λ (n : ℕ). zeroed (e.offset + 4) n (pac bs)) to
    ∙ ap (λ (n : ℕ). (take (e.offset + 4) (pac bs) ++ replicate n 0) ++ drop (e.offset + 4 + 12) (pac bs)) gap
    ∙ append_assoc (take (e.offset + 4) (pac bs)) (replicate 12 0) (drop (e.offset + 4 + 12) (pac bs))
    ∙ sum_put kind (replicate 12 0) bs e sound signature refl is

one_zeroed : (kind : ℕ) (bs : List Buffer) → IsSound bs → is_signature kind ≡ true → zeroed_at (value_place_in kind (pac bs)) (pac bs) ≡ pac (with_sum kind (replicate 12 0) bs)
one_zeroed kind bs sound signature = one_zeroed_by kind bs (entry_of kind (pac bs)) sound signature refl

-- it is the PAC with both checksums zero
pub covered_is : (bs : List Buffer) → IsSound bs → covered (pac bs) ≡ pac (cleared bs)
unfolding covered
covered_is bs sound =
    let first : List Buffer = with_sum 6 (replicate 12 0) bs in
    let kept : IsSound first = sum_sound 6 (replicate 12 0) bs sound refl refl in
    let place : value_place_in 7 (pac bs) ≡ value_place_in 7 (pac first) = ap (λ (o : Option InfoBuffer). value_place (option_map place_of o)) (sym (entry_same 6 (replicate 12 0) bs 7 sound refl refl)) in
    ap (zeroed_at (value_place_in 7 (pac bs))) (one_zeroed 6 bs sound refl) ∙ ap (λ (p : Range ℕ). zeroed_at p (pac first)) place ∙ one_zeroed 7 first kept refl
