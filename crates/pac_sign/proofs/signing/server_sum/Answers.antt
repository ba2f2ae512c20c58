use Rattle.std.proofs.Common.{◌≡◌, ℕ, List, ap, ◌∙◌}
use Rattle.std.specs.declared.ops.Range.{Range}
use Rattle.krb_crypto.specs.Checksums.{zeroed}
use Rattle.pac_buffers.specs.Buffers.{pac}
use Rattle.pac_sign.specs.Sums.{value_place, value_place_in, sum_of, covered}
use Rattle.pac_sign.proofs.Covered.{covered_is}
use Rattle.pac_sign.proofs.signing.server_sum.Goals as goal

pub returns : goal.returns
unfolding covered
returns c =
    let bs = c.args.pac.now in
    let server : c.value_place.result ≡ value_place_in 6 (pac bs) = c.value_place.ensures.value ∙ ap value_place c.place.ensures.exact in
    let kdc : c.value_place-2.result ≡ value_place_in 7 (pac bs) = c.value_place-2.ensures.value ∙ ap value_place c.place-2.ensures.exact in
    let key = c.args.server.now in
    c.mac_zeroed.ensures
    ∙ ap (λ (l : List ℕ). sum_of key (zeroed c.value_place-2.result.start c.value_place-2.result.end (zeroed c.value_place.result.start c.value_place.result.end l))) c.as_slice-bytes.ensures.value
    ∙ ap (λ (p : Range ℕ). sum_of key (zeroed c.value_place-2.result.start c.value_place-2.result.end (zeroed p.start p.end (pac bs)))) server
    ∙ ap (λ (p : Range ℕ). sum_of key (zeroed p.start p.end (zeroed (value_place_in 6 (pac bs)).start (value_place_in 6 (pac bs)).end (pac bs)))) kdc
    ∙ ap (sum_of key) (covered_is bs c.as_slice-bytes.ensures.sound)
