use Rattle.std.proofs.Common.{◌≡◌, ℕ, List, refl, ap, ◌∙◌}
use Rattle.pac_buffers.specs.Buffers.{Buffer, with_sum}
use Rattle.pac_buffers.proofs.Sums.{put_gives}
use Rattle.pac_sign.specs.Sums.{sum_of}
use Rattle.pac_sign.specs.Signed.{server_sum, with_server, signed}
use Rattle.pac_sign.proofs.signing.sign.Goals as goal

pub returns : goal.returns
unfolding signed
returns c =
    let server = c.args.server.now in
    let realm = c.args.realm.now in
    let bs : List Buffer = c.sign_ticket.new.pac in
    let sum : c.server_sum-sum.result ≡ server_sum server bs = c.server_sum-sum.ensures in
    let first : c.put.new.self ≡ with_sum 6 c.server_sum-sum.result bs = put_gives 6 c.server_sum-sum.result bs c.put.new.self c.put.result refl c.put.ensures.done c.put.ensures.value c.put.ensures.unchanged in
    let second : c.put-2.new.self ≡ with_sum 7 c.mac.result c.put.new.self = put_gives 7 c.mac.result c.put.new.self c.put-2.new.self c.put-2.result refl c.put-2.ensures.done c.put-2.ensures.value c.put-2.ensures.unchanged in
    let kdc : c.mac.result ≡ sum_of realm c.server_sum-sum.result = c.mac.ensures in
    let whole : c.put-2.new.self ≡ with_server server realm bs =
    second ∙ ap (λ (l : List Buffer). with_sum 7 c.mac.result l) first ∙ ap (λ (k : List ℕ). with_sum 7 k (with_sum 6 c.server_sum-sum.result bs)) kdc
    ∙ ap (λ (s : List ℕ). with_sum 7 (sum_of realm s) (with_sum 6 s bs)) sum in
    record { value = whole ∙ ap (with_server server realm) c.sign_ticket.ensures }
