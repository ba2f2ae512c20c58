use Rattle.std.proofs.Common.{ℕ, List, Bor, Option, refl, sym, ap, ◌∙◌}
use Rattle.std.specs.Option.{option_copied}
use Rattle.pac_buffers.specs.Buffers.{with_sum}
use Rattle.pac_buffers.proofs.Sums.{put_gives}
use Rattle.pac_sign.specs.Signed.{with_ticket}
use Rattle.pac_sign.proofs.signing.sign_ticket.Goals as goal

pub returns-in-Some : goal.returns-in-Some
returns-in-Some c =
    let put = put_gives 16 c.mac.result c.args.pac.now c.put.new.self c.put.result refl c.put.ensures.done c.put.ensures.value c.put.ensures.unchanged in
    let bs = c.args.pac.now in
    put ∙ ap (λ (s : List ℕ). with_sum 16 s bs) c.mac.ensures ∙ ap (λ (o : Option (Bor (List ℕ))). with_ticket c.args.realm.now (option_copied o) bs) (sym c.in-Some.is)
