use Rattle.std.proofs.Common.{◌≡◌, ℕ, List, Ok, sym, subst, rules}
use Rattle.ndr_core.specs.Object.{packed, packed_spelling}
use Rattle.pac_buffers.specs.Requestor.{requestor}
use Rattle.pac_buffers.proofs.InfoFits.{requestor_again}
use Rattle.pac_buffers.proofs.requestor.Requestor.write.Goals as goal

pub returns-clause-exact : goal.returns-clause-exact
returns-clause-exact c =
    let ok : c.from_vec.result ≡ packed_spelling requestor c.args.self.now = search rules in
    subst (λ (b : List ℕ). packed requestor b ≡ Ok c.args.self.now) (sym ok) (requestor_again c.args.self.now c.in_ok-put_packed_sid.ensures.fits)
