use Rattle.std.proofs.Common.{◌≡◌, ℕ, List, Ok, length, sym, subst, rules}
use Rattle.ndr_core.specs.Object.{packed_spelling}
use Rattle.pac_buffers.specs.Signature.{signature, front_of}
use Rattle.pac_buffers.proofs.InfoFits.{signature_again}
use Rattle.pac_buffers.proofs.signature_data.SignatureData.write.Goals as goal

pub returns-clause-exact : goal.returns-clause-exact
returns-clause-exact c =
    let ok : c.from_vec.result ≡ packed_spelling signature c.args.self.now = search rules in
    let sized : length c.args.self.now.sum ≡ 12 = search rules in
    subst (λ (b : List ℕ). front_of signature b ≡ Ok c.args.self.now) (sym ok) (signature_again c.args.self.now c.requires.kind sized)
